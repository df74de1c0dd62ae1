use mathlib.Core.Path.{sym, ap, ◌∙◌}
use Rattle.std.proofs.Common.{List}
use Rattle.model.specs.declared.Mapping.{Mapping}
use Rattle.model.specs.Rows.{all}
use Rattle.model.specs.Rules.{stop}
use Rattle.table.specs.Places.{free_tests}
use mathlib.Core.Bool.{not}
use Rattle.rules.proofs.Laws.{refused_on, held, failed}
use Rattle.request.specs.Bound.{lent_words}
use Rattle.request.proofs.Lasts.{removed_some, removes_mapped, removes_refused, removes_granted}
use Rattle.model.specs.Calls.{range_of}
use Rattle.ranges.specs.Lists.{lent_list}
use Rattle.bind.proofs.remove_range.Goals as goal

pub returns-then-not-is_free : goal.returns-then-not-is_free
returns-then-not-is_free c =
    let a = c.args in
    let l = lent_words a.ranges.now a.range_count a.table.now a.count in
    λ os. removes_mapped a.r l os (sym (failed (c.is_free.ensures ∙ ap (λ (ms : List Mapping). all (free_tests c.args.r.address (stop c.args.r) ms)) c.new.ensures) (ap not c.if-not-is_free.true)))

pub overflow_sub-result : goal.overflow_sub-result
overflow_sub-result c =
    let a = c.args in
    removed_some (range_of a.r) (lent_list a.ranges.now a.range_count) (rw (c.in_ok-remove.was, c.range_of.ensures) at c.remove.ensures)

pub returns-in_err-remove : goal.returns-in_err-remove
returns-in_err-remove c =
    let a = c.args in
    let l = lent_words a.ranges.now a.range_count a.table.now a.count in
    λ os. rw (refused_on _ _ c.from_residual.ensures.1) (removes_refused a.r l os (sym (held (c.is_free.ensures ∙ ap (λ (ms : List Mapping). all (free_tests c.args.r.address (stop c.args.r) ms)) c.new.ensures) (ap not c.if-not-is_free.false))) (rw (c.in_err-remove.was, c.range_of.ensures) at c.remove.ensures))

pub returns : goal.returns
returns c =
    let a = c.args in
    let l = lent_words a.ranges.now a.range_count a.table.now a.count in
    λ os. removes_granted a.r l os (sym (held (c.is_free.ensures ∙ ap (λ (ms : List Mapping). all (free_tests c.args.r.address (stop c.args.r) ms)) c.new.ensures) (ap not c.if-not-is_free.false))) (rw (c.in_ok-remove.was, c.range_of.ensures) at c.remove.ensures)
