use Rattle.std.proofs.Common.{List, [], ap, ◌∙◌}
use Rattle.model.specs.declared.Mapping.{Mapping}
use Rattle.model.specs.declared.Range.{Range}
use Rattle.model.specs.Cut.{see}
use Rattle.rules.proofs.Laws.{refused_on}
use Rattle.table.proofs.Kept.{kept_in}
use Rattle.ranges.specs.Beside.{beside}
use Rattle.request.specs.Bound.{lent_words}
use Rattle.request.proofs.Checked.{valid, valid_ranges}
use Rattle.bind.proofs.Lookups.{lookup_refused, lookup-shows}
use Rattle.bind.proofs.lookup.Goals as goal

pub new-requires : goal.new-requires
new-requires c =
    let a = c.args in
    let l = lent_words a.ranges.now a.range_count a.table.now a.count in
    (valid a.s l c.in_ok-lookup_verdict.ensures).0

pub see-alone-requires : goal.see-alone-requires
see-alone-requires c =
    let a = c.args in
    let l = lent_words a.ranges.now a.range_count a.table.now a.count in
    kept_in c.new.ensures (valid a.s l c.in_ok-lookup_verdict.ensures)

pub new-requires-2 : goal.new-requires-2
new-requires-2 c =
    let a = c.args in
    let l = lent_words a.ranges.now a.range_count a.table.now a.count in
    valid_ranges a.s l c.in_ok-lookup_verdict.ensures

pub returns-in_err-lookup_verdict : goal.returns-in_err-lookup_verdict
returns-in_err-lookup_verdict c =
    let a = c.args in
    let l = lent_words a.ranges.now a.range_count a.table.now a.count in
    rw (refused_on _ _ c.from_residual.ensures.1)
    (lookup_refused a.s l a.x c.in_err-lookup_verdict.ensures)

pub returns : goal.returns
returns c =
    let a = c.args in
    let l = lent_words a.ranges.now a.range_count a.table.now a.count in
    lookup-shows a.s l a.x c.in_ok-lookup_verdict.ensures
    (c.see-alone.ensures ∙ ap (λ (ms : List Mapping). see a.s [] ms a.x) c.new.ensures)
    (c.beside.ensures ∙ ap (λ (ys : List Range). beside ys a.x c.see-alone.result) c.new-2.ensures)
