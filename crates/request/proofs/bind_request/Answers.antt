use mathlib.Core.Path.{◌∙◌, ap}
use Rattle.rules.proofs.Laws.{refused_on}
use Rattle.table.specs.Places.{first_where, ends_behind}
use Rattle.request.specs.Bound.{lent_words}
use Rattle.request.proofs.Bound.{some, partly_passed, partly_refused}
use Rattle.request.proofs.Checked.{ready, checked_by}
use Rattle.request.proofs.Requested.{cut_there}
use Rattle.request.proofs.bind_request.Goals as goal

pub returns-in_err-verdict : goal.returns-in_err-verdict
returns-in_err-verdict c =
    let a = c.args in
    let l = lent_words a.ranges.now a.range_count a.table.now a.count in
    rw (refused_on _ _ c.from_residual.ensures.1)
    (partly_refused a.s l a.operations.now a.r (checked_by a.s l _ a.r c.in_err-verdict.ensures))

pub returns-in_err-request_verdict : goal.returns-in_err-request_verdict
returns-in_err-request_verdict c =
    let a = c.args in
    let l = lent_words a.ranges.now a.range_count a.table.now a.count in
    rw (refused_on _ _ c.from_residual-in_err-request_verdict.ensures.1)
    (partly_refused a.s l a.operations.now a.r (c.in_err-request_verdict.ensures ∙ checked_by a.s l _ a.r c.in_ok-verdict.ensures))

pub returns-then-r-ne0 : goal.returns-then-r-ne0
returns-then-r-ne0 c =
    let a = c.args in
    let l = lent_words a.ranges.now a.range_count a.table.now a.count in
    partly_passed a.s l a.operations.now a.r (some a.r.flags c.if-r-ne0.true)
    (c.in_ok-request_verdict.ensures ∙ checked_by a.s l _ a.r c.in_ok-verdict.ensures)

pub new-requires : goal.new-requires
new-requires c =
    let a = c.args in
    let l = lent_words a.ranges.now a.range_count a.table.now a.count in
    (ready a.s l _ a.r (c.in_ok-request_verdict.ensures ∙ checked_by a.s l _ a.r c.in_ok-verdict.ensures)).table

pub change-requires : goal.change-requires
change-requires c =
    let a = c.args in
    let l = lent_words a.ranges.now a.range_count a.table.now a.count in
    (ready a.s l _ a.r (c.in_ok-request_verdict.ensures ∙ checked_by a.s l _ a.r c.in_ok-verdict.ensures), c.first_ending_behind-place.ensures ∙ ap (first_where (ends_behind c.args.r.address)) c.new.ensures)

pub returns-in_err-made : goal.returns-in_err-made
returns-in_err-made c =
    let a = c.args in
    let l = lent_words a.ranges.now a.range_count a.table.now a.count in
    rw (refused_on _ _ c.from_residual-in_err-made.ensures.1)
    (cut_there a.s l a.operations.now a.r c.if-r-ne0.false (c.in_ok-request_verdict.ensures ∙ checked_by a.s l _ a.r c.in_ok-verdict.ensures) (rw c.in_err-made.was at c.change.ensures))

pub returns : goal.returns
returns c =
    let a = c.args in
    let l = lent_words a.ranges.now a.range_count a.table.now a.count in
    cut_there a.s l a.operations.now a.r c.if-r-ne0.false (c.in_ok-request_verdict.ensures ∙ checked_by a.s l _ a.r c.in_ok-verdict.ensures) (rw c.in_ok-made.was at c.change.ensures)
