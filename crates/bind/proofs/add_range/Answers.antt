use native.Mathlib.Omega.{arith}
use Rattle.rules.proofs.Laws.{refused_on}
use Rattle.request.specs.Bound.{lent_words}
use Rattle.ranges.proofs.Places.{valid_held}
use Rattle.request.proofs.Lasts.{adds_refused, adds_granted}
use Rattle.bind.proofs.add_range.Goals as goal

pub overflow_add-result : goal.overflow_add-result
overflow_add-result c =
    omega (arith, valid_held c.requires.list, c.ranges)

pub returns-in_err-add : goal.returns-in_err-add
returns-in_err-add c =
    let a = c.args in
    let l = lent_words a.ranges.now a.range_count a.table.now a.count in
    λ os. rw (refused_on _ _ c.from_residual.ensures.1)
    (adds_refused a.r l os (rw (c.in_err-add.was, c.range_of.ensures) at c.add.ensures))

pub returns : goal.returns
returns c =
    let a = c.args in
    let l = lent_words a.ranges.now a.range_count a.table.now a.count in
    λ os. adds_granted a.r l os (rw (c.in_ok-add.was, c.range_of.ensures) at c.add.ensures)
