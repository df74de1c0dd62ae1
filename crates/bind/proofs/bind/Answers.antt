use mathlib.Core.Path.{◌∙◌}
use Rattle.rules.proofs.Laws.{refused_on}
use Rattle.request.specs.Bound.{lent_words}
use Rattle.bind.proofs.Binds.{bind_by}
use Rattle.bind.proofs.bind.Goals as goal

pub returns-in_err-form_verdict : goal.returns-in_err-form_verdict
returns-in_err-form_verdict c =
    let a = c.args in
    let l = lent_words a.ranges.now a.range_count a.table.now a.count in
    rw (refused_on _ _ c.from_residual.ensures.1)
    (bind_by a.s l a.operations.now a.q (rw c.from-r.ensures at c.in_err-form_verdict.ensures))

pub returns : goal.returns
returns c =
    let a = c.args in
    let l = lent_words a.ranges.now a.range_count a.table.now a.count in
    bind_by a.s l a.operations.now a.q (rw c.from-r.ensures at c.in_ok-form_verdict.ensures)
    ∙ (rw c.from-r.ensures at c.bind_request.ensures)
