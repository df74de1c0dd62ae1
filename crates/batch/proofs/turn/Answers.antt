use mathlib.Core.Path.{◌∙◌}
use Rattle.std.proofs.lemmas.Result.{err_from_is_err_and}
use Rattle.table.specs.Places.{lent}
use Rattle.batch.proofs.Ones.{form_by}
use Rattle.batch.proofs.turn.Goals as goal

pub returns-in_err-form_verdict : goal.returns-in_err-form_verdict
returns-in_err-form_verdict c =
    let a = c.args in
    let p = err_from_is_err_and c.from_residual.result c.from_residual.ensures.1 in
    rw (p.1, p.2) (form_by a.s (lent a.table.now a.count) a.operations.now a.r c.in_err-form_verdict.ensures)

pub returns : goal.returns
returns c =
    let a = c.args in
    form_by a.s (lent a.table.now a.count) a.operations.now a.r c.in_ok-form_verdict.ensures ∙ c.bind_known.ensures
