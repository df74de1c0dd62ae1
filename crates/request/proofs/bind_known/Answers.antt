use mathlib.Core.Path.{◌∙◌}
use Rattle.rules.proofs.Laws.{refused_on}
use Rattle.table.specs.Places.{lent}
use Rattle.request.proofs.Checked.{ready_known}
use Rattle.request.proofs.Requested.{known_refused, known_changed}
use Rattle.request.proofs.bind_known.Goals as goal

pub change-requires : goal.change-requires
change-requires c =
    let a = c.args in
    (ready_known a.s (lent a.table.now a.count) a.r c.requires.0 c.in_ok-request_verdict.ensures, c.requires.1)

pub returns-in_err-request_verdict : goal.returns-in_err-request_verdict
returns-in_err-request_verdict c =
    let a = c.args in
    rw (refused_on _ _ c.from_residual.ensures.1) (known_refused a.s (lent a.table.now a.count) a.operations.now a.r c.in_err-request_verdict.ensures)

pub returns : goal.returns
returns c =
    let a = c.args in
    known_changed a.s (lent a.table.now a.count) a.operations.now a.r c.in_ok-request_verdict.ensures ∙ c.change.ensures
