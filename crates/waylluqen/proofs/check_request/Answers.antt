use mathlib.Core.Path.{ap, ◌∙◌}
use mathlib.Core.Bool.{not}
use Rattle.rules.proofs.Laws.{held, failed, refused_on}
use Rattle.model.specs.Rows.{decide}
use Rattle.waylluqen.proofs.Check.{check_by}
use Rattle.waylluqen.proofs.check_request.Goals as goal

pub returns-in_err-request : goal.returns-in_err-request
returns-in_err-request c = refused_on _ _ c.from_residual.ensures.1 ∙ check_by c.args.«record».now c.args.space c.in_err-request.ensures

pub returns-then-not-space_keeps_rules : goal.returns-then-not-space_keeps_rules
unfolding decide
returns-then-not-space_keeps_rules c =
    let checked = check_by c.args.«record».now c.args.space c.in_ok-request.ensures in
    simp (failed c.space_keeps_rules.ensures (ap not c.if-not-space_keeps_rules.true)) at checked

pub returns : goal.returns
unfolding decide
returns c =
    let checked = check_by c.args.«record».now c.args.space c.in_ok-request.ensures in
    simp (held c.space_keeps_rules.ensures (ap not c.if-not-space_keeps_rules.false)) c.request_verdict.ensures ∙ checked
