use mathlib.Core.Path.{refl}
use Rattle.rules.proofs.Laws.{refused_on}
use Rattle.request.specs.Bound.{lent_of}
use Rattle.request.proofs.Checked.{contents_by}
use Rattle.request.proofs.Lent.contents_verdict.Goals as goal

pub returns-in_err-contents_verdict : goal.returns-in_err-contents_verdict
returns-in_err-contents_verdict c =
    rw (refused_on _ _ c.from_residual.ensures.1) (contents_by c.args.s.space (lent_of c.args.self.now) c.in_err-contents_verdict.ensures refl)

pub returns : goal.returns
returns c = contents_by c.args.s.space (lent_of c.args.self.now) c.in_ok-contents_verdict.ensures c.list_verdict.ensures
