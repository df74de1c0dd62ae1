use mathlib.Core.Path.{refl}
use mathlib.Core.List.{[]}
use Rattle.rules.proofs.Laws.{refused_on}
use Rattle.request.specs.Bound.{lent_of}
use Rattle.request.proofs.Checked.{lengths_held, lent_by}
use Rattle.request.proofs.Lent.verdict.Goals as goal

pub returns-in_err-lengths_verdict : goal.returns-in_err-lengths_verdict
returns-in_err-lengths_verdict c =
    rw (refused_on _ _ c.from_residual.ensures.1)
    (lent_by c.args.s (lent_of c.args.self.now) c.args.operation_words [] c.in_err-lengths_verdict.ensures refl)

pub new-requires : goal.new-requires
new-requires c = lengths_held c.args.s (lent_of c.args.self.now) c.args.operation_words c.in_ok-lengths_verdict.ensures

pub returns : goal.returns
returns c = lent_by c.args.s (lent_of c.args.self.now) c.args.operation_words [] c.in_ok-lengths_verdict.ensures (rw c.new.ensures at c.contents_verdict.ensures)
