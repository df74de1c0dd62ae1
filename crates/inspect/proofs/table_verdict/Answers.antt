use Rattle.model.specs.Rows.{decide}
use Rattle.rules.proofs.Laws.{held, failed}
use mathlib.Core.Path.{ap}
use mathlib.Core.Bool.{not}
use Rattle.inspect.proofs.table_verdict.Goals as goal

pub returns-then-not-length_is_right : goal.returns-then-not-length_is_right
unfolding decide
returns-then-not-length_is_right c = simp (failed c.length_is_right.ensures (ap not c.if-not-length_is_right.true))

pub returns : goal.returns
unfolding decide
returns c = simp (held c.length_is_right.ensures (ap not c.if-not-length_is_right.false)) c.contents_verdict.ensures
