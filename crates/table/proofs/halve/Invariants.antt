use Rattle.std.proofs.Common.{length, ◌<◌, ◌^◌}
use Rattle.table.specs.Halving.{binary_digits}
use Rattle.table.proofs.Halving.{Left}
use Rattle.table.proofs.halve.Given as goal

abbrev pub invariant-loop : goal.invariant-loop
invariant-loop g l = (length (g.R.Rows.rows l.all) < 2 ^ 64) × Left (g.R.Rows.rows l.all) l.x l.s

abbrev pub invariant-loop-s : goal.invariant-loop-s
invariant-loop-s g l = (length (g.R.Rows.rows l.all) < 2 ^ 64) × Left (g.R.Rows.rows l.all) l.x l.s

abbrev pub decreases-loop-s : goal.decreases-loop-s
decreases-loop-s g l = binary_digits l.s.left
