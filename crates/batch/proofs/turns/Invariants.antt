use Rattle.table.specs.Places.{lent}
use Rattle.batch.proofs.Steps.{Going}
use Rattle.batch.proofs.turns.Given as goal

abbrev pub invariant-loop-i : goal.invariant-loop-i
invariant-loop-i l = Going l.s l.records (lent l.initial.table l.count) l.initial.operations l.table l.operations l.made l.i
