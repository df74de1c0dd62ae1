use Rattle.cut.proofs.Written.{HitsTo}
use Rattle.cut.proofs.Cut.write_hits.Given as goal

abbrev pub invariant-loop-i : goal.invariant-loop-i
invariant-loop-i l = HitsTo l.self.request l.t l.self.lo l.initial.operations l.operations l.i
