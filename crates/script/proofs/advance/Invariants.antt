use Prim.Native.Nat.{◌-◌}
use lib.ListN.{length}
use Rattle.script.proofs.Advancing.{Far}
use Rattle.script.proofs.advance.Given as goal

abbrev pub invariant-loop-lines : goal.invariant-loop-lines
invariant-loop-lines l = Far l.initial.program l.bytes l.last l.initial.lines l.taken l.program l.lines

abbrev pub decreases-loop-lines : goal.decreases-loop-lines
decreases-loop-lines l = length l.lines.out.now - l.lines.end
