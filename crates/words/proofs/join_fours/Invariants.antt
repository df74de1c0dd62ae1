use Prim.Native.Nat.{◌*◌}
use Rattle.words.specs.Words.{Joins}
use Rattle.words.proofs.join_fours.Given as goal

abbrev pub invariant-loop-four : goal.invariant-loop-four
invariant-loop-four l = Joins l.initial.all l.words 0 (4 * l.four-index) l.all
