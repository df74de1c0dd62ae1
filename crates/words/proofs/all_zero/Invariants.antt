use Prim.Native.Nat.{◌*◌}
use Rattle.words.specs.Words.{Joins}
use Rattle.words.proofs.all_zero.Given as goal

abbrev pub invariant-loop-turn : goal.invariant-loop-turn
invariant-loop-turn l = Joins l.initial.all l.words 0 (128 * l.turn-index) l.all
