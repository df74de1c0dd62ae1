use mathlib.Core.Path.{◌≡◌}
use Prim.Native.Nat.{◌*◌}
use Rattle.words.specs.Words.{moved}
use Rattle.words.proofs.down_by_blocks.Given as goal

abbrev pub invariant-loop-i : goal.invariant-loop-i
invariant-loop-i g l = l.t ≡ moved l.initial.t l.from l.to (g.row.N * l.i)
