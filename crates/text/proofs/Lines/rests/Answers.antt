use native.Mathlib.Omega.{arith}
use Rattle.program.specs.Text.{ascii}
use Rattle.text.proofs.Adding.{adds_most, adds_behind}
use Rattle.text.proofs.Lines.rests.Goals as goal

pub returns-in-Both : goal.returns-in-Both
unfolding ascii
returns-in-Both c =
    rw c.in-Both.is
    (adds_most (omega arith) (adds_behind (omega arith) c.mapping-in-Both.ensures c.mapping-in-Both-2.ensures))
