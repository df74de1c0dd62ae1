use native.Mathlib.Omega.{arith}
use Rattle.program.specs.Text.{ascii}
use Rattle.text.proofs.Adding.{adds_most, adds_behind}
use Rattle.text.proofs.Lines.bare.Goals as goal

pub returns : goal.returns
unfolding ascii
returns c =
    adds_most (omega arith) (adds_behind (omega arith) c.phrase.ensures c.line.ensures)
