use native.Mathlib.Omega.{arith}
use Rattle.program.specs.Text.{ascii}
use Rattle.text.proofs.Adding.{adds_most, adds_behind}
use Rattle.text.proofs.Lines.operation.Goals as goal

pub returns-in-Remap : goal.returns-in-Remap
unfolding ascii
returns-in-Remap c =
    rw c.in-Remap.is
    (adds_most (omega arith) (adds_behind (omega arith) c.keep.ensures c.rests.ensures))
