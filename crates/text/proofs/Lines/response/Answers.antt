use mathlib.Core.List.{flat_map, append-nil}
use native.Mathlib.Omega.{arith}
use Rattle.program.specs.Text.{ascii}
use Rattle.text.proofs.Adding.{adds_most}
use Rattle.text.proofs.Lines.response.Goals as goal

pub returns-in-Granted : goal.returns-in-Granted
unfolding ascii flat_map
returns-in-Granted c =
    rw (c.in-Granted.is, append-nil) (adds_most (omega arith) c.line-in-Granted.ensures)
