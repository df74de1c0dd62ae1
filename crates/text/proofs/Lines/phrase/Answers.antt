use native.Mathlib.Omega.{arith}
use Rattle.text.proofs.Adding.{adds_behind}
use Rattle.text.proofs.Lines.phrase.Goals as goal

pub returns : goal.returns
returns c = adds_behind (omega arith) c.bytes.ensures c.numbers.ensures
