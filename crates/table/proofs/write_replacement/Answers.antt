use native.Mathlib.Omega.{arith}
use Rattle.table.proofs.Parts.{written-parts}
use Rattle.table.proofs.write_replacement.Goals as goal

pub returns : goal.returns
returns c =
    let a = c.args in
    written-parts a.new a.t.now a.i (omega arith) c.write_part-second.ensures.0 c.write_part-second.ensures.1 c.write_part-third.ensures.0 c.write_part-third.ensures.1
    c.write_part.ensures.0
