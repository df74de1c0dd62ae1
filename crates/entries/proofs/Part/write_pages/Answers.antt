use native.Mathlib.Omega.{arith}
use Rattle.pages.proofs.Counts.{length-paged}
use Rattle.entries.specs.Sizes.{bytes_of}
use Rattle.entries.proofs.Written.{row-start, row_next}
use Rattle.entries.proofs.Part.write_pages.Goals as goal

pub loop-i-init : goal.loop-i-init
loop-i-init c =
    (row-start _ _ _, omega (arith, c.pages_in-count.ensures, length-paged (bytes_of c.args.size) c.args.self.now.mapping, c.requires))

pub loop-i-preserved : goal.loop-i-preserved
loop-i-preserved c =
    let m = c.args.self.now.mapping in
    let all = c.loop-i.invariant in
    (row_next c.bytes-bytes.result m.address m.offset c.loop-i.i all.0 (omega (arith, all.1, c.loop-i.auto.out, c.loop-i-test.true)), all.1)
