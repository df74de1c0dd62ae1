use mathlib.Core.Path.{refl, ap, ◌∙◌}
use Prim.Native.Nat.{◌+◌}
use native.Mathlib.Omega.{arith}
use lib.ListN.{length}
use Rattle.words.proofs.Stored.{length-stored}
use Rattle.text.proofs.Adding.{put_mid-stored}
use Rattle.text.proofs.Lines.bytes.Goals as goal

pub returns : goal.returns
returns c =
    let l = c.args.self.now in
    let run = c.args.run.now in
    let e = put_mid-stored l.out.now l.end (l.end + length run) c.copy_from_slice.ensures.after refl in
    record { bytes = e; behind = refl; within = omega arith; same_length = ap length e ∙ length-stored l.out.now l.end run c.requires; same_slice = refl }
