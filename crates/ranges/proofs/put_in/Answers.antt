use mathlib.Core.Path.{◌∙◌}
use native.Mathlib.Omega.{arith}
use Rattle.ranges.proofs.Words.{put_written}
use Rattle.ranges.proofs.put_in.Goals as goal

pub returns : goal.returns
returns c =
    let a = c.args in
    c.store.ensures
    ∙ rw c.copy_run.ensures (put_written a.list.now a.count a.i (omega arith) c.requires.2 a.x c.requires.0 c.requires.1)
