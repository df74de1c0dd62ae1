use mathlib.Core.Path.{◌∙◌}
use Rattle.ranges.proofs.Words.{out_written}
use Rattle.ranges.proofs.take_out.Goals as goal

pub returns : goal.returns
returns c =
    let a = c.args in
    c.store.ensures
    ∙ rw c.copy_run.ensures (out_written a.list.now a.count a.i c.requires.1 c.requires.2 c.requires.0)
