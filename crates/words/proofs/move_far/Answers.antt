use Prim.Native.Nat.{◌*◌, ◌/◌, ◌%◌}
use native.Mathlib.Omega.{arith}
use Rattle.words.proofs.Moved.{moved_more_down}
use Rattle.words.proofs.move_far.Goals as goal

pub returns : goal.returns
returns c =
    let a = c.args in
    let two = moved_more_down a.t.now _ _ a.from a.to (16 * (a.n / 16)) (4 * (a.n % 16 / 4)) (a.n / 16 * 16) (a.n / 4 * 4) (omega arith) (omega arith) (omega arith) (omega arith) c.down_by_blocks.ensures c.down_by_blocks-2.ensures in
    moved_more_down a.t.now _ _ a.from a.to (a.n / 4 * 4) (a.n % 4) (a.n / 4 * 4) a.n (omega arith) (omega arith) (omega arith) (omega arith) two c.copy_run.ensures
