use Rattle.std.proofs.Common.{arith, refl}
use Rattle.inspect.proofs.Joins.{join_clean}
use Rattle.inspect.proofs.Joined.join.Goals as goal

pub returns : goal.returns
returns c =
    let a = c.args in
    join_clean a.self a.from a.m (record { size = _; size_is = omega arith; object = _; object_is = omega arith; gap = _; gap_is = omega arith; last = _; last_is = refl })
