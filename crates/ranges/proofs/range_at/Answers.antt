use mathlib.Core.Path.{refl}
use Rattle.ranges.specs.Lists.{range_at}
use Rattle.ranges.proofs.range_at.Goals as goal

pub returns : goal.returns
unfolding range_at
returns c = refl
