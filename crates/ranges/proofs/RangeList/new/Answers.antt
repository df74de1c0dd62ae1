use Rattle.ranges.proofs.Kept.{widest_kept}
use Rattle.ranges.proofs.RangeList.new.Goals as goal

pub invariant_of-result : goal.invariant_of-result
invariant_of-result c = record { kept = widest_kept c.requires }
