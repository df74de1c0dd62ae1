use lib.ListN.{length}
use Rattle.entries.specs.Sizes.{sizes_below}
use Rattle.entries.proofs.Part.+write.Given as goal

abbrev pub decreases-write : goal.decreases-write
decreases-write l = length (sizes_below l.size)
