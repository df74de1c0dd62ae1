use Rattle.table.specs.Places.{mapping_at}
use Rattle.table.proofs.read_mapping.Goals as goal

pub returns : goal.returns
unfolding mapping_at
returns c = c.mapping_from.ensures
