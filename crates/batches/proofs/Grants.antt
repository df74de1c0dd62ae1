-- The claim about granted batches, from its three parts.
-- Assumes nothing.
use Rattle.batches.specs.Grants.{BatchGrants}
use Rattle.batches.proofs.Batch.{granting}
use Rattle.batches.proofs.OneByOne.{one_by_one}
use Rattle.batches.proofs.Effect.{effect_all}
use Rattle.batches.proofs.Replay.{replay-all}

pub batch_grants : BatchGrants
batch_grants s l ws os bs g e =
    let k = granting s l ws os bs g e in
    record { one_by_one = one_by_one s l ws os bs g k; demand_2 = effect_all s l ws os bs g k; replay = replay-all s l ws os bs g k }
