use mathlib.Core.Path.{refl}
use native.Mathlib.Omega.{arith}
use Rattle.model.specs.Table.{mappings_in}
use Rattle.model.proofs.Store.{length-mappings}
use Rattle.table.specs.Places.{ends_behind}
use Rattle.table.proofs.First.{first_most}
use Rattle.change.specs.Change.{Placed}
use Rattle.change.proofs.Hits.{low_high}
use Rattle.change.proofs.behind_hits.Goals as goal

pub first_starting_behind-requires : goal.first_starting_behind-requires
first_starting_behind-requires c =
    let a = c.args in
    (omega (arith, c.requires.1, first_most (ends_behind a.r.address) (mappings_in a.count a.t.now), length-mappings a.count a.t.now), c.requires.0.table.held)

pub returns : goal.returns
returns c =
    let g = c.requires.0 in
    let p : Placed c.args.r c.args.t.now c.args.lo c.first_starting_behind.result =
    record { count = c.args.count; table = g.table; not_empty = g.not_empty; stop_most = g.stop_most; low = c.requires.1; high = rw c.last_byte.ensures at c.first_starting_behind.ensures } in
    record { placed = p; count = refl; low = (low_high p).0; high = (low_high p).1 }
