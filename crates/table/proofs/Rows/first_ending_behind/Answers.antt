use Rattle.table.proofs.Looks.{place_is}
use Rattle.table.proofs.Rows.first_ending_behind.Goals as goal

pub returns : goal.returns
returns g c = place_is (g.met.Self.Rows.in_order c.args.self) c.args.x c.halve.ensures.0
