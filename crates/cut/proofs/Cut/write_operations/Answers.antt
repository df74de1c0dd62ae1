use native.Mathlib.Omega.{arith}
use Rattle.cut.proofs.Written.{room_with, none_behind, new-behind}
use Rattle.cut.proofs.Cut.write_operations.Goals as goal

pub write_operation-requires : goal.write_operation-requires
write_operation-requires c = let pre = c.requires in omega (arith, room_with pre c.in-Some.ensures)

pub returns-in-Some : goal.returns-in-Some
returns-in-Some c = new-behind c.args.self.request c.args.t.now c.args.self.lo c.args.self.hi c.args.operations.now c.in-Some.ensures c.write_hits.ensures c.write_operation.ensures

pub returns-in_default : goal.returns-in_default
returns-in_default c = none_behind c.args.self.request c.args.t.now c.args.self.lo c.args.self.hi c.args.operations.now c.in_default.ensures c.write_hits.ensures
