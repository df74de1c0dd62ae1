use Rattle.std.proofs.Common.{arith}
use Rattle.inspect.proofs.Spared.{space_ends, free_valid}
use Rattle.inspect.proofs.bad_place.Goals as goal

pub overflow_add-s : goal.overflow_add-s
overflow_add-s c =
    omega (arith, (space_ends c.args.s.space c.args.s.kept).space)

pub all_fit-requires : goal.all_fit-requires
all_fit-requires c =
    let ends = space_ends c.args.s.space c.args.s.kept in
    (c.requires, omega (arith, ends.space), ends.start)

pub new-table-requires : goal.new-table-requires
new-table-requires c =
    let a = c.args in
    free_valid a.s.space a.t.now a.count (space_ends a.s.space a.s.kept) c.requires (c.all_fit.ensures c.if-all_fit.true)
