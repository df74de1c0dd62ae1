use Rattle.std.proofs.Common.{arith}
use Rattle.table.specs.Held.{mappings_held}
use Rattle.inspect.proofs.Spared.{space_ends, kept_off}
use Rattle.inspect.proofs.spares_reservation.Goals as goal

pub overflow_add-end : goal.overflow_add-end
overflow_add-end c =
    omega (arith, (space_ends c.args.s.space c.args.s.kept).reserved)

pub returns : goal.returns
returns c =
    λ t. kept_off c.args.s.space (mappings_held c.args.table.now) _ c.first_ending_behind-first.ensures (c.is_free_from.ensures.start t)
