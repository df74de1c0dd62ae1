use native.Mathlib.Omega.{arith}
use Rattle.change.proofs.Hits.{hit_at}
use Rattle.change.proofs.Changed.{fits_places, full, short, carried_out}
use Rattle.change.proofs.change.Goals as goal

pub returns-then-is_full : goal.returns-then-is_full
returns-then-is_full c =
    full c.behind_hits-hi.ensures c.args.operations.now c.replacement-new.ensures c.replacement_length.ensures.0 (omega (arith, c.if-is_full.true))

pub returns-then-operations-number : goal.returns-then-operations-number
returns-then-operations-number c =
    short c.behind_hits-hi.ensures c.args.operations.now c.replacement-new.ensures c.replacement_length.ensures.0 (omega (arith, c.if-is_full.false))
    c.operations_number-number.ensures (omega (arith, c.if-operations-number.true))

pub write_operations-requires : goal.write_operations-requires
write_operations-requires c =
    let hits = c.behind_hits-hi.ensures in
    record {
      count = c.args.count;
      table = c.requires.0.table;
      low = hits.low;
      high = hits.high;
      hit = hit_at hits.placed;
      not_empty = c.requires.0.not_empty;
      stop_most = c.requires.0.stop_most;
      offset_most = c.requires.0.offset_most;
      room = fits_places hits c.args.operations.now c.replacement-new.ensures c.replacement_length.ensures.0 c.operations_number-number.ensures
          (omega (arith, c.if-operations-number.false));
    }

pub returns : goal.returns
returns c =
    carried_out c.behind_hits-hi.ensures c.args.operations.now c.replacement-new.ensures c.replacement_length.ensures.0 (omega (arith, c.if-is_full.false))
    c.operations_number-number.ensures (omega (arith, c.if-operations-number.false)) c.write_operations.ensures c.splice.ensures
