use Prim.Native.Nat.{◌-◌}
use native.Mathlib.Omega.{arith}
use Rattle.change.proofs.Hits.{low_high, cuttable, left_part, replaced_none, replaced}
use Rattle.change.proofs.replacement.Goals as goal

pub returns-then-hit : goal.returns-then-hit
returns-then-hit c = replaced_none c.requires c.new-new.result c.if-hit.true c.new-new.ensures

pub read_mapping-requires : goal.read_mapping-requires
read_mapping-requires c = let p = c.requires in omega (arith, low_high p, p.table.held, c.if-hit.false)

pub read_mapping-requires-2 : goal.read_mapping-requires-2
read_mapping-requires-2 c = let p = c.requires in omega (arith, low_high p, p.table.held, c.if-hit.false)

pub invariant_of-first : goal.invariant_of-first
invariant_of-first c =
    record { cuttable = cuttable c.requires c.args.hit.lo (omega arith) (omega (arith, low_high c.requires, c.if-hit.false)) c.read_mapping.ensures }

pub invariant_of-last : goal.invariant_of-last
invariant_of-last c =
    record { cuttable = cuttable c.requires (c.args.hit.hi - 1) (omega (arith, low_high c.requires, c.if-hit.false)) (omega (arith, low_high c.requires, c.if-hit.false)) c.read_mapping-2.ensures }

pub returns : goal.returns
returns c =
    replaced c.requires (record { lower = c.some_left.result; new = c.new-new.result; upper = c.some_left-2.result }) c.if-hit.false
    c.read_mapping.ensures c.read_mapping-2.ensures (left_part c.lower_part.ensures c.some_left.ensures) c.new-new.ensures (left_part c.upper_part.ensures c.some_left-2.ensures)
