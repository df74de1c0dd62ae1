use mathlib.Core.Path.{refl, ap, ◌∙◌}
use borrow.Rule.Slice.PartMut.{mid_len}
use Prim.Native.Nat.{◌*◌}
use native.Mathlib.Omega.{arith}
use lib.ListN.{length}
use Rattle.model.specs.Calls.{reply_of}
use Rattle.batch.proofs.Ones.{turn_place}
use Rattle.batch.proofs.Steps.{refused_there, granted_there, granted_fits, ends, by_chunks}
use Rattle.batch.proofs.turns.Goals as goal

pub overflow_add-made : goal.overflow_add-made
overflow_add-made c =
    let h = granted_fits c.loop-i.invariant refl (rw c.fields-r.ensures at c.turn.ensures) (ap reply_of c.in-Ok.is) in
    record { fits = omega (arith, h, c.ranges) }

pub invariant_of-result : goal.invariant_of-result
invariant_of-result c = record { own = turn_place _ _ _ _ c.in-Err.refusal c.loop-i.i c.in-Err.ensures }

pub returns-in-Err : goal.returns-in-Err
returns-in-Err c =
    by_chunks c.args.s _ c.args.operations.now c.args.records.now c.as_chunks.ensures.front
    (refused_there c.loop-i.invariant refl (rw c.fields-r.ensures at c.turn.ensures) c.loop-i-test.true
    (ap reply_of c.in-Err.is) refl)

pub loop-i-preserved : goal.loop-i-preserved
loop-i-preserved c =
    granted_there c.loop-i.invariant refl (rw c.fields-r.ensures at c.turn.ensures) c.loop-i-test.true (ap reply_of c.in-Ok.is)
    (c.turn.auto.operations ∙ mid_len (14 * c.loop-i.made.operations) (length c.loop-i.operations) c.loop-i.operations (omega arith))

pub returns : goal.returns
returns c = by_chunks c.args.s _ c.args.operations.now c.args.records.now c.as_chunks.ensures.front (ends c.loop-i.invariant c.loop-i-test.false)
