use mathlib.Core.Path.{refl, sym, subst⁻¹, ◌∙◌}
use mathlib.Core.Logic.{inr}
use mathlib.Core.List.{[]}
use native.Mathlib.Omega.{arith}
use Rattle.std.proofs.Common.{Ok, Err, Continue}
use Rattle.vmbind.specs.declared.Failure.TheVariants.{TooLong}
use Rattle.vmbind.specs.Buffers.{Rounds, no_round, next}
use Rattle.vmbind.proofs.Answers.{fails_by}
use Rattle.vmbind.proofs.Runs.{held_after, ran, ran_failed, ran_done, goes_on}
use Rattle.vmbind.proofs.Run.follow.Goals as goal

pub loop-init : goal.loop-init
loop-init c = ([], subst⁻¹ (Rounds 0 [] (Ok (Continue tt))) c.requires.0 no_round)

pub round-requires : goal.round-requires
round-requires c = held_after c.loop.invariant.1

pub returns-in_err-round : goal.returns-in_err-round
returns-in_err-round c = rw (fails_by c.from_residual.ensures.1 refl) (ran_failed c.loop.invariant.1 (c.in_err-round.ensures {u = tt}))

pub returns-then-is_break : goal.returns-then-is_break
returns-then-is_break c = ran_done c.loop.invariant.1 (c.in_ok-round.ensures {u = tt}) (sym c.is_break.ensures ∙ c.if-is_break.true)

pub loop-preserved : goal.loop-preserved
loop-preserved c =
    let k = goes_on (sym c.is_break.ensures ∙ c.if-is_break.false) in
    let carried = c.in_ok-round.ensures {u = tt} in
    (_, next c.loop.invariant.1 (rw k at carried))

pub returns : goal.returns
returns c = ran (Err TooLong) c.loop.invariant.1 (inr (omega (arith, c.loop-test.false)))
