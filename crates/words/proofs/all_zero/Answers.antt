use mathlib.Core.Path.{◌≡◌, refl}
use Prim.Native.Nat.{ℕ, ◌*◌, ◌/◌, ◌%◌, ◌<◌, ◌≤◌}
use native.Mathlib.Omega.{arith}
use lib.ListN.{length}
use Rattle.words.proofs.Zeros.{once_joins, twice_joins, all_joined, blank_or, or_blank}
use borrow.Author.Tests.{eqb-true, eq-eqb}
use Rattle.words.proofs.all_zero.Goals as goal

pub loop-turn-preserved : goal.loop-turn-preserved
loop-turn-preserved c =
    let ws = c.args.words.now in
    let l = c.loop-turn in
    let turns : ℕ = length ws / 128 in
    let k : l.turn-index < turns = omega (arith, c.as_chunks.ensures.front_len) in
    let fit : 128 * turns ≤ length ws = omega arith in
    search (once_joins, twice_joins, c.as_chunks.ensures.front, k, fit)

pub returns : goal.returns
returns c =
    let ws = c.args.words.now in
    let behind = c.as_chunks.result.1.now in
    let most : ℕ = length ws / 128 * 128 in
    let more : ℕ = length behind / 4 * 4 in
    let t : 128 * c.loop-turn.turn-index ≡ most = omega (arith, c.as_chunks.ensures.front_len) in
    let f : 4 * (length behind / 4) ≡ more = omega arith in
    let l : length behind ≡ length ws % 128 = c.as_chunks.ensures.back_len in
    let zero = all_joined ws behind c.as_chunks-2.result.1.now most more (omega arith) c.as_chunks.ensures.back c.as_chunks-2.ensures.back (refl, refl, refl, refl) (rw t at c.loop-turn.invariant) (rw f at c.join_fours-all-2.ensures) c.joined-rest.ensures in
    let all = c.join_fours-all-2.result in (
      λ b. let z = blank_or all c.joined-rest.result (eqb-true _ 0 b) in zero.0 z.0 z.1,
      λ z. let y = zero.1 z in eq-eqb _ 0 (or_blank all c.joined-rest.result y.0 y.1),
    )
