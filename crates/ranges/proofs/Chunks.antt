-- A list's ranges, row by row of two words.
-- Assumes nothing.
use Rattle.std.specs.Simd.{first_chunks}
use mathlib.Core.Path.{◌≡◌, ◌∙◌}
use mathlib.Core.List.{List, []}
use Prim.Native.Nat.{ℕ, ◌+◌, ◌*◌, ◌/◌, ◌<◌, ◌≤◌}
use native.Mathlib.Omega.{arith}
use lib.ListN.{length, get_or, take}
use lib.Seq.{length-take-le}
use Rattle.model.specs.declared.Range.{Range}
use Rattle.words.proofs.Chunks.{row_word}
use Rattle.ranges.specs.Lists.{range_at}

pub row_count : (ws : List ℕ) (n : ℕ) {k : ℕ} → 2 * n ≤ length ws → k ≡ length (take (2 * n) ws) / 2 → k ≡ n
row_count ws n l k = omega (arith, k, length-take-le (2 * n) ws l)

-- the one at place i
pub row_range : (ws : List ℕ) (n : ℕ) {rows : List (List ℕ)} {i : ℕ} {y : Range} → 2 * n ≤ length ws → length rows ≡ length (take (2 * n) ws) / 2
    → rows ≡ first_chunks 2 (length (take (2 * n) ws) / 2) (take (2 * n) ws) → i < length rows → y ≡ range_at (get_or rows i []) 0
    → (i < n) × (y ≡ range_at ws i)
unfolding range_at
row_range ws n {rows} {i} l k e h is =
    let few : i < n = omega (arith, row_count ws n l k) in
    let word = λ (j : ℕ) (b : j < 2). row_word 2 (2 * n) (length (take (2 * n) ws) / 2) i j ws e (omega arith) b (omega arith) in
    let at : 2 * i + 0 ≡ 2 * i = omega arith in
    (few, is ∙ rw (word 0 (omega arith), word 1 (omega arith), at))
