-- A table's mappings, row by row of four words.
-- Assumes nothing.
use Rattle.std.proofs.Common.{◌≡◌, ℕ, ◌+◌, ◌*◌, ◌/◌, ◌<◌, ◌≤◌, List, [], ◌∙◌, arith}
use Rattle.std.specs.Simd.{first_chunks}
use lib.ListN.{length, get_or, take}
use lib.Seq.{length-take-le}
use Rattle.model.specs.declared.Mapping.{Mapping}
use Rattle.model.specs.Table.{mapping_from}
use Rattle.table.specs.Places.{mapping_at}
use Rattle.words.proofs.Chunks.{row_word}

pub row_count : (ws : List ℕ) (n : ℕ) {k : ℕ} → 4 * n ≤ length ws → k ≡ length (take (4 * n) ws) / 4 → k ≡ n
row_count ws n l k = omega (arith, k, length-take-le (4 * n) ws l)

-- the one at place i
pub row_mapping : (ws : List ℕ) (n : ℕ) {rows : List (List ℕ)} {i : ℕ} {m : Mapping} → 4 * n ≤ length ws → length rows ≡ length (take (4 * n) ws) / 4
    → rows ≡ first_chunks 4 (length (take (4 * n) ws) / 4) (take (4 * n) ws) → i < length rows → m ≡ mapping_from 0 (get_or rows i [])
    → (i < n) × (m ≡ mapping_at ws i)
unfolding mapping_at
row_mapping ws n {rows} {i} l k e h is =
    let few : i < n = omega (arith, row_count ws n l k) in
    let word = λ (j : ℕ) (b : j < 4). row_word 4 (4 * n) (length (take (4 * n) ws) / 4) i j ws e (omega arith) b (omega arith) in
    let at : 4 * i + 0 ≡ 4 * i = omega arith in
    (few, is ∙ rw (word 0 (omega arith), word 1 (omega arith), word 2 (omega arith), word 3 (omega arith), at))
