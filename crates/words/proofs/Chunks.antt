-- The words of a slice's first words, row by row of so many.
-- Assumes nothing.
use Rattle.std.specs.Simd.{first_chunks}
use Rattle.std.proofs.lemmas.List.{get_or-take, get_or-drop}
use mathlib.Core.Path.{◌≡◌, ap, ◌∙◌}
use mathlib.Core.List.{List, []}
use Prim.Native.Nat.{ℕ, ◌+◌, ◌*◌, ◌<◌}
use lib.ListN.{get_or, take, drop}
use Rattle.words.proofs.Zeros.{chunk_is}

-- word j of row i, which are the first n words
pub row_word : (size n k i j : ℕ) (ws : List ℕ) {rows : List (List ℕ)} → rows ≡ first_chunks size k (take n ws) → i < k → j < size
    → size * i + j < n → get_or (get_or rows i []) j 0 ≡ get_or ws (size * i + j) 0
row_word size n k i j ws e h few l =
    ap (λ (x : List (List ℕ)). get_or (get_or x i []) j 0) e
    ∙ ap (λ (x : List ℕ). get_or x j 0) (chunk_is size k i (take n ws) [] h)
    ∙ get_or-take size (drop (size * i) (take n ws)) j 0 few
    ∙ get_or-drop (size * i) (take n ws) j 0
    ∙ get_or-take n ws (size * i + j) 0 l
