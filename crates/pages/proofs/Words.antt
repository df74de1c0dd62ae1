-- The entries in words: what was written is read back, and the words behind them are as they came.
-- Assumes nothing.
use mathlib.Core.Path.{◌≡◌, refl, ap, ◌∙◌}
use mathlib.Core.List.{List, [], ◌∷◌, ◌++◌, flat_map}
use Prim.Native.Nat.{ℕ, ◌*◌, ◌≤◌}
use native.Mathlib.Omega.{arith}
use lib.ListN.{length, drop, length-append, length-drop}
use lib.Seq.{drop_at}
use Rattle.pages.specs.Prelude.{Entry}
use Rattle.pages.specs.Pages.{entry_words}
use Rattle.pages.specs.Claims.{entries_in}
use Rattle.pages.proofs.Counts.{length_entry_words}

pub entries_in_words : (es : List Entry) (us : List ℕ) → entries_in (length es) (flat_map entry_words es ++ us) ≡ es
unfolding entries_in flat_map
entries_in_words [] us = refl
entries_in_words (e ∷ es) us = ap (λ (xs : List Entry). e ∷ xs) (entries_in_words es us)

pub drop_entry_words : (es : List Entry) (n : ℕ) (us : List ℕ) → length es ≡ n → drop (3 * n) (flat_map entry_words es ++ us) ≡ us
drop_entry_words es n us e = drop_at (flat_map entry_words es) us (3 * n) (omega (arith, length_entry_words es, e))

pub length-written : (es : List Entry) (n : ℕ) (ws : List ℕ) → length es ≡ n → 3 * n ≤ length ws
    → length (flat_map entry_words es ++ drop (3 * n) ws) ≡ length ws
length-written es n ws e h =
    length-append (flat_map entry_words es) (drop (3 * n) ws) ∙ omega (arith, length_entry_words es, e, length-drop (3 * n) ws, h)
