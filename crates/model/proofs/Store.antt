-- A table in its words: what is written is read back, and the slice keeps its length.
-- Assumes nothing.
use mathlib.Core.Path.{◌≡◌, refl, sym, ap, ap₂, ◌∙◌}
use mathlib.Core.List.{List, [], ◌∷◌, ◌++◌, flat_map}
use Prim.Native.Nat.{ℕ, zero, suc, ◌+◌, ◌-◌, ◌*◌, ◌/◌, ◌≤◌}
use native.Mathlib.Omega.{arith}
use lib.ListN.{length, take, drop, replicate, length-append, length-replicate}
use lib.Seq.{drop-append_seam}
use Rattle.model.specs.Prelude.{Mapping}
use Rattle.model.specs.Table.{Table, capacity, mappings, mappings_in, words_of, written}
use Rattle.model.specs.Demand3.{Holds}

pub length-words : (ms : List Mapping) → length (flat_map words_of ms) ≡ 4 * length ms
unfolding flat_map
length-words [] = refl
length-words (m ∷ ms) = omega (arith, length-words ms)

read_words : (ms : List Mapping) (ws : List ℕ) → mappings_in (length ms) (flat_map words_of ms ++ ws) ≡ ms
unfolding mappings_in flat_map
read_words [] ws = refl
read_words (m ∷ ms) ws = ap (◌∷◌ m) (read_words ms ws)

pub read_written : (n : ℕ) (ms : List Mapping) → mappings_in (length ms) (written n ms) ≡ ms
read_written n ms = read_words ms _

length-written : (n : ℕ) (ms : List Mapping) → 4 * length ms ≤ n → length (written n ms) ≡ n
length-written n ms h =
    length-append (flat_map words_of ms) _
    ∙ ap (λ (k : ℕ). length (flat_map words_of ms) + k) (length-replicate (n - length (flat_map words_of ms)) _)
    ∙ omega (arith, length-words ms)

pub length-mappings : (n : ℕ) (ws : List ℕ) → length (mappings_in n ws) ≡ n
unfolding mappings_in
length-mappings zero ws = refl
length-mappings (suc n) ws = ap suc (length-mappings n _)

-- the other way
pub words-mappings : (n : ℕ) (ws : List ℕ) → 4 * n ≤ length ws → flat_map words_of (mappings_in n ws) ≡ take (4 * n) ws
unfolding flat_map mappings_in
words-mappings zero ws h = refl
words-mappings (suc n) [] h = absurd (omega arith)
words-mappings (suc n) (a ∷ []) h = absurd (omega arith)
words-mappings (suc n) (a ∷ b ∷ []) h = absurd (omega arith)
words-mappings (suc n) (a ∷ b ∷ c ∷ []) h = absurd (omega arith)
words-mappings (suc n) (a ∷ b ∷ c ∷ d ∷ ws) h =
    let e : 4 * suc n ≡ suc (suc (suc (suc (4 * n)))) = omega arith in
    rw (e, words-mappings n ws (omega arith))

-- the words behind the last mapping
pub zeros_behind : (n : ℕ) (ms : List Mapping) → drop (4 * length ms) (written n ms) ≡ replicate (n - 4 * length ms) 0
zeros_behind n ms =
    ap (λ (k : ℕ). drop k (written n ms)) (sym (length-words ms))
    ∙ drop-append_seam (flat_map words_of ms) _
    ∙ ap (λ (k : ℕ). replicate (n - k) 0) (length-words ms)

-- ── a table that holds mappings ──

abbrev pub rewritten : Table → List Mapping → Table
rewritten t ms = record { words = written (length t.words) ms; count = length ms }

pub holds_rewritten : (t : Table) (ms : List Mapping) → length ms ≤ capacity t → Holds t ms (rewritten t ms)
holds_rewritten t ms h = record { words = refl; length_kept = length-written (length t.words) ms (omega arith); count = refl }

pub holds_mappings : (t u : Table) (ms : List Mapping) → Holds t ms u → mappings u ≡ ms
holds_mappings t u ms h = ap₂ mappings_in h.count h.words ∙ read_written (length t.words) ms

pub holds_count : (t u : Table) (ms : List Mapping) → Holds t ms u → u.count ≡ length ms
holds_count t u ms h = h.count

pub holds_capacity : (t u : Table) (ms : List Mapping) → Holds t ms u → capacity u ≡ capacity t
holds_capacity t u ms h = ap (λ (n : ℕ). n / 4) h.length_kept

pub holds_again : (t u v : Table) (ms ns : List Mapping) → Holds t ms u → Holds u ns v → Holds t ns v
holds_again t u v ms ns h k =
    record { words = k.words ∙ ap (λ (n : ℕ). written n ns) h.length_kept; length_kept = k.length_kept ∙ h.length_kept; count = k.count }

pub holds_same : (t u v : Table) (ms : List Mapping) → Holds t ms u → Holds t ms v → u ≡ v
holds_same t u v ms h k = λ i. record { words = (h.words ∙ sym k.words) i; count = (h.count ∙ sym k.count) i }
