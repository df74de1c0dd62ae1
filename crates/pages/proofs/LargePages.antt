-- The call that lists the page entries of a mapping: its answers, and the words that it leaves.
-- Assumes nothing.
use mathlib.Core.Path.{◌≡◌, refl, sym, ap, subst, ◌∙◌}
use mathlib.Core.Logic.{inl, inr}
use mathlib.Core.List.Memᴰ
use mathlib.Core.List.{List, ◌++◌, flat_map}
use Prim.Native.Nat.{ℕ, ◌*◌, ◌/◌, ◌≤◌, ◌<◌}
use native.Mathlib.Omega.{arith}
use lib.ListN.{length, drop}
use Rattle.model.specs.Rows.{Reply, refused, answered, number_of, decide}
use Rattle.model.specs.Exactly.{MappingRules, Gives, refusal}
use Rattle.model.proofs.Tests.{tests}
use Rattle.model.proofs.Rows.{not_both, answered_passed}
use Rattle.model.proofs.Rules.{mapping_says}
use Rattle.model.proofs.Exactly.{Answers, match_answers}
use Rattle.model.proofs.Pinned.{pinned}
use Rattle.pages.specs.Prelude.{Mapping, Entry}
use Rattle.pages.specs.Pages.{largest, smaller, paged, entry_count, entries, entry_words, whole_space, page_rows}
use Rattle.pages.specs.Pages.{pages_outcome, page_entries}
use Rattle.pages.specs.Claims.{Covers, Ladder, page_sizes, entries_in, page_refusals, Lists, LargePages}
use Rattle.pages.proofs.Counts.{count-length, length-paged}
use Rattle.pages.proofs.Tiles.{paged_covered}
use Rattle.pages.proofs.Bytes.{covered_covers}
use Rattle.pages.proofs.AnyLadder.{InPages, base, any_covers, any_fewest}
use Rattle.pages.proofs.Words.{entries_in_words, drop_entry_words, length-written}

-- ── the three sizes ──

-- 4 KiB, 2 MiB, 1 GiB: each divides the next
ladder : Ladder largest smaller
ladder = (omega arith, refl, (omega arith, refl, omega arith))

in_pages : (m : Mapping) → MappingRules whole_space m → InPages 4096 m
in_pages m r = (r.multiples.0, (r.multiples.1, (r.multiples.2, tt)))

entries-cover : (m : Mapping) → MappingRules whole_space m → Covers page_sizes m (entries m)
entries-cover m r = any_covers largest smaller m ladder (in_pages m r)

entries_fewest : (m : Mapping) (es : List Entry) → Covers page_sizes m es → length (entries m) ≤ length es
entries_fewest m es c = any_fewest largest smaller m es ladder c

-- pages of 4 KiB alone
small_cover : (m : Mapping) → InPages 4096 m → Covers page_sizes m (paged 4096 m)
small_cover m h = covered_covers m page_sizes (paged 4096 m)
    (paged_covered page_sizes 4096 m (Memᴰ.tail (Memᴰ.tail (Memᴰ.head refl))) (omega arith) (base 4096 m h))

count_entries : (m : Mapping) → entry_count largest smaller m ≡ length (entries m)
count_entries m = count-length largest smaller m

-- never more than pages of 4 KiB
count_most : (m : Mapping) → InPages 4096 m → entry_count largest smaller m ≤ m.size / 4096
count_most m h = omega (arith, count_entries m, entries_fewest m (paged 4096 m) (small_cover m h), length-paged 4096 m)

-- ── the call ──

pub answer_is : (a : Reply ℕ) (m : Mapping) (ws : List ℕ) → (pages_outcome a m ws).answer ≡ a
answer_is (refused n p) m ws = refl
answer_is (answered n) m ws = refl

exactly : (m : Mapping) (ws : List ℕ) → Answers (page_entries m ws).answer (page_refusals m (length ws))
unfolding page_entries page_rows
exactly m ws a =
    let d : Reply ℕ = decide (page_rows m (length ws)) (entry_count largest smaller m) in
    let e = answer_is d m ws in
    let n = count_entries m in
    let k = match_answers (λ a. a) (entry_count largest smaller m) (page_rows m (length ws)) (page_refusals m (length ws))
    (refl, mapping_says whole_space m, λ _. (refl, (λ h. omega (tests, n), λ h. omega (tests, n)), λ _. ap answered n)) a in
    (λ h. k.0 (sym e ∙ h), λ h. e ∙ k.1 h)

unchanged : (m : Mapping) (ws : List ℕ) (n p : ℕ) → (page_entries m ws).answer ≡ refused n p → (page_entries m ws).words ≡ ws
unfolding page_entries
unchanged m ws n p e = go (decide (page_rows m (length ws)) (entry_count largest smaller m)) e
  where
    go : (a : Reply ℕ) → (pages_outcome a m ws).answer ≡ refused n p → (pages_outcome a m ws).words ≡ ws
    go (refused n p) e = refl
    go (answered k) e = absurd (not_both (sym e))

-- an answer passed both rows
record ListedFor (m : Mapping) (ws : List ℕ) (n : ℕ) : Type 0 where
  rules : MappingRules whole_space m
  number : length (entries m) ≡ n
  room : 3 * n ≤ length ws
  words : (page_entries m ws).words ≡ flat_map entry_words (entries m) ++ drop (3 * n) ws

listed : (m : Mapping) (ws : List ℕ) (n : ℕ) → (page_entries m ws).answer ≡ answered n → ListedFor m ws n
unfolding page_entries page_rows
listed m ws n e =
    let d : Reply ℕ = decide (page_rows m (length ws)) (entry_count largest smaller m) in
    let q : d ≡ answered n = sym (answer_is d m ws) ∙ e in
    let k = answered_passed (page_rows m (length ws)) (entry_count largest smaller m) n q in
    record {
      rules = (mapping_says whole_space m).0 k.0.0;
      number = omega (arith, count_entries m, k.1);
      room = omega (tests, k.0.1.0, k.1);
      words = ap (λ (a : Reply ℕ). (pages_outcome a m ws).words) q;
    }

lists : (m : Mapping) (ws : List ℕ) (n : ℕ) → (page_entries m ws).answer ≡ answered n → Lists m ws n (page_entries m ws).words
lists m ws n e = subst (Lists m ws n) (sym l.words) (record {
  covers = subst (Covers page_sizes m) (sym read) (entries-cover m l.rules);
  fewest = λ es c. omega (arith, l.number, entries_fewest m es c);
  behind = drop_entry_words (entries m) n (drop (3 * n) ws) l.number;
  same_length = length-written (entries m) n ws l.number l.room;
})
  where
    l : ListedFor m ws n
    l = listed m ws n e

    read : entries_in n (flat_map entry_words (entries m) ++ drop (3 * n) ws) ≡ entries m
    read = subst (λ (k : ℕ). entries_in k (flat_map entry_words (entries m) ++ drop (3 * n) ws) ≡ entries m) l.number
        (entries_in_words (entries m) (drop (3 * n) ws))

-- ── number 16 ──

-- the rules are kept, and the slice is too short
too_short : (m : Mapping) (ws : List ℕ) → (page_entries m ws).answer ≡ refusal 16 → MappingRules whole_space m × (length ws < 3 * length (entries m))
too_short m ws e = go ((exactly m ws (refusal 16)).0 e)
  where
    number : {a b c d : ℕ} → ◌≡◌ {A = Reply ℕ} (refused a b) (refused c d) → a ≡ c
    number e = ap number_of e

    go : Gives (page_refusals m (length ws)) (refusal 16) → MappingRules whole_space m × (length ws < 3 * length (entries m))
    go (inl h) = absurd (omega (arith, number h.1))
    go (inr (r, inl h)) = (r, not-le h.0)
      where
        not-le : (3 * length (entries m) ≤ length ws → ⊥) → length ws < 3 * length (entries m)
        not-le n = omega (arith, n)
    go (inr (r, inr h)) = absurd (not_both h.1)

short : (m : Mapping) (ws : List ℕ) → (page_entries m ws).answer ≡ refusal 16 → (es : List Entry) → Covers page_sizes m es → length ws < 3 * length es
short m ws e es c = omega (arith, (too_short m ws e).1, entries_fewest m es c)

enough : (m : Mapping) (ws : List ℕ) → 3 * (m.size / 4096) ≤ length ws → (page_entries m ws).answer ≡ refusal 16 → ⊥
enough m ws h e = let k = too_short m ws e in omega (arith, h, k.1, count_entries m, count_most m (in_pages m k.0))

pub large_pages : LargePages
large_pages = record { exactly = exactly; unchanged = unchanged; lists = lists; short = short; enough = enough; pinned = pinned }
