-- What a call takes has its mappings and ranges and zeros behind them, and is taken with its own counts alone.
-- Assumes nothing.
use mathlib.Core.Path.{◌≡◌, sym, ap, ◌∙◌}
use mathlib.Core.Logic.{◌⊎◌, inl, inr}
use mathlib.Core.List.{List, [], ◌++◌, flat_map}
use Prim.Native.Nat.{ℕ, zero, suc, ◌+◌, ◌-◌, ◌*◌, ◌≤◌, ◌<◌}
use native.Mathlib.Omega.{arith}
use lib.ListN.{length, get_or, take, drop, replicate, take-append-drop}
use lib.Seq.{get_or-drop}
use Rattle.model.specs.Prelude.{Space}
use Rattle.model.specs.Table.{Table, mappings, mappings_in, words_of, written}
use Rattle.model.specs.Ranges.{RangeList, ranges_in, ranges, range_words, list_written}
use Rattle.model.specs.Calls.{Lent, lent_rows, see_in, lookup}
use Rattle.model.specs.Exactly.{Each, MappingRules, RangeRules, ListRules, Taken, seen, granted, Whole, TakesWhole}
use Rattle.model.proofs.Numbers.{order}
use Rattle.model.proofs.Tests.{tests}
use Rattle.model.proofs.Rows.{answered_passed}
use Rattle.model.proofs.Groups.{LentPassed, lent_passed, none_between}
use Rattle.model.proofs.Table.{table_says}
use Rattle.model.proofs.Store.{length-words, length-mappings, words-mappings}
use Rattle.model.proofs.Zeros.{zeros_from, places_say, stale_says}
use Rattle.model.proofs.Ranges.{list_row_says, length_range_words, length-ranges, words-ranges}
use Rattle.model.proofs.Granted.{granted_good}

-- it passes the rows that look at it
passed : {l : Lent} → Taken l → (s : Space) × LentPassed s [] l
unfolding lookup
passed {l} (seen s x v e) = (s, lent_passed s [] l (answered_passed (lent_rows s [] l) (see_in s l x) v e).0)
passed {l} (granted s os q g e) = (s, none_between (granted_good s l os q g e))

-- words in front, and zeros from place n on
front_and_zeros : (n : ℕ) (ws vs : List ℕ) → vs ≡ take n ws → length vs ≡ n → drop n ws ≡ replicate (length ws - n) 0
    → ws ≡ vs ++ replicate (length ws - length vs) 0
front_and_zeros n ws vs front k zeros = sym (take-append-drop n ws) ∙ rw (k, front, zeros)

-- one that holds nothing is zeros
none_left : (n : ℕ) → replicate {A = ℕ} (n - 0) 0 ≡ replicate n 0
none_left n = let e : n - 0 ≡ n = omega arith in ap (λ (k : ℕ). replicate k 0) e

-- ── a table ──

table-words : (l : Lent) → Taken l → l.table.words ≡ written (length l.table.words) (mappings l.table)
table-words l k =
    let t : Table = l.table in
    let p = (passed k).1.table in
    front_and_zeros (4 * t.count) t.words (flat_map words_of (mappings t))
    (words-mappings t.count t.words (omega (tests, p.count)))
    (length-words (mappings t) ∙ ap (λ (k : ℕ). 4 * k) (length-mappings t.count t.words))
    ((zeros_from (4 * t.count) t.words).0 p.behind)

table-whole : (l : Lent) → Taken l → Whole l.table.words l.table.count (mappings l.table) written
unfolding mappings_in flat_map
table-whole l k = record {
  all = table-words l k;
  empty = λ e. table-words l k ∙ ap (λ (k : ℕ). written (length l.table.words) (mappings_in k l.table.words)) e ∙ none_left (length l.table.words);
}

-- a mapping's second word, its size, is not zero
size_there : (s : Space) (i n : ℕ) (ws : List ℕ) → Each (MappingRules s) (mappings_in n ws) → i < n → 4096 ≤ get_or ws (4 * i + 1) 0
unfolding mappings_in
size_there s i zero ws h k = absurd (omega arith)
size_there s zero (suc n) ws h k = h.0.size_least
size_there s (suc i) (suc n) ws h k =
    let e : 4 + (4 * i + 1) ≡ 4 * suc i + 1 = omega arith in
    rw (get_or-drop 4 ws (4 * i + 1) 0, e) at (size_there s i n (drop 4 ws) h.1 (omega arith))

-- so it can't stand behind another's last mapping
no_fewer_mappings : (l k : Lent) → Taken l → Taken k → l.table.words ≡ k.table.words → l.table.count < k.table.count → ⊥
no_fewer_mappings l k a b e h =
    let p = (passed a).1.table in
    let q = passed b in
    let i : ℕ = 4 * l.table.count + 1 in
    let here : 4096 ≤ get_or k.table.words i 0 =
    size_there q.0 l.table.count k.table.count k.table.words ((table_says q.0 (mappings k.table)).0 q.1.table.places).0 h in
    let zero-there : get_or l.table.words i 0 ≡ 0 =
    (stale_says l.table).0 p.behind i (omega arith) (omega (tests, q.1.table.count, ap length e)) in
    omega (arith, here, zero-there, ap (λ (ws : List ℕ). get_or ws i 0) e)

-- ── a list ──

rules : (l : Lent) → Taken l → (s : Space) × ListRules s l.ranges
rules l k = let p = passed k in (p.0, (list_row_says p.0 l.ranges).0 p.1.list)

list_words : (l : Lent) → Taken l → l.ranges.words ≡ list_written (length l.ranges.words) (ranges l.ranges)
list_words l k =
    let t : RangeList = l.ranges in
    let p = (rules l k).1 in
    front_and_zeros (2 * t.count) t.words (flat_map range_words (ranges t))
    (words-ranges t.count t.words (omega (arith, p.held)))
    (length_range_words (ranges t) ∙ ap (λ (k : ℕ). 2 * k) (length-ranges t.count t.words))
    ((zeros_from (2 * t.count) t.words).0 ((places_say (2 * t.count) t.words).1 p.zeros))

list_whole : (l : Lent) → Taken l → Whole l.ranges.words l.ranges.count (ranges l.ranges) list_written
unfolding ranges_in flat_map
list_whole l k = record {
  all = list_words l k;
  empty = λ e. list_words l k ∙ ap (λ (k : ℕ). list_written (length l.ranges.words) (ranges_in k l.ranges.words)) e ∙ none_left (length l.ranges.words);
}

-- so it is with a range
range_size_there : (s : Space) (i n : ℕ) (ws : List ℕ) → Each (RangeRules s) (ranges_in n ws) → i < n → 0 < get_or ws (2 * i + 1) 0
unfolding ranges_in
range_size_there s i zero ws h k = absurd (omega arith)
range_size_there s zero (suc n) ws h k = h.0.not_empty
range_size_there s (suc i) (suc n) ws h k =
    let e : 2 + (2 * i + 1) ≡ 2 * suc i + 1 = omega arith in
    rw (get_or-drop 2 ws (2 * i + 1) 0, e) at (range_size_there s i n (drop 2 ws) h.1 (omega arith))

no_fewer_ranges : (l k : Lent) → Taken l → Taken k → l.ranges.words ≡ k.ranges.words → l.ranges.count < k.ranges.count → ⊥
no_fewer_ranges l k a b e h =
    let p = (rules l a).1 in
    let q = rules k b in
    let i : ℕ = 2 * l.ranges.count + 1 in
    let here : 0 < get_or k.ranges.words i 0 =
    range_size_there q.0 l.ranges.count k.ranges.count k.ranges.words q.1.each_range h in
    let zero-there : get_or l.ranges.words i 0 ≡ 0 = p.zeros i (omega arith) (omega (arith, q.1.held, ap length e)) in
    omega (arith, here, zero-there, ap (λ (ws : List ℕ). get_or ws i 0) e)

-- ── one count ──

neither_less : (a b : ℕ) → (a < b → ⊥) → (b < a → ⊥) → a ≡ b
neither_less a b h k = go (order a b) (order b a)
  where
    go : (a ≤ b) ⊎ (b < a) → (b ≤ a) ⊎ (a < b) → a ≡ b
    go (inl p) (inl q) = omega arith
    go (inl p) (inr q) = absurd (h q)
    go (inr p) q = absurd (k p)

pub takes_whole : TakesWhole
takes_whole = record {
  table = table-whole;
  list = list_whole;
  one_table = λ l k a b e. neither_less _ _ (no_fewer_mappings l k a b e) (no_fewer_mappings k l b a (sym e));
  one_list = λ l k a b e. neither_less _ _ (no_fewer_ranges l k a b e) (no_fewer_ranges k l b a (sym e));
}
