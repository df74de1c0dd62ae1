-- A list of sparse ranges: the tests hold exactly if the rules in words are kept, and what is written is read back.
-- Assumes nothing.
use mathlib.Core.Path.{◌≡◌, refl, sym, ap, ◌∙◌}
use mathlib.Core.Logic.{inl, inr}
use mathlib.Core.Bool.{Bool, true, false}
use mathlib.Core.List.Memᴰ
use mathlib.Core.List.{List, [], ◌∷◌, ◌++◌, map, flat_map}
use Prim.Native.Nat.{ℕ, zero, suc, ◌+◌, ◌-◌, ◌*◌, ◌≤◌}
use native.Mathlib.Omega.{arith}
use lib.Dec.{T}
use lib.ListN.{length, take, drop, replicate, length-append, length-replicate}
use lib.Seq.{drop-append_seam}
use Rattle.model.specs.Prelude.{Range, Space, Mapping, Request, Nothing, Sparse}
use Rattle.model.specs.Rows.{all, choose}
use Rattle.model.specs.Rules.{end, stop, apart}
use Rattle.model.specs.Table.{zero_tests}
use Rattle.model.specs.Ranges.{RangeList, ranges_in, ranges, range_words, list_written, range_end, range_tests, list_tests, list_row, in_range_tests, bare, same_tests, same_range, listed}
use Rattle.model.specs.Cut.{spared}
use Rattle.model.specs.Exactly.{Each, ◌∈◌, Ordered, ShareByte, RangeRules, ListRules}
use Rattle.model.specs.Lookups.{InRange, NoRange}
use Rattle.model.proofs.Actions.{each, each_map}
use Rattle.model.proofs.Tests.{tests, Says, all_true, all_false, all_alls, alls_all, or_cases, or_left, or_right, alls_split, alls_join, each_says, eq→eqb}
use Rattle.model.proofs.Rules.{apart_shares, shares_apart}
use Rattle.model.proofs.Zeros.{places_say}

-- ── the rules ──

pub range_says : (s : Space) (from : ℕ) (x : Range) → Says (range_tests s from x) ((from ≤ x.start) × RangeRules s x)
range_says s from x = (
  λ h. (
    omega tests,
    record {
      multiples = (omega tests, omega tests);
      not_empty = omega tests;
      within = (omega tests, omega tests);
      unreserved = apart_shares _ _ _ _ (omega tests);
    },
  ),
  λ r. let k = shares_apart _ _ _ _ r.1.unreserved in omega tests,
)

-- each keeps its rules, none starts before `from`, and each ends at or before the next one's start
abbrev pub Lists : Space → ℕ → List Range → Type 0
Lists s from xs = Each (RangeRules s) xs × Each (λ y. from ≤ y.start) xs × Ordered (λ x y. range_end x ≤ y.start) xs

pub list_says : (s : Space) (from : ℕ) (xs : List Range) → Says (list_tests s from xs) (Lists s from xs)
unfolding list_tests
list_says s from [] = (λ h. (tt, tt, tt), λ h. tt)
list_says s from (x ∷ xs) =
    let k = list_says s (range_end x) xs in
    let c = range_says s from x in (
      λ h.
          let w = alls_split (range_tests s from x) (list_tests s (range_end x) xs) h in
          let a = c.0 w.0 in
          let b = k.0 w.1 in
          ((a.1, b.0), (a.0, each_map (λ y. range_end x ≤ y.start) (λ y. from ≤ y.start) xs (λ y e. omega (arith, a.0)) b.1), (b.1, b.2)),
      λ r. alls_join (range_tests s from x) (list_tests s (range_end x) xs) (c.1 (r.1.0, r.0.0)) (k.1 (r.0.1, r.2.0, r.2.1)),
    )

-- none starts before 0
pub lists_all : (s : Space) (xs : List Range) → Each (RangeRules s) xs → Ordered (λ x y. range_end x ≤ y.start) xs → Lists s 0 xs
lists_all s xs r o = (r, each (λ y. 0 ≤ y.start) xs (λ y m. omega arith), o)

pub list_row_says : (s : Space) (l : RangeList) → Says (list_row s l).tests (ListRules s l)
list_row_says s l = (
  λ h.
      let w = alls_split (list_tests s 0 (ranges l)) (zero_tests (drop (2 * l.count) l.words)) h.1.1.1 in
      let k = (list_says s 0 (ranges l)).0 w.0 in
      record {
        even = omega (tests, h.0);
        length_most = omega (tests, h.1.0);
        held = omega (tests, h.1.1.0);
        each_range = k.0;
        ascends = k.2;
        zeros = (places_say (2 * l.count) l.words).0 w.1;
      },
  λ r. (
    eq→eqb _ _ r.even,
    (
      omega (tests, r.length_most),
      (
        omega (tests, r.held),
        alls_join (list_tests s 0 (ranges l)) (zero_tests (drop (2 * l.count) l.words))
            ((list_says s 0 (ranges l)).1 (lists_all s (ranges l) r.each_range r.ascends))
            ((places_say (2 * l.count) l.words).1 r.zeros),
      ),
    ),
  ),
)

-- ── a range and a request ──

pub same_says : (x y : Range) → (T (same_range x y) → x ≡ y) × (x ≡ y → T (same_range x y))
same_says x y = (
  λ h.
      let k = all_alls (same_tests x y) h in
      let a : x.start ≡ y.start = omega (tests, k) in
      let b : x.size ≡ y.size = omega (tests, k) in
      λ i. record { start = a i; size = b i },
  λ e.
      let a : x.start ≡ y.start = ap (λ (z : Range). z.start) e in
      let b : x.size ≡ y.size = ap (λ (z : Range). z.size) e in
      alls_all (same_tests x y) (omega tests),
)

pub listed_says : (x : Range) (xs : List Range) → (T (listed x xs) → x ∈ xs) × (x ∈ xs → T (listed x xs))
unfolding listed
listed_says x [] = (λ h. absurd h, λ m. Memᴰ.not-nil m)
listed_says x (y ∷ ys) =
    let k = listed_says x ys in (
      λ h. elim (or_cases (same_range x y) (listed x ys) h) [ inl e ↦ Memᴰ.head ((same_says x y).0 e) | inr e ↦ Memᴰ.tail (k.0 e) ],
      λ m. elim (Memᴰ.cases_cons m) [
        | inl e ↦ or_left (same_range x y) (listed x ys) ((same_says x y).1 e)
        | inr e ↦ or_right (same_range x y) (listed x ys) (k.1 e)
      ],
    )

-- what shares no byte with a request: each of some ranges, each of some mappings
pub ranges_apart : (r : Request) (xs : List Range) → Says (map (λ x. apart x.start (range_end x) r.address (stop r)) xs)
    (Each (λ x. ShareByte x.start (range_end x) r.address (stop r) → ⊥) xs)
ranges_apart r xs = each_says _ _ (λ x h. apart_shares _ _ _ _ (omega tests)) (λ x h. let k = shares_apart _ _ _ _ h in omega tests) xs

pub mappings-apart : (r : Request) (ms : List Mapping)
    → Says (map (spared r) ms) (Each (λ m. ShareByte m.address (end m) r.address (stop r) → ⊥) ms)
mappings-apart r ms = each_says _ _ (λ m h. apart_shares _ _ _ _ (omega tests)) (λ m h. let k = shares_apart _ _ _ _ h in omega tests) ms

-- ── what an address shows off mappings ──

pub bare_in : (ys : List Range) (y : Range) (x : ℕ) → y ∈ ys → InRange y x → bare ys x ≡ Sparse
unfolding bare
bare_in [] y x x4 i = elim x4 [ ]
bare_in (z ∷ ys) y x (Memᴰ.head e) i = let c : InRange z x = rw e at i in rw (all_true (in_range_tests z x) (omega tests), bare)
bare_in (z ∷ ys) y x (Memᴰ.tail m) i = go (all (in_range_tests z x)) (bare_in ys y x m i)
  where
    go : (t : Bool) → bare ys x ≡ Sparse → choose t Sparse (bare ys x) ≡ Sparse
    go true e = refl
    go false e = e

pub bare_none : (ys : List Range) (x : ℕ) → NoRange ys x → bare ys x ≡ Nothing
unfolding bare
bare_none [] x n = refl
bare_none (y ∷ ys) x n =
    rw (all_false (in_range_tests y x) (λ t. n y (Memᴰ.head refl) (omega tests)), bare) (bare_none ys x (λ z i. n z (Memᴰ.tail i)))

-- ── in words ──

pub length_range_words : (xs : List Range) → length (flat_map range_words xs) ≡ 2 * length xs
unfolding flat_map
length_range_words [] = refl
length_range_words (x ∷ xs) = omega (arith, length_range_words xs)

read_range_words : (xs : List Range) (ws : List ℕ) → ranges_in (length xs) (flat_map range_words xs ++ ws) ≡ xs
unfolding ranges_in flat_map
read_range_words [] ws = refl
read_range_words (x ∷ xs) ws = ap (◌∷◌ x) (read_range_words xs ws)

pub read_list : (n : ℕ) (xs : List Range) → ranges_in (length xs) (list_written n xs) ≡ xs
read_list n xs = read_range_words xs _

pub length_list : (n : ℕ) (xs : List Range) → 2 * length xs ≤ n → length (list_written n xs) ≡ n
length_list n xs h =
    length-append (flat_map range_words xs) _
    ∙ ap (λ (k : ℕ). length (flat_map range_words xs) + k) (length-replicate (n - length (flat_map range_words xs)) _)
    ∙ omega (arith, length_range_words xs)

pub length-ranges : (n : ℕ) (ws : List ℕ) → length (ranges_in n ws) ≡ n
unfolding ranges_in
length-ranges zero ws = refl
length-ranges (suc n) ws = ap suc (length-ranges n _)

-- the other way
pub words-ranges : (n : ℕ) (ws : List ℕ) → 2 * n ≤ length ws → flat_map range_words (ranges_in n ws) ≡ take (2 * n) ws
unfolding flat_map ranges_in
words-ranges zero ws h = refl
words-ranges (suc n) [] h = absurd (omega arith)
words-ranges (suc n) (a ∷ []) h = absurd (omega arith)
words-ranges (suc n) (a ∷ b ∷ ws) h =
    let e : 2 * suc n ≡ suc (suc (2 * n)) = omega arith in
    rw (e, words-ranges n ws (omega arith))

-- the words behind the last range
pub list_zeros : (n : ℕ) (xs : List Range) → drop (2 * length xs) (list_written n xs) ≡ replicate (n - 2 * length xs) 0
list_zeros n xs =
    ap (λ (k : ℕ). drop k (list_written n xs)) (sym (length_range_words xs))
    ∙ drop-append_seam (flat_map range_words xs) _
    ∙ ap (λ (k : ℕ). replicate (n - k) 0) (length_range_words xs)
