-- A list with one range more or less keeps its rules; its members and their number.
-- Assumes nothing.
use mathlib.Core.Path.{◌≡◌, refl, sym, ap, subst, ◌∙◌}
use mathlib.Core.Logic.{◌⊎◌, ◌↔◌, inl, inr}
use mathlib.Core.Bool.{Bool, true, false}
use mathlib.Core.List.Memᴰ
use mathlib.Core.List.{List, [], ◌∷◌}
use Prim.Native.Nat.{ℕ, suc, ◌*◌, ◌/◌, ◌≤◌, ◌<◌}
use native.Mathlib.Omega.{arith}
use lib.Dec.{T, leb}
use lib.ListN.{length}
use borrow.Author.Tests.{leb-true, leb-false}
use Rattle.model.specs.Prelude.{Range, Space}
use Rattle.model.specs.Rows.{choose}
use Rattle.model.specs.Ranges.{RangeList, list_written, range_end, range_tests, list_tests, same_range, insert_range, remove_range}
use Rattle.model.specs.Exactly.{Each, ◌∈◌, Ordered, ShareByte, RangeRules, ListRules}
use Rattle.model.proofs.Actions.{each_mem}
use Rattle.model.proofs.Tests.{Alls, alls_split, alls_join}
use Rattle.model.proofs.Rules.{shares_apart}
use Rattle.model.proofs.Zeros.{zeros_from, places_say}
use Rattle.model.proofs.Ranges.{range_says, list_says, same_says, read_list, length_list, list_zeros}

-- ── one more ──

abbrev Apart : Range → Range → Type 0
Apart x y = ShareByte y.start (range_end y) x.start (range_end x) → ⊥

-- of two that share no byte the one that starts first ends first
first_ends : (x y : Range) → 0 < x.size → 0 < y.size → Apart x y → x.start ≤ y.start → range_end x ≤ y.start
first_ends x y p q n h = let k = shares_apart _ _ _ _ n in omega arith

second_starts : (x y : Range) → 0 < x.size → 0 < y.size → Apart x y → y.start ≤ x.start → range_end y ≤ x.start
second_starts x y p q n h = let k = shares_apart _ _ _ _ n in omega arith

pub insert_tests : (s : Space) (x : Range) → RangeRules s x → (from : ℕ) (ys : List Range) → from ≤ x.start → Alls (list_tests s from ys) → Each (Apart x) ys
    → Alls (list_tests s from (insert_range x ys))
unfolding insert_range list_tests
insert_tests s x r from [] f h d = alls_join (range_tests s from x) [] ((range_says s from x).1 (f, r)) tt
insert_tests s x r from (y ∷ ys) f h d = go (leb x.start y.start) refl (insert_tests s x r (range_end y) ys)
  where
    split : Alls (range_tests s from y) × Alls (list_tests s (range_end y) ys)
    split = alls_split (range_tests s from y) (list_tests s (range_end y) ys) h

    here : (from ≤ y.start) × RangeRules s y
    here = (range_says s from y).0 split.0

    go : (b : Bool) → leb x.start y.start ≡ b
        → (range_end y ≤ x.start → Alls (list_tests s (range_end y) ys) → Each (Apart x) ys → Alls (list_tests s (range_end y) (insert_range x ys)))
        → Alls (list_tests s from (choose b (x ∷ y ∷ ys) (y ∷ insert_range x ys)))
    go true e ih = alls_join (range_tests s from x) (list_tests s (range_end x) (y ∷ ys)) ((range_says s from x).1 (f, r))
        (alls_join (range_tests s (range_end x) y) (list_tests s (range_end y) ys)
        ((range_says s (range_end x) y).1 (first_ends x y r.not_empty here.1.not_empty d.0 (leb-true x.start y.start e), here.1)) split.1)
    go false e ih =
        let l : y.start < x.start = leb-false x.start y.start e in
        alls_join (range_tests s from y) (list_tests s (range_end y) (insert_range x ys)) split.0
        (ih (second_starts x y r.not_empty here.1.not_empty d.0 (omega arith)) split.1 d.1)

pub insert_members : (x z : Range) (ys : List Range) → z ∈ insert_range x ys ↔ ((z ≡ x) ⊎ z ∈ ys)
unfolding insert_range
insert_members x z [] = (λ m. Memᴰ.cases_cons m, elim [ inl e ↦ Memᴰ.head e | inr m ↦ Memᴰ.tail m ])
insert_members x z (y ∷ ys) = go (leb x.start y.start) (insert_members x z ys)
  where
    go : (b : Bool) → z ∈ insert_range x ys ↔ ((z ≡ x) ⊎ z ∈ ys) → z ∈ choose b (x ∷ y ∷ ys) (y ∷ insert_range x ys) ↔ ((z ≡ x) ⊎ z ∈ (y ∷ ys))
    go true k = (λ m. Memᴰ.cases_cons m, elim [ inl e ↦ Memᴰ.head e | inr m ↦ Memᴰ.tail m ])
    go false k = (
      λ m. elim (Memᴰ.cases_cons m) [ inl e ↦ inr (Memᴰ.head e) | inr n ↦ elim (k.0 n) [ inl e ↦ inl e | inr o ↦ inr (Memᴰ.tail o) ] ],
      elim [
        | inl e ↦ Memᴰ.tail (k.1 (inl e))
        | inr m ↦ elim (Memᴰ.cases_cons m) [ inl e ↦ Memᴰ.head e | inr n ↦ Memᴰ.tail (k.1 (inr n)) ]
      ],
    )

pub insert-length : (x : Range) (ys : List Range) → length (insert_range x ys) ≡ suc (length ys)
unfolding insert_range
insert-length x [] = refl
insert-length x (y ∷ ys) = go (leb x.start y.start) (insert-length x ys)
  where
    go : (b : Bool) → length (insert_range x ys) ≡ suc (length ys) → length (choose b (x ∷ y ∷ ys) (y ∷ insert_range x ys)) ≡ suc (suc (length ys))
    go true e = refl
    go false e = ap suc e

-- ── one less ──

weaken : (s : Space) (a b : ℕ) (xs : List Range) → a ≤ b → Alls (list_tests s b xs) → Alls (list_tests s a xs)
unfolding list_tests
weaken s a b [] h k = tt
weaken s a b (x ∷ xs) h k =
    let w = alls_split (range_tests s b x) (list_tests s (range_end x) xs) k in
    let y = (range_says s b x).0 w.0 in
    alls_join (range_tests s a x) (list_tests s (range_end x) xs) ((range_says s a x).1 (omega (arith, y.0), y.1)) w.1

pub remove_tests : (s : Space) (x : Range) (from : ℕ) (ys : List Range) → Alls (list_tests s from ys) → Alls (list_tests s from (remove_range x ys))
unfolding remove_range list_tests
remove_tests s x from [] h = tt
remove_tests s x from (y ∷ ys) h = go (same_range x y) (remove_tests s x (range_end y) ys)
  where
    split : Alls (range_tests s from y) × Alls (list_tests s (range_end y) ys)
    split = alls_split (range_tests s from y) (list_tests s (range_end y) ys) h

    here : (from ≤ y.start) × RangeRules s y
    here = (range_says s from y).0 split.0

    go : (b : Bool) → (Alls (list_tests s (range_end y) ys) → Alls (list_tests s (range_end y) (remove_range x ys)))
        → Alls (list_tests s from (choose b ys (y ∷ remove_range x ys)))
    go true ih = weaken s from (range_end y) ys (omega (arith, here.0)) split.1
    go false ih = alls_join (range_tests s from y) (list_tests s (range_end y) (remove_range x ys)) split.0 (ih split.1)

pub remove_length : (x : Range) (ys : List Range) → x ∈ ys → suc (length (remove_range x ys)) ≡ length ys
unfolding remove_range
remove_length x [] m = absurd (Memᴰ.not-nil m)
remove_length x (y ∷ ys) m = go (same_range x y) refl (remove_length x ys)
  where
    go : (b : Bool) → same_range x y ≡ b → (x ∈ ys → suc (length (remove_range x ys)) ≡ length ys)
        → suc (length (choose b ys (y ∷ remove_range x ys))) ≡ suc (length ys)
    go true e ih = refl
    go false e ih = ap suc (ih (elim (Memᴰ.cases_cons m) [ inl d ↦ absurd (subst T e ((same_says x y).1 d)) | inr n ↦ n ]))

pub remove_members : (s : Space) (x z : Range) (from : ℕ) (ys : List Range) → Alls (list_tests s from ys)
    → z ∈ remove_range x ys ↔ ((z ≡ x → ⊥) × z ∈ ys)
unfolding remove_range list_tests
remove_members s x z from [] h = (λ m. absurd (Memᴰ.not-nil m), λ p. absurd (Memᴰ.not-nil p.1))
remove_members s x z from (y ∷ ys) h = go (same_range x y) refl (remove_members s x z (range_end y) ys)
  where
    split : Alls (range_tests s from y) × Alls (list_tests s (range_end y) ys)
    split = alls_split (range_tests s from y) (list_tests s (range_end y) ys) h

    here : (from ≤ y.start) × RangeRules s y
    here = (range_says s from y).0 split.0

    behind : z ∈ ys → range_end y ≤ z.start
    behind m = each_mem (λ w. range_end y ≤ w.start) ys z ((list_says s (range_end y) ys).0 split.1).1 m

    go : (b : Bool) → same_range x y ≡ b → (Alls (list_tests s (range_end y) ys) → z ∈ remove_range x ys ↔ ((z ≡ x → ⊥) × z ∈ ys))
        → z ∈ choose b ys (y ∷ remove_range x ys) ↔ ((z ≡ x → ⊥) × z ∈ (y ∷ ys))
    go true e ih =
        let d : x ≡ y = (same_says x y).0 (subst T (sym e) tt) in (
          λ m. (λ c. let l = behind m in let k = ap (λ (w : Range). w.start) (c ∙ d) in omega (arith, here.1.not_empty), Memᴰ.tail m),
          λ p. elim (Memᴰ.cases_cons p.1) [ inl c ↦ absurd (p.0 (c ∙ sym d)) | inr n ↦ n ],
        )
    go false e ih =
        let k = ih split.1 in (
          λ m. elim (Memᴰ.cases_cons m) [
            | inl c ↦ (λ d. subst T e ((same_says x y).1 (sym d ∙ c)), Memᴰ.head c)
            | inr n ↦ ((k.0 n).0, Memᴰ.tail (k.0 n).1)
          ],
          λ p. elim (Memᴰ.cases_cons p.1) [ inl c ↦ Memᴰ.head c | inr n ↦ Memᴰ.tail (k.1 (p.0, n)) ],
        )

-- ── a list that was written ──

abbrev pub relist : RangeList → List Range → RangeList
relist l xs = record { words = list_written (length l.words) xs; count = length xs }

pub relist_rules : (s : Space) (l : RangeList) (xs : List Range) → ListRules s l → Alls (list_tests s 0 xs) → length xs ≤ length l.words / 2
    → ListRules s (relist l xs)
relist_rules s l xs r h k =
    let n : ℕ = length l.words in
    let e = length_list n xs (omega arith) in
    let w = (list_says s 0 xs).0 h in
    let there = sym (read_list n xs) in
    record {
      even = omega (arith, e, r.even);
      length_most = omega (arith, e, r.length_most);
      held = omega (arith, e);
      each_range = subst (Each (RangeRules s)) there w.0;
      ascends = subst (Ordered (λ x y. range_end x ≤ y.start)) there w.2;
      zeros = (places_say (2 * length xs) (list_written n xs)).0 ((zeros_from (2 * length xs) (list_written n xs)).1 (rw e (list_zeros n xs)));
    }
