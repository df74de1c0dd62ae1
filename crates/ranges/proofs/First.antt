-- The first range that ends behind a byte address: how it tells what shares a byte with a range, where a range is to be
-- put in, and which one is to be taken out.
-- Assumes nothing.
use mathlib.Core.Path.{◌≡◌, refl, sym, ap, subst}
use mathlib.Core.Bool.{Bool, true, false, or-false}
use mathlib.Core.List.{List, [], ◌∷◌, map}
use Prim.Native.Nat.{ℕ, suc, ◌+◌, ◌≤◌, ◌<◌}
use native.Mathlib.Omega.{arith}
use lib.Dec.{ltb}
use lib.ListN.{length, get_or}
use borrow.Author.Tests.{ltb-true, ltb-false, le-leb, lt-leb, ne_eqb}
use Rattle.model.specs.declared.Range.{Range}
use Rattle.model.specs.Rows.{choose}
use Rattle.model.specs.Rules.{apart}
use Rattle.model.specs.Ranges.{range_end, insert_range, same_range, listed, remove_range}
use Rattle.model.specs.Exactly.{Each}
use Rattle.model.proofs.Tests.{tests, Alls}
use Rattle.model.proofs.Actions.{each_map}
use Rattle.ranges.specs.Lists.{first_behind}
use Rattle.ranges.specs.Changes.{put_in, taken_out}
use Rattle.ranges.proofs.Places.{Spaced}

-- i is the place of the first range that ends behind a
pub data First (a : ℕ) : List Range → ℕ → Type 0 where
  none : First a [] 0
  here : (y : Range) (ys : List Range) → a < range_end y → First a (y ∷ ys) 0
  later : (y : Range) (ys : List Range) (i : ℕ) → range_end y ≤ a → First a ys i → First a (y ∷ ys) (suc i)

first-behind : (a : ℕ) (ys : List Range) → First a ys (first_behind a ys)
unfolding first_behind
first-behind a [] = none
first-behind a (y ∷ ys) = go (ltb a (range_end y)) refl (first-behind a ys)
  where
    go : (b : Bool) → ltb a (range_end y) ≡ b → First a ys (first_behind a ys) → First a (y ∷ ys) (choose b 0 (suc (first_behind a ys)))
    go true e f = here y ys (ltb-true a (range_end y) e)
    go false e f = later y ys (first_behind a ys) (ltb-false a (range_end y) e) f

pub first_is : {i : ℕ} (a : ℕ) (ys : List Range) → i ≡ first_behind a ys → First a ys i
first_is a ys e = subst (First a ys) (sym e) (first-behind a ys)

pub first_most : (a : ℕ) (ys : List Range) (i : ℕ) → First a ys i → i ≤ length ys
first_most a _ _ none = omega arith
first_most a _ _ (here y ys h) = omega arith
first_most a _ _ (later y ys i h f) = omega (arith, first_most a ys i f)

-- it ends behind a
pub first_ends : (a : ℕ) (ys : List Range) (i : ℕ) (d : Range) → First a ys i → i < length ys → a < range_end (get_or ys i d)
first_ends a _ _ d none l = absurd (omega arith)
first_ends a _ _ d (here y ys h) l = h
first_ends a _ _ d (later y ys i h f) l = first_ends a ys i d f (omega arith)

-- ── a range that shares no byte with one of them ──

module _ (x : Range) where
  abbrev Free : List Range → Type 0
  Free ys = Alls (map (λ y. apart y.start (range_end y) x.start (range_end x)) ys)

  pub free_first : (ys : List Range) (i : ℕ) (d : Range) → First x.start ys i → Spaced ys → 0 < x.size
      → Free ys → i < length ys → range_end x ≤ (get_or ys i d).start
  free_first _ _ d none s p k l = absurd (omega arith)
  free_first _ _ d (here y ys h) s p k l = omega (tests, s.0.0, k.0)
  free_first _ _ d (later y ys i h f) s p k l = free_first ys i d f (s.0.1, s.1.1) p k.1 (omega arith)

  -- ── its place ──

  pub insert-at : (ys : List Range) (i : ℕ) (d : Range) → First x.start ys i → Spaced ys
      → (i < length ys → range_end x ≤ (get_or ys i d).start) → insert_range x ys ≡ put_in x i ys
  unfolding insert_range
  insert-at _ _ d none s k = refl
  insert-at _ _ d (here y ys h) s k =
      let l : range_end x ≤ y.start = k (omega arith) in
      rw (le-leb x.start y.start (omega arith)) refl
  insert-at _ _ d (later y ys i h f) s k =
      rw (lt-leb x.start y.start (omega (arith, s.0.0)), choose) (ap (◌∷◌ y) (insert-at ys i d f (s.0.1, s.1.1) (λ l. k (omega arith))))

  -- ── the same range, and no other ──

  other : (y : Range) → (x.start ≡ y.start → ⊥) → same_range x y ≡ false
  other y n = rw (ne_eqb x.start y.start n) refl

  -- it is none of those that start behind its start
  above-absent : (ys : List Range) → Each (λ y. x.start < y.start) ys → listed x ys ≡ false
  unfolding listed
  above-absent [] h = refl
  above-absent (y ∷ ys) h = rw (other y (λ e. omega (arith, h.0)), above-absent ys h.1) refl

  pub listed_at : (ys : List Range) (i : ℕ) (d : Range) → First x.start ys i → Spaced ys → i < length ys → listed x ys ≡ same_range x (get_or ys i d)
  unfolding listed
  listed_at _ _ d none s l = absurd (omega arith)
  listed_at _ _ d (here y ys h) s l =
      let e = each_map (λ z. range_end y ≤ z.start) (λ z. x.start < z.start) ys (λ z k. omega arith) s.1.0 in
      rw (above-absent ys e) (or-false (same_range x y))
  listed_at _ _ d (later y ys i h f) s l = rw (other y (λ e. omega (arith, s.0.0))) (listed_at ys i d f (s.0.1, s.1.1) (omega arith))

  pub listed_none : (ys : List Range) (i : ℕ) → First x.start ys i → Spaced ys → i ≡ length ys → false ≡ listed x ys
  unfolding listed
  listed_none _ _ none s l = refl
  listed_none _ _ (here y ys h) s l = absurd (omega arith)
  listed_none _ _ (later y ys i h f) s l = rw (other y (λ e. omega (arith, s.0.0))) (listed_none ys i f (s.0.1, s.1.1) (omega arith))

  pub remove_at : (ys : List Range) (i : ℕ) (d : Range) → First x.start ys i → Spaced ys → i < length ys
      → same_range x (get_or ys i d) ≡ true → remove_range x ys ≡ taken_out i ys
  unfolding remove_range
  remove_at _ _ d none s l e = absurd (omega arith)
  remove_at _ _ d (here y ys h) s l e = rw (e, choose) refl
  remove_at _ _ d (later y ys i h f) s l e =
      let n : suc i + 1 ≡ suc (i + 1) = omega arith in
      rw (other y (λ e. omega (arith, s.0.0)), choose, n) (ap (◌∷◌ y) (remove_at ys i d f (s.0.1, s.1.1) (omega arith) e))
