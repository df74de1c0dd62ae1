-- What is seen off all mappings, by the first range that ends behind the address: it has the byte or is the next one.
-- Assumes nothing.
use mathlib.Core.Path.{◌≡◌, refl, ap, ap₂, subst, sym, ◌∙◌}
use mathlib.Core.List.{List, [], ◌∷◌}
use Prim.Native.Nat.{ℕ, ◌+◌, ◌-◌, ◌≤◌, ◌<◌, min}
use native.Mathlib.Omega.{arith}
use lib.ListN.{length, get_or}
use borrow.Author.Tests.{lt-ltb, le-ltb}
use Rattle.model.specs.declared.Range.{Range}
use Rattle.model.specs.declared.Seen.{Seen}
use Rattle.model.specs.declared.Shown.{Shown}
use Rattle.model.specs.declared.Shown.TheVariants.{Nothing, Sparse, Object}
use Rattle.model.specs.Ranges.{ranges_in, range_end, in_range_tests, bare, nearer, next_edge}
use Rattle.model.specs.Exactly.{Each}
use Rattle.model.specs.Lookups.{nothing}
use Rattle.model.proofs.Tests.{tests, all_true, all_false}
use Rattle.model.proofs.Actions.{each_map}
use Rattle.ranges.specs.Lists.{first_behind}
use Rattle.std.proofs.Common.{Some, slice_get}
use Rattle.std.proofs.lemmas.Option.{slice_get_within, get_or_from_slice_get}
use Rattle.ranges.specs.Beside.{beside_off, beside_for, beside}
use Rattle.ranges.proofs.Places.{Spaced}
use Rattle.ranges.proofs.First.{First, none, here, later, first_is, first_most, first_ends}

-- ── a range in front of others ──

module _ (x a b : ℕ) where
  near : x < a → nearer x a b ≡ min a b
  near h = rw (lt-ltb x a h) refl

  far : a ≤ x → nearer x a b ≡ b
  far h = rw (le-ltb x a h) refl

module _ (x : ℕ) (y : Range) (ys : List Range) where
  bare_in : y.start ≤ x → x < range_end y → bare (y ∷ ys) x ≡ Sparse
  unfolding bare
  bare_in h k = rw (all_true (in_range_tests y x) (omega tests)) refl

  bare_past : range_end y ≤ x → bare (y ∷ ys) x ≡ bare ys x
  unfolding bare
  bare_past h = rw (all_false (in_range_tests y x) (λ t. omega tests)) refl

  bare_before : x < y.start → bare (y ∷ ys) x ≡ bare ys x
  unfolding bare
  bare_before h = rw (all_false (in_range_tests y x) (λ t. omega tests)) refl

  module _ (to : ℕ) where
    edge_in : y.start ≤ x → x < range_end y → next_edge to (y ∷ ys) x ≡ min (range_end y) (next_edge to ys x)
    unfolding next_edge
    edge_in h k = far x y.start _ h ∙ near x (range_end y) _ k

    edge_past : range_end y ≤ x → next_edge to (y ∷ ys) x ≡ next_edge to ys x
    unfolding next_edge
    edge_past h = far x y.start _ (omega arith) ∙ far x (range_end y) _ h

    edge_before : x < y.start → next_edge to (y ∷ ys) x ≡ min y.start (next_edge to ys x)
    unfolding next_edge
    edge_before h =
        let e = near x (range_end y) (next_edge to ys x) (omega arith) in
        near x y.start _ h ∙ rw e (omega arith)

-- those that start at an address behind x or behind it have no say below it
bare-above : (x : ℕ) (ys : List Range) → Each (λ y. x < y.start) ys → bare ys x ≡ Nothing
unfolding bare
bare-above x [] h = refl
bare-above x (y ∷ ys) h = bare_before x y ys h.0 ∙ bare-above x ys h.1

edge_above : (x to a : ℕ) (ys : List Range) → x < a → Each (λ y. a ≤ y.start) ys → min a (next_edge to ys x) ≡ min a to
unfolding next_edge
edge_above x to a [] h k = refl
edge_above x to a (y ∷ ys) h k =
    let e = edge_before x y ys to (omega (arith, k.0)) in
    omega (arith, e, edge_above x to a ys h k.1, k.0)

-- ── by the first that ends behind x ──

module _ (x to : ℕ) where
  abbrev Off : List Range → Shown → ℕ → Type 0
  Off ys v e = (bare ys x ≡ v) × (next_edge to ys x ≡ e)

  off_past : {v : Shown} {e : ℕ} (y : Range) (ys : List Range) → range_end y ≤ x → Off ys v e → Off (y ∷ ys) v e
  off_past y ys h o = (bare_past x y ys h ∙ o.0, edge_past x y ys to h ∙ o.1)

  off_none : (ys : List Range) (i : ℕ) → First x ys i → i ≡ length ys → Off ys Nothing to
  unfolding bare next_edge
  off_none _ _ none e = (refl, refl)
  off_none _ _ (here y ys h) e = absurd (omega arith)
  off_none _ _ (later y ys i h f) e = off_past y ys h (off_none ys i f (omega arith))

  off_before : (ys : List Range) (i : ℕ) (d : Range) → First x ys i → Spaced ys → i < length ys → x < (get_or ys i d).start
      → Off ys Nothing (min (get_or ys i d).start to)
  off_before _ _ d none s l k = absurd (omega arith)
  off_before _ _ d (here y ys h) s l k =
      let above = each_map (λ z. range_end y ≤ z.start) (λ z. x < z.start) ys (λ z e. omega arith) s.1.0 in (
        bare_before x y ys k ∙ bare-above x ys above,
        omega (arith, edge_before x y ys to k, edge_above x to (range_end y) ys h s.1.0),
      )
  off_before _ _ d (later y ys i h f) s l k = off_past y ys h (off_before ys i d f (s.0.1, s.1.1) (omega arith) k)

  off_in : (ys : List Range) (i : ℕ) (d : Range) → First x ys i → Spaced ys → i < length ys → (get_or ys i d).start ≤ x
      → Off ys Sparse (min (range_end (get_or ys i d)) to)
  off_in _ _ d none s l k = absurd (omega arith)
  off_in _ _ d (here y ys h) s l k = (bare_in x y ys k h, edge_in x y ys to k h ∙ edge_above x to (range_end y) ys h s.1.0)
  off_in _ _ d (later y ys i h f) s l k = off_past y ys h (off_in ys i d f (s.0.1, s.1.1) (omega arith) k)

-- ── in a list that passed its check ──

abbrev seen : Shown → ℕ → Seen
seen v n = record { shown = v; bytes = n }

off_is : (ys : List Range) (x n : ℕ) {v : Shown} {e : ℕ} → Off x (x + n) ys v e → seen v (e - x) ≡ beside_off ys x n
unfolding beside_off
off_is ys x n o = sym (ap₂ seen o.0 (ap (λ (e : ℕ). e - x) o.1))

module _ (ys : List Range) (s : Spaced ys) (x n : ℕ) {i : ℕ} (e : i ≡ first_behind x ys) where
  first : First x ys i
  first = first_is x ys e

  pub off-end : length ys ≤ i → nothing n ≡ beside_off ys x n
  off-end q =
      let m : x + n - x ≡ n = omega arith in
      rw m at (off_is ys x n (off_none x (x + n) ys i first (omega (arith, q, first_most x ys i first))))

  module _ {y : Range} (r : slice_get ys i ≡ Some y) where
    there : get_or ys i y ≡ y
    there = get_or_from_slice_get ys i y y r

    inside : i < length ys
    inside = slice_get_within ys i y r

    pub ends-behind : x < range_end y
    ends-behind = subst (λ (y : Range). x < range_end y) there (first_ends x ys i y first inside)

    pub off_next : x < y.start → {b : ℕ} → b ≡ min n (y.start - x) → seen Nothing b ≡ beside_off ys x n
    off_next h b =
        let m : min y.start (x + n) - x ≡ min n (y.start - x) = omega arith in
        let o : Off x (x + n) ys Nothing (min y.start (x + n)) = rw there at (off_before x (x + n) ys i y first s inside (rw there h)) in
        ap (seen Nothing) (b ∙ sym m) ∙ off_is ys x n o

    pub off_here : y.start ≤ x → {b : ℕ} → b ≡ min n (range_end y - x) → seen Sparse b ≡ beside_off ys x n
    off_here h b =
        let m : min (range_end y) (x + n) - x ≡ min n (range_end y - x) = omega (arith, ends-behind) in
        let o : Off x (x + n) ys Sparse (min (range_end y) (x + n)) = rw there at (off_in x (x + n) ys i y first s inside (rw there h)) in
        ap (seen Sparse) (b ∙ sym m) ∙ off_is ys x n o

-- an empty list changes nothing
pub beside_none : (ws : List ℕ) (count x : ℕ) (v : Seen) → count ≡ 0 → v ≡ beside (ranges_in count ws) x v
unfolding beside beside_off ranges_in bare next_edge
beside_none ws count x v e = rw e (go v.shown refl)
  where
    go : (s : Shown) → v.shown ≡ s → v ≡ beside_for s [] x v
    go Nothing q = let m : v.bytes ≡ x + v.bytes - x = omega arith in λ i. record { shown = q i; bytes = m i }
    go Sparse q = refl
    go (Object o f) q = refl

-- what a mapping or a range shows stays
pub beside_other : (ys : List Range) (x : ℕ) (v : Seen) → (v.shown ≡ Nothing → ⊥) → v ≡ beside ys x v
unfolding beside
beside_other ys x v n = go v.shown refl
  where
    go : (s : Shown) → v.shown ≡ s → v ≡ beside_for s ys x v
    go Nothing q = absurd (n q)
    go Sparse q = refl
    go (Object o f) q = refl
