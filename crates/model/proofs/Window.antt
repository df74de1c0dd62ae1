-- The algebra of cutting a table at an address.
-- Assumes nothing.
use Rattle.std.proofs.Math.Nat.{le-max_right}
use mathlib.Core.Path.{◌≡◌, refl, sym, ap, ap₂, ◌∙◌}
use mathlib.Core.List.{List, [], ◌∷◌, ◌++◌}
use Prim.Native.Nat.{ℕ, zero, suc, ◌+◌, ◌-◌, ◌≤◌, ◌<◌, min, max}
use native.Mathlib.Omega.{arith}
use Rattle.model.specs.Prelude.{Mapping}
use Rattle.model.specs.Rules.{end}
use Rattle.model.specs.Exactly.{Each}
use Rattle.model.specs.Cut.{lower_part, upper_part, sized, prepend, below, above}

pub same : (m n : Mapping) → m.address ≡ n.address → m.size ≡ n.size → m.object ≡ n.object → m.offset ≡ n.offset → m ≡ n
same m n a s o f = λ i. record { address = a i; size = s i; object = o i; offset = f i }

-- numbers: `omega` splits at most six differences, minima and maxima at once
min_in : (a x y : ℕ) → min a (x + (y - x)) - x ≡ min a y - x
min_in a x y = omega arith

sub_out : (e y z : ℕ) → y ≤ z → (y + (e - y)) - z ≡ e - z
sub_out e y z h = omega arith

min_assoc : (a b c : ℕ) → min a (min b c) ≡ min (min a b) c
min_assoc a b c = omega arith

lower-lower : (a b : ℕ) (m : Mapping) → lower_part a (lower_part b m) ≡ lower_part (min a b) m
lower-lower a b m = same (lower_part a (lower_part b m)) (lower_part (min a b) m) refl (rw (min_in, min_assoc)) refl refl

-- from an address under the mapping on it is whole; cut twice, the higher address counts
pub upper_clamp : (b : ℕ) (m : Mapping) → upper_part b m ≡ upper_part (max b m.address) m
upper_clamp b m = same (upper_part b m) (upper_part (max b m.address) m) (omega arith) (omega arith) refl (omega arith)

upper_twice : (y z : ℕ) (m : Mapping) → m.address ≤ y → y ≤ z → upper_part z (upper_part y m) ≡ upper_part z m
upper_twice y z m h k = same (upper_part z (upper_part y m)) (upper_part z m) (omega arith) (omega arith) refl (omega arith)

upper-upper : (a b : ℕ) (m : Mapping) → upper_part a (upper_part b m) ≡ upper_part (max a b) m
upper-upper a b m =
    let y : ℕ = max b m.address in
    let z : ℕ = max a (max (max b m.address) m.address) in
    ap (upper_part a) (upper_clamp b m)
    ∙ upper_clamp a (upper_part y m)
    ∙ upper_twice y z m (omega arith) (omega arith)
    ∙ ap (λ (x : ℕ). upper_part x m) (omega arith)
    ∙ sym (upper_clamp (max a b) m)

lower-upper : (a b : ℕ) (m : Mapping) → lower_part a (upper_part b m) ≡ upper_part b (lower_part a m)
lower-upper a b m = same (lower_part a (upper_part b m)) (upper_part b (lower_part a m)) refl
    (min_in a (max b m.address) (end m) ∙ sym (sub_out (min a (end m)) m.address (max b m.address) (le-max_right b m.address)))
    refl refl

-- a mapping kept or dropped
sized_pos : (n : ℕ) (m : Mapping) (t : List Mapping) → 0 < n → sized n m t ≡ m ∷ t
sized_pos zero m t h = absurd (omega arith)
sized_pos (suc n) m t h = refl

pub prepend-zero : (m : Mapping) (t : List Mapping) → m.size ≡ 0 → prepend m t ≡ t
prepend-zero m t e = rw e

pub prepend_pos : (m : Mapping) (t : List Mapping) → 0 < m.size → prepend m t ≡ m ∷ t
prepend_pos m t h = sized_pos m.size m t h

below-sized : (a : ℕ) (n : ℕ) (m : Mapping) (t : List Mapping) → m.size ≡ n → below a (sized n m t) ≡ prepend (lower_part a m) (below a t)
unfolding below
below-sized a zero m t e = sym (prepend-zero (lower_part a m) (below a t) (omega arith))
below-sized a (suc n) m t e = refl

above-sized : (b : ℕ) (n : ℕ) (m : Mapping) (t : List Mapping) → m.size ≡ n → above b (sized n m t) ≡ prepend (upper_part b m) (above b t)
unfolding above
above-sized b zero m t e = sym (prepend-zero (upper_part b m) (above b t) (omega arith))
above-sized b (suc n) m t e = refl

pub below-below : (a b : ℕ) (t : List Mapping) → below a (below b t) ≡ below (min a b) t
unfolding below
below-below a b [] = refl
below-below a b (m ∷ t) = below-sized a _ (lower_part b m) (below b t) refl ∙ ap₂ prepend (lower-lower a b m) (below-below a b t)

pub above-above : (a b : ℕ) (t : List Mapping) → above a (above b t) ≡ above (max a b) t
unfolding above
above-above a b [] = refl
above-above a b (m ∷ t) = above-sized a _ (upper_part b m) (above b t) refl ∙ ap₂ prepend (upper-upper a b m) (above-above a b t)

pub below-above : (a b : ℕ) (t : List Mapping) → below a (above b t) ≡ above b (below a t)
unfolding below above
below-above a b [] = refl
below-above a b (m ∷ t) =
    below-sized a _ (upper_part b m) (above b t) refl
    ∙ ap₂ prepend (lower-upper a b m) (below-above a b t)
    ∙ sym (above-sized b _ (lower_part a m) (below a t) refl)

-- nothing is both under a and from b on, where a is at or before b
pub below-above_none : (a b : ℕ) (t : List Mapping) → a ≤ b → below a (above b t) ≡ []
unfolding below above
below-above_none a b [] h = refl
below-above_none a b (m ∷ t) h =
    below-sized a _ (upper_part b m) (above b t) refl
    ∙ prepend-zero (lower_part a (upper_part b m)) (below a (above b t)) (none (max b m.address) (end m - max b m.address) (omega arith))
    ∙ below-above_none a b t h
  where
    none : (y z : ℕ) → a ≤ y → min a (y + z) - y ≡ 0
    none y z k = omega arith

pub above-below_none : (a b : ℕ) (t : List Mapping) → a ≤ b → above b (below a t) ≡ []
above-below_none a b t h = sym (below-above a b t) ∙ below-above_none a b t h

-- two tables, one behind the other
sized-append : (n : ℕ) (m : Mapping) (t u : List Mapping) → sized n m (t ++ u) ≡ sized n m t ++ u
sized-append zero m t u = refl
sized-append (suc n) m t u = refl

pub prepend-append : (m : Mapping) (t u : List Mapping) → prepend m (t ++ u) ≡ prepend m t ++ u
prepend-append m t u = sized-append m.size m t u

pub below-append : (a : ℕ) (t u : List Mapping) → below a (t ++ u) ≡ below a t ++ below a u
unfolding below
below-append a [] u = refl
below-append a (m ∷ t) u = ap (prepend (lower_part a m)) (below-append a t u) ∙ prepend-append (lower_part a m) (below a t) (below a u)

pub above-append : (b : ℕ) (t u : List Mapping) → above b (t ++ u) ≡ above b t ++ above b u
unfolding above
above-append b [] u = refl
above-append b (m ∷ t) u = ap (prepend (upper_part b m)) (above-append b t u) ∙ prepend-append (upper_part b m) (above b t) (above b u)

pub prepend-cut : (m n : Mapping) (t : List Mapping) → 0 < m.size → n ≡ m → prepend n t ≡ m ∷ t
prepend-cut m n t h e = ap (λ (x : Mapping). prepend x t) e ∙ prepend_pos m t h

-- mappings that lie all under the address, or all from it on
pub below_under : (a : ℕ) (t : List Mapping) → Each (λ m. (end m ≤ a) × (0 < m.size)) t → below a t ≡ t
unfolding below
below_under a [] h = refl
below_under a (m ∷ t) h =
    prepend-cut m (lower_part a m) (below a t) h.0.1 (same (lower_part a m) m refl (omega (arith, h.0)) refl refl)
    ∙ ap (◌∷◌ m) (below_under a t h.1)

pub below_over : (a : ℕ) (t : List Mapping) → Each (λ m. a ≤ m.address) t → below a t ≡ []
unfolding below
below_over a [] h = refl
below_over a (m ∷ t) h = prepend-zero (lower_part a m) (below a t) (omega (arith, h.0)) ∙ below_over a t h.1

pub above_over : (b : ℕ) (t : List Mapping) → Each (λ m. (b ≤ m.address) × (0 < m.size)) t → above b t ≡ t
unfolding above
above_over b [] h = refl
above_over b (m ∷ t) h =
    prepend-cut m (upper_part b m) (above b t) h.0.1
    (same (upper_part b m) m (omega (arith, h.0)) (omega (arith, h.0)) refl (omega (arith, h.0)))
    ∙ ap (◌∷◌ m) (above_over b t h.1)

pub above_under : (b : ℕ) (t : List Mapping) → Each (λ m. end m ≤ b) t → above b t ≡ []
unfolding above
above_under b [] h = refl
above_under b (m ∷ t) h = prepend-zero (upper_part b m) (above b t) (omega (arith, h.0)) ∙ above_under b t h.1
