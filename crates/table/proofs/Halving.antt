-- The search by halves: worked cases, the claim, and how a loop over the words keeps step with it.
-- Assumes nothing.
use mathlib.Core.Path.{◌≡◌, refl, sym, ap, subst, ◌∙◌}
use mathlib.Core.Logic.{⊎_elim}
use mathlib.Core.List.{List, [], ◌∷◌, map}
use Prim.Native.Nat.{ℕ, zero, suc, ◌+◌, ◌-◌, ◌/◌, ◌≤◌, ◌<◌}
use native.Mathlib.Omega.{arith}
use lib.Dec.{ltb}
use lib.ListN.{length}
use borrow.Author.Tests.{lt-ltb, le-ltb}
use Rattle.model.specs.declared.Mapping.{Mapping}
use Rattle.model.specs.Rows.{choose}
use Rattle.model.specs.Rules.{end}
use Rattle.model.specs.Exactly.{Ascends}
use Rattle.model.proofs.Numbers.{order}
use Rattle.table.specs.declared.Search.{Search}
use Rattle.table.specs.Places.{first_where, ends_behind}
use Rattle.table.specs.Halving.{digits_in, binary_digits, whole, middle, halved, at, step, steps, halving, Finds, Halving}
use Rattle.table.proofs.First.{first_most, first_least}
use Rattle.table.proofs.Ends.{ends_ascend, ends_before, ends-behind, first_sees}
use Rattle.table.proofs.Digits.{digits_less, digits_none}

-- ── worked cases ──

-- n mappings of a byte each, from address a on
abbrev bytes : ℕ → ℕ → List Mapping
bytes a zero = []
bytes a (suc n) = record { address = a; size = 1; object = 1; offset = 0 } ∷ bytes (a + 1) n

-- in n of them, the search for each x: the place, how many are left and looks
abbrev searches : ℕ → List ℕ → List (ℕ × ℕ × ℕ)
searches n xs = map (λ x. let s = halving (bytes 0 n) x in (s.lo, s.left, s.looks)) xs

in_none : searches 0 (0 ∷ []) ≡ (0, 0, 0) ∷ []
unfolding halving steps binary_digits digits_in
in_none = refl

in_one : searches 1 (0 ∷ 1 ∷ []) ≡ (0, 0, 1) ∷ (1, 0, 1) ∷ []
unfolding halving steps step halved binary_digits digits_in
in_one = refl

in_three : searches 3 (0 ∷ 1 ∷ 2 ∷ 3 ∷ []) ≡ (0, 0, 2) ∷ (1, 0, 2) ∷ (2, 0, 2) ∷ (3, 0, 2) ∷ []
unfolding halving steps step halved binary_digits digits_in
in_three = refl

in_four : searches 4 (0 ∷ 1 ∷ 2 ∷ 3 ∷ 4 ∷ []) ≡ (0, 0, 3) ∷ (1, 0, 3) ∷ (2, 0, 3) ∷ (3, 0, 3) ∷ (4, 0, 3) ∷ []
unfolding halving steps step halved binary_digits digits_in
in_four = refl

-- the mapping in the middle alone decides: here the first one, out of order, ends behind 2
one_decides : step (record { address = 0; size = 9; object = 1; offset = 0 } ∷ bytes 1 2) 2 (whole 3) ≡ record { lo = 2; left = 1; looks = 1 }
unfolding step halved
one_decides = refl

-- ── one step ──

pub halved-lower : (x : ℕ) (m : Mapping) (s : Search) → x < end m → record { lo = s.lo; left = s.left / 2; looks = s.looks + 1 } ≡ halved x m s
unfolding halved
halved-lower x m s h = rw (lt-ltb x (end m) h) refl

pub halved-upper : (x : ℕ) (m : Mapping) (s : Search) → end m ≤ x
    → record { lo = s.lo + (s.left - s.left / 2); left = s.left / 2; looks = s.looks + 1 } ≡ halved x m s
unfolding halved
halved-upper x m s h = rw (le-ltb x (end m) h) refl

-- a look leaves half
half : (x : ℕ) (m : Mapping) (s : Search) → (halved x m s).left ≡ s.left / 2
half x m s = ⊎_elim (λ k. ap (λ (r : Search). r.left) (sym (halved-upper x m s k))) (λ k. ap (λ (r : Search). r.left) (sym (halved-lower x m s k))) (order (end m) x)

counted : (x : ℕ) (m : Mapping) (s : Search) → (halved x m s).looks ≡ s.looks + 1
counted x m s = ⊎_elim (λ k. ap (λ (r : Search). r.looks) (sym (halved-upper x m s k))) (λ k. ap (λ (r : Search). r.looks) (sym (halved-lower x m s k))) (order (end m) x)

-- and takes away one digit
pub halved_less : (x : ℕ) (m : Mapping) (s : Search) → 0 < s.left → binary_digits (halved x m s).left < binary_digits s.left
halved_less x m s h = digits_less s.left (halved x m s).left h (omega (arith, half x m s))

module _ (ms : List Mapping) (x : ℕ) (s : Search) where
  pub step_some : 0 < s.left → step ms x s ≡ halved x (at ms (middle s)) s
  unfolding step
  step_some h = rw (lt-ltb 0 s.left h) refl

  pub step_none : s.left ≤ 0 → step ms x s ≡ s
  unfolding step
  step_none h = rw (le-ltb 0 s.left h) refl

  one_look : 0 < s.left → (step ms x s).looks ≡ s.looks + 1
  one_look h = rw (step_some h) (counted x (at ms (middle s)) s)

  half_left : (step ms x s).left ≡ s.left / 2
  half_left = ⊎_elim (λ h. rw (step_none h) (omega arith)) (λ h. rw (step_some h) (half x (at ms (middle s)) s)) (order s.left 0)

one_mapping : (ms ns : List Mapping) (x : ℕ) (s : Search) → at ms (middle s) ≡ at ns (middle s) → step ms x s ≡ step ns x s
unfolding step
one_mapping ms ns x s e = ap (λ (m : Mapping). choose (ltb 0 s.left) (halved x m s) s) e

steps_none : (k : ℕ) (ms : List Mapping) (x : ℕ) (s : Search) → s.left ≤ 0 → steps k ms x s ≡ s
unfolding steps
steps_none zero ms x s h = refl
steps_none (suc k) ms x s h = ap (steps k ms x) (step_none ms x s h) ∙ steps_none k ms x s h

-- ── the claim ──

module _ (ms : List Mapping) (x : ℕ) where
  abbrev first : ℕ
  first = first_where (ends_behind x) ms

  -- the place that is looked for is among those left, and their number has digits for all looks to come
  pub record Within (s : Search) : Type 0 where
    pub low : s.lo ≤ first
    pub high : first ≤ s.lo + s.left
    pub most : s.lo + s.left ≤ length ms
    pub digits : s.looks + binary_digits s.left ≤ binary_digits (length ms)

  pub whole_within : Within (whole (length ms))
  whole_within = record { low = omega arith; high = omega (arith, first_most (ends_behind x) ms); most = omega arith; digits = omega arith }

  -- the mapping looked at tells on which side of it the place is
  halved_within : Ascends ms → (s : Search) → 0 < s.left → Within s → Within (halved x (at ms (middle s)) s)
  halved_within a s h w =
      let used : (halved x m s).looks + binary_digits (halved x m s).left ≤ binary_digits (length ms) = omega (arith, counted x m s, halved_less x m s h, w.digits) in
      ⊎_elim
      (λ k. let r = halved-upper x m s k in
      let behind = ends_ascend ms x (middle s) _ a (omega (arith, w.most)) k in
      rw (sym r) (record { low = omega (arith, behind); high = omega (arith, w.high); most = omega (arith, w.most); digits = rw (sym r) at used }))
      (λ k. let r = halved-lower x m s k in
      let before = first_least (ends_behind x) ms (middle s) _ (lt-ltb x (end m) k) in
      rw (sym r) (record { low = w.low; high = omega (arith, before); most = omega (arith, w.most); digits = rw (sym r) at used }))
      (order (end m) x)
    where
      m : Mapping
      m = at ms (middle s)

  abbrev Ended : Search → Type 0
  Ended s = Within s × (s.left ≤ 0)

  -- as many steps as there are digits leave nothing
  ends : Ascends ms → (k : ℕ) (s : Search) → Within s → binary_digits s.left ≤ k → Ended (steps k ms x s)
  unfolding steps
  ends a zero s w l = (w, digits_none s.left l)
  ends a (suc k) s w l = ⊎_elim
      (λ h. subst Ended (sym (steps_none (suc k) ms x s h)) (w, h))
      (λ h. subst (λ (r : Search). Ended (steps k ms x r)) (sym (step_some ms x s h))
      (ends a k (halved x (at ms (middle s)) s) (halved_within a s h w) (omega (arith, halved_less x (at ms (middle s)) s h))))
      (order s.left 0)

  finds_there : Ascends ms → (s : Search) → Ended s → Finds ms x s
  finds_there a s e =
      let i : s.lo ≡ first = omega (arith, e.0.low, e.0.high, e.1) in
      record {
        ended = omega (arith, e.1);
        within = omega (arith, e.0.digits);
        first = i;
        before = rw i (ends_before ms x);
        behind = rw i (ends-behind x ms a);
        sees = λ space ys. rw i (first_sees x space ys ms a);
      }

  pub finds : Ascends ms → Finds ms x (halving ms x)
  unfolding halving
  finds a = finds_there a _ (ends a (binary_digits (length ms)) (whole (length ms)) whole_within (omega (arith, whole_within.digits)))

pub halving_finds : Halving
halving_finds = record { one_mapping = one_mapping; one_look = one_look; half_left = half_left; finds = finds }

-- ── look by look, as a loop goes ──

module _ (ms : List Mapping) (x : ℕ) where
  abbrev more : Search → ℕ
  more s = binary_digits (length ms) - s.looks

  -- the steps that are left lead to the answer
  pub record Left (s : Search) : Type 0 where
    pub within : Within ms x s
    pub leads : steps (more s) ms x s ≡ halving ms x

  pub left-start : Left (whole (length ms))
  unfolding halving
  left-start = record { within = whole_within ms x; leads = ap (λ (k : ℕ). steps k ms x (whole (length ms))) (omega arith) }

  module _ {s : Search} (g : Left s) where
    pub left_end : s.left ≤ 0 → s ≡ halving ms x
    left_end h = sym (steps_none (more s) ms x s h) ∙ g.leads

    module _ (h : 0 < s.left) where
      abbrev r : Search
      r = halved x (at ms (middle s)) s

      pub left_some : s.looks < binary_digits (length ms)
      left_some = omega (arith, g.within.digits, digits_less s.left 0 h (omega arith))

      one_less : steps (suc (more r)) ms x s ≡ steps (more r) ms x r
      unfolding steps
      one_less = ap (steps (more r) ms x) (step_some ms x s h)

      pub left-next : Ascends ms → Left r
      left-next a =
          let e : more s ≡ suc (more r) = omega (arith, left_some, counted x (at ms (middle s)) s) in
          record { within = halved_within ms x a s h g.within; leads = sym one_less ∙ ap (λ (k : ℕ). steps k ms x s) (sym e) ∙ g.leads }

    pub left_step : Ascends ms → Left (step ms x s)
    left_step a = ⊎_elim (λ h. subst Left (sym (step_none ms x s h)) g) (λ h. subst Left (sym (step_some ms x s h)) (left-next h a)) (order s.left 0)
