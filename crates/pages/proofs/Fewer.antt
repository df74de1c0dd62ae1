-- How many entries a size saves: each whole page of it stands for as many of the size below as go into it.
-- Assumes nothing.
use mathlib.Core.Path.{◌≡◌, refl, sym, ap, ◌∙◌}
use mathlib.Core.Bool.{Bool, true, false}
use mathlib.Core.List.Memᴰ
use mathlib.Core.List.{List, ◌∷◌, ◌++◌}
use Prim.Native.Nat.{ℕ, zero, suc, ◌+◌, ◌-◌, ◌*◌, ◌/◌, ◌∣◌, ◌<◌}
use native.Mathlib.Nat.{mul_comm, suc-mul, div-mul_cancel, mul-div_assoc, dvd_of_mod-eq-zero}
use native.Mathlib.Omega.{arith}
use lib.ListN.{length}
use borrow.Author.Tests.{eqb-true}
use Rattle.model.specs.Rows.{choose}
use Rattle.model.specs.Rules.{end}
use Rattle.model.specs.Exactly.{Each}
use Rattle.model.proofs.Actions.{each_map, each_append}
use Rattle.pages.specs.Prelude.{Mapping}
use Rattle.pages.specs.Pages.{lower, middle, upper, congruent, paged, cover, entry_count}
use Rattle.pages.specs.Claims.{Ladder, least}
use Rattle.pages.proofs.Level.{middle-whole}
use Rattle.pages.proofs.Counts.{count-length, length-paged, length_three}
use Rattle.pages.proofs.Tiles.{Covered, Base, ladder_some, base_lower, base_upper, three_parts, covered}
use Rattle.pages.proofs.Small.{Largest, Raises, largest_unique, pages_largest, lower_raises, upper_raises, raised, cover-largest}

-- ── numbers ──

one-and_others : (k w : ℕ) → 0 < k → w + (k - 1) * w ≡ w * k
one-and_others zero w h = absurd (omega (arith, h))
one-and_others (suc k) w h =
    let e : (suc k - 1) * w ≡ k * w = ap (λ (x : ℕ). x * w) (omega arith) in
    omega (arith, e, suc-mul k w, mul_comm w (suc k))

-- n is made of pieces of the size s, and these of pieces of the size t
finer : (s t n : ℕ) → t ∣ s → s ∣ n → n / t ≡ n / s * (s / t)
finer s t n p q = ap (λ (x : ℕ). x / t) (sym (div-mul_cancel s q)) ∙ mul-div_assoc t (n / s) p

quotient_some : (s t : ℕ) → 0 < s → t ∣ s → 0 < s / t
quotient_some s t h p = go (s / t) (div-mul_cancel t p)
  where
    go : (k : ℕ) → k * t ≡ s → 0 < k
    go zero e = absurd (omega (arith, e, h))
    go (suc k) e = omega arith

-- ── one size less ──

module _ (s t : ℕ) (ts : List ℕ) (m : Mapping) (l : Ladder s (t ∷ ts)) (g : Base (least t ts) m) where
  divides : t ∣ s
  divides = dvd_of_mod-eq-zero t l.1

  low : Base (least t ts) (lower s m)
  low = base_lower s t ts m l g

  high : Base (least t ts) (upper s m)
  high = base_upper s t ts m l g

  -- an entry of a remainder is the largest that fits into all of m
  remainder_largest : (n : Mapping) → Base (least t ts) n → Raises s t ts m l n → Each (Largest (t ∷ ts) (end m)) (cover t ts n)
  remainder_largest n b r = each_map (Largest (s ∷ t ∷ ts) (end m)) (Largest (t ∷ ts) (end m)) (cover t ts n) (λ e k z i. k z (Memᴰ.tail i))
      (raised s t ts m l n b r (cover-largest t ts n l.2 b))

  -- the sizes below alone: a cut at boundaries of s changes no entry
  cover-below : congruent s m ≡ true → cover t ts (lower s m) ++ (paged t (middle s m) ++ cover t ts (upper s m)) ≡ cover t ts m
  cover-below e = largest_unique (t ∷ ts) m m.address (end m) _ (cover t ts m) c.tiles d.tiles c.each d.each
      (each_append (Largest (t ∷ ts) (end m)) (cover t ts (lower s m)) (paged t (middle s m) ++ cover t ts (upper s m))
      (remainder_largest (lower s m) low (lower_raises s t ts m l))
      (each_append (Largest (t ∷ ts) (end m)) (paged t (middle s m)) (cover t ts (upper s m))
      (pages_largest t ts (end m) ((middle s m).size / t) (middle s m).address (middle s m).offset l.2)
      (remainder_largest (upper s m) high (upper_raises s t ts m l)))) (cover-largest t ts m l.2 g)
    where
      c : Covered (t ∷ ts) m (cover t ts (lower s m) ++ (paged t (middle s m) ++ cover t ts (upper s m)))
      c = three_parts s t ts m l (t ∷ ts) t (Memᴰ.head refl) (ladder_some t ts l.2) divides (λ _ p. p) (eqb-true _ _ e)
          (cover t ts (lower s m)) (cover t ts (upper s m)) (covered t ts (lower s m) l.2 low) (covered t ts (upper s m) l.2 high)

      d : Covered (t ∷ ts) m (cover t ts m)
      d = covered t ts m l.2 g

  count-below : congruent s m ≡ true
      → entry_count t ts (lower s m) + ((middle s m).size / s * (s / t) + entry_count t ts (upper s m)) ≡ entry_count t ts m
  count-below e = omega (
    arith,
    count-length t ts (lower s m),
    count-length t ts (upper s m),
    count-length t ts m,
    length-paged t (middle s m),
    finer s t (middle s m).size divides (middle-whole s m l.0),
    length_three (cover t ts (lower s m)) (paged t (middle s m)) (cover t ts (upper s m)),
    ap length (cover-below e),
  )

-- each whole page of the size s stands for s / t of the size below
pub count_less : (s t : ℕ) (ts : List ℕ) (m : Mapping) → Ladder s (t ∷ ts) → Base (least t ts) m
    → entry_count s (t ∷ ts) m + (s / t - 1) * choose (congruent s m) ((middle s m).size / s) 0 ≡ entry_count t ts m
unfolding entry_count
count_less s t ts m l g = go (congruent s m) refl
  where
    go : (b : Bool) → congruent s m ≡ b
        → choose b (entry_count t ts (lower s m) + ((middle s m).size / s + entry_count t ts (upper s m))) (entry_count t ts m)
        + (s / t - 1) * choose b ((middle s m).size / s) 0
        ≡ entry_count t ts m
    go true e = omega (
      arith,
      one-and_others (s / t) ((middle s m).size / s) (quotient_some s t l.0 (dvd_of_mod-eq-zero t l.1)),
      count-below s t ts m l g e,
    )
    go false e = omega arith
