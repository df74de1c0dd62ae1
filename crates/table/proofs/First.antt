-- The first mapping that passes a test, as a loop over the words looks for it.
-- Assumes nothing.
use mathlib.Core.Path.{◌≡◌, refl, ap}
use mathlib.Core.Bool.{Bool, true, false}
use mathlib.Core.List.{List, [], ◌∷◌}
use Prim.Native.Nat.{ℕ, zero, suc, ◌+◌, ◌≤◌, ◌<◌}
use native.Mathlib.Omega.{arith}
use lib.ListN.{length, get_or, take, drop}
use Rattle.model.specs.declared.Mapping.{Mapping}
use Rattle.model.specs.Rows.{choose}
use Rattle.model.specs.Table.{mappings_in}
use Rattle.model.specs.Exactly.{Each}
use Rattle.table.specs.Places.{mapping_at, first_where}
use Rattle.table.proofs.Places.{from_place, from_end}

-- what the loop is to answer is i and the first place from i on
pub record FirstFrom (p : Mapping → Bool) (ws : List ℕ) (n answer i : ℕ) : Type 0 where
  pub is : answer ≡ i + first_where p (drop i (mappings_in n ws))

module _ {p : Mapping → Bool} {ws : List ℕ} {n answer i : ℕ} where
  module _ {m : Mapping} (h : i < n) (e : m ≡ mapping_at ws i) (g : FirstFrom p ws n answer i) where
    here : first_where p (drop i (mappings_in n ws)) ≡ choose (p m) 0 (suc (first_where p (drop (i + 1) (mappings_in n ws))))
    unfolding first_where
    here = ap (first_where p) (from_place ws n i m h e)

    pub first_next : p m ≡ false → FirstFrom p ws n answer (i + 1)
    first_next t = record { is = omega (arith, g.is, rw (t, choose) at here) }

    pub first_here : p m ≡ true → i ≡ answer
    first_here t = omega (arith, g.is, rw (t, choose) at here)

  pub first_end : i ≡ n → FirstFrom p ws n answer i → i ≡ answer
  unfolding first_where
  first_end e g = omega (arith, g.is, ap (first_where p) (from_end ws n i e))

-- ── its place, and what stands before it ──

module _ (p : Mapping → Bool) where
  pub first_most : (ms : List Mapping) → first_where p ms ≤ length ms
  unfolding first_where
  first_most [] = omega arith
  first_most (m ∷ ms) = go (p m) (first_most ms)
    where
      go : (b : Bool) → first_where p ms ≤ length ms → choose b 0 (suc (first_where p ms)) ≤ suc (length ms)
      go true ih = omega arith
      go false ih = omega arith

  -- one that passes is it, or stands behind it
  pub first_least : (ms : List Mapping) (i : ℕ) (d : Mapping) → p (get_or ms i d) ≡ true → first_where p ms ≤ i
  unfolding first_where
  first_least [] i d e = omega arith
  first_least (m ∷ ms) zero d e = rw (e, choose) (omega arith)
  first_least (m ∷ ms) (suc i) d e = go (p m) (first_least ms i d e)
    where
      go : (b : Bool) → first_where p ms ≤ i → choose b 0 (suc (first_where p ms)) ≤ suc i
      go true ih = omega arith
      go false ih = omega arith

  pub first_before : (ms : List Mapping) → Each (λ m. p m ≡ false) (take (first_where p ms) ms)
  unfolding first_where
  first_before [] = tt
  first_before (m ∷ ms) = go (p m) refl (first_before ms)
    where
      go : (b : Bool) → p m ≡ b → Each (λ m. p m ≡ false) (take (first_where p ms) ms)
          → Each (λ m. p m ≡ false) (take (choose b 0 (suc (first_where p ms))) (m ∷ ms))
      go true e ih = tt
      go false e ih = (e, ih)
