-- Mappings that agree: the same object and displacement. Equal displacements are equal sums crosswise, so that agreement
-- can be told without numbers below zero.
-- Assumes nothing.
use mathlib.Core.Path.{◌≡◌, refl, sym, ap, ◌∙◌}
use mathlib.Core.Logic.{◌↔◌}
use mathlib.Core.Bool.{Bool, true, false, cond}
use mathlib.Core.List.{List, [], ◌∷◌, map}
use Prim.Native.Nat.{ℕ, zero, suc, ◌+◌, ◌-◌, ◌*◌}
use native.Mathlib.Omega.{arith}
use lib.Dec.{T, ltb, eqb→eq}
use lib.IntN.{ℤ, pos, negsuc, sub_ℕ, ◌-ℤ◌}
use borrow.Author.Tests.{ltb-true, ltb-false, le-ltb}
use Rattle.model.specs.Prelude.{Mapping}
use Rattle.model.specs.Rows.{all}
use Rattle.model.specs.Cut.{displacement, eq_z, agree_tests}
use Rattle.model.specs.Exactly.{Agree}
use Rattle.model.proofs.Tests.{Says, eq→eqb}

-- ── worked cases ──

-- in pages: [a, a + 2) o@f
two_pages : ℕ → ℕ → ℕ → Mapping
two_pages a o f = record { address = a * 4096; size = 8192; object = o; offset = f * 4096 }

-- an offset above the address, and one below it
above_zero : displacement (two_pages 0 7 1) ≡ pos 4096
unfolding two_pages
above_zero = refl

below-zero : displacement (two_pages 2 7 1) ≡ negsuc 4095
unfolding two_pages
below-zero = refl

agreed : List Bool
agreed = map (λ n. all (agree_tests (two_pages 0 7 1) n)) (two_pages 0 7 1 ∷ two_pages 1 7 2 ∷ two_pages 1 8 2 ∷ two_pages 1 7 1 ∷ two_pages 1 7 0 ∷ [])

-- the same; one that goes on; another object; another displacement; the other sign, and the same sum
as_agreed : agreed ≡ true ∷ true ∷ false ∷ false ∷ false ∷ []
unfolding agreed two_pages
as_agreed = refl

-- ── the test of whole numbers ──

pub eq_z_says : (x y : ℤ) → T (eq_z x y) ↔ (x ≡ y)
eq_z_says (pos a) (pos b) = (λ t. ap pos (eqb→eq a b t), λ e. let d : a ≡ b = cc in eq→eqb a b d)
eq_z_says (negsuc a) (negsuc b) = (λ t. ap negsuc (eqb→eq a b t), λ e. let d : a ≡ b = cc in eq→eqb a b d)
eq_z_says (pos a) (negsuc b) = (λ t. absurd t, λ e. let z : ◌≡◌ {A = ℕ} 0 1 = cc in absurd (omega arith))
eq_z_says (negsuc a) (pos b) = (λ t. absurd t, λ e. let z : ◌≡◌ {A = ℕ} 0 1 = cc in absurd (omega arith))

-- ── one number less another, and sums crosswise ──

abbrev signed : Bool → ℕ → ℕ → ℤ
signed t a b = cond t (negsuc (b - suc a)) (pos (a - b))

crosswise : (f a g b : ℕ) → sub_ℕ f a ≡ sub_ℕ g b → f + b ≡ g + a
crosswise f a g b e = go (ltb f a) refl (ltb g b) refl e
  where
    go : (s : Bool) → ltb f a ≡ s → (t : Bool) → ltb g b ≡ t → signed s f a ≡ signed t g b → f + b ≡ g + a
    go true p true q e = let d : a - suc f ≡ b - suc g = cc in omega (arith, ltb-true f a p, ltb-true g b q)
    go true p false q e = let z : ◌≡◌ {A = ℕ} 0 1 = cc in absurd (omega arith)
    go false p true q e = let z : ◌≡◌ {A = ℕ} 0 1 = cc in absurd (omega arith)
    go false p false q e = let d : f - a ≡ g - b = cc in omega (arith, ltb-false f a p, ltb-false g b q)

displaced : (f a g b : ℕ) → f + b ≡ g + a → sub_ℕ f a ≡ sub_ℕ g b
displaced f a g b e = go (ltb f a) refl (ltb g b) refl
  where
    go : (s : Bool) → ltb f a ≡ s → (t : Bool) → ltb g b ≡ t → signed s f a ≡ signed t g b
    go true p true q = ap negsuc (omega (arith, e, ltb-true f a p, ltb-true g b q))
    go true p false q = absurd (omega (arith, e, ltb-true f a p, ltb-false g b q))
    go false p true q = absurd (omega (arith, e, ltb-false f a p, ltb-true g b q))
    go false p false q = ap pos (omega (arith, e, ltb-false f a p, ltb-false g b q))

-- the difference in the library's words
pub minus_is : (f a : ℕ) → pos f -ℤ pos a ≡ sub_ℕ f a
minus_is f zero = ap pos (omega arith) ∙ sym (ap (λ (b : Bool). signed b f 0) (le-ltb f 0 (omega arith)))
minus_is f (suc a) = refl

-- ── mappings ──

module _ (m n : Mapping) where
  pub displacement_crosswise : (displacement m ≡ displacement n) ↔ (m.offset + n.address ≡ n.offset + m.address)
  displacement_crosswise =
      (crosswise m.offset m.address n.offset n.address, displaced m.offset m.address n.offset n.address)

  -- agreement by the definition, and without numbers below zero
  agree_displacement : Agree m n ↔ ((m.object ≡ n.object) × (displacement m ≡ displacement n))
  agree_displacement = (
    λ a. (a.0, sym (minus_is m.offset m.address) ∙ a.1 ∙ minus_is n.offset n.address),
    λ a. (a.0, minus_is m.offset m.address ∙ a.1 ∙ sym (minus_is n.offset n.address)),
  )

  pub agree_crosswise : Agree m n ↔ ((m.object ≡ n.object) × (m.offset + n.address ≡ n.offset + m.address))
  agree_crosswise = (
    λ a. (a.0, displacement_crosswise.0 (agree_displacement.0 a).1),
    λ h. agree_displacement.1 (h.0, displacement_crosswise.1 h.1),
  )

  pub agree_says : Says (agree_tests m n) (Agree m n)
  agree_says = (
    λ h. agree_displacement.1 (eqb→eq _ _ h.0, (eq_z_says (displacement m) (displacement n)).0 h.1.0),
    λ a. (eq→eqb _ _ a.0, ((eq_z_says (displacement m) (displacement n)).1 (agree_displacement.0 a).1, tt)),
  )
