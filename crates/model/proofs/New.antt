-- What a request maps: one mapping, or none.
-- Assumes nothing.
use mathlib.Core.Path.{◌≡◌, refl, ap}
use mathlib.Core.List.{[], ◌∷◌}
use Prim.Native.Nat.{ℕ, zero, suc, ◌≤◌}
use native.Mathlib.Omega.{arith}
use lib.ListN.{length}
use Rattle.model.specs.Prelude.{Request}
use Rattle.model.specs.Cut.{mapping_of, new_for, new}

pub new-map : (r : Request) → r.op ≡ 0 → new r ≡ mapping_of r ∷ []
new-map r e = ap (λ (n : ℕ). new_for n (mapping_of r)) e

pub new_unmap : (r : Request) → (r.op ≡ 0 → ⊥) → new r ≡ []
new_unmap r h = go r.op refl
  where
    go : (n : ℕ) → r.op ≡ n → new_for n (mapping_of r) ≡ []
    go zero e = absurd (h e)
    go (suc n) e = refl

pub new_most : (r : Request) → length (new r) ≤ 1
new_most r = go r.op
  where
    go : (n : ℕ) → length (new_for n (mapping_of r)) ≤ 1
    go zero = omega arith
    go (suc n) = omega arith
