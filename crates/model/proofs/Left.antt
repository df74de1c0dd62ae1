-- What a request leaves of the old mappings: all of one that is not hit, the rests of one that is.
-- Assumes nothing.
use mathlib.Core.Path.{◌≡◌, refl}
use mathlib.Core.Logic.{◌⊎◌, inl, inr}
use mathlib.Core.Bool.{Bool}
use mathlib.Core.List.{List, [], ◌∷◌, ◌++◌}
use Prim.Native.Nat.{ℕ, zero, suc, ◌≤◌, ◌<◌, max}
use native.Mathlib.Omega.{arith}
use Rattle.model.specs.Prelude.{Mapping, Request}
use Rattle.model.specs.Rules.{end, stop}
use Rattle.model.specs.Cut.{lower_part, upper_part, sized, prepend, below, above, operation_for, operation_of, rests}
use Rattle.model.proofs.Numbers.{order}
use Rattle.model.proofs.Window.{same, prepend-zero, prepend-cut, prepend-append}
use Rattle.model.proofs.Run.{Run, below_none}
use Rattle.model.proofs.Hits.{Hit}

pub rests-parts : (r : Request) (m : Mapping) → rests (operation_of r m) ≡ prepend (lower_part r.address m) (prepend (upper_part (stop r) m) [])
rests-parts r m = go l.size u.size _
  where
    l : Mapping
    l = lower_part r.address m

    u : Mapping
    u = upper_part (stop r) m

    go : (i j : ℕ) (keep : Bool) → rests (operation_for i j keep m l u) ≡ sized i l (sized j u [])
    go zero zero keep = refl
    go zero (suc j) keep = refl
    go (suc i) zero keep = refl
    go (suc i) (suc j) keep = refl

-- what is left of a table: all of a mapping that is not hit, the rests of one that is
abbrev pub left : Request → List Mapping → List Mapping
left r ms = below r.address ms ++ above (stop r) ms

module _ (r : Request) (m : Mapping) (ms : List Mapping) (run : Run (end m) ms) where
  pub none_below : r.address ≤ end m → below r.address ms ≡ []
  none_below h = below_none r.address (end m) ms run h

  pub left_hit : Hit r m → left r (m ∷ ms) ≡ rests (operation_of r m) ++ left r ms
  unfolding below above
  left_hit h = simp (rests-parts r m, none_below (omega arith), ← prepend-append (lower_part r.address m), ← prepend-append (upper_part (stop r) m))

  pub left_missed : 0 < m.size → 0 < r.size → (Hit r m → ⊥) → left r (m ∷ ms) ≡ m ∷ left r ms
  unfolding below above
  left_missed y z n = go (order (end m) r.address) (order (stop r) m.address)
    where
      l : Mapping
      l = lower_part r.address m

      u : Mapping
      u = upper_part (stop r) m

      go : (end m ≤ r.address) ⊎ (r.address < end m) → (stop r ≤ m.address) ⊎ (m.address < stop r)
          → prepend l (below r.address ms) ++ prepend u (above (stop r) ms) ≡ m ∷ left r ms
      go (inl h) k = simp (
        prepend-cut m l (below r.address ms) y (same l m refl (omega arith) refl refl),
        prepend-zero u (above (stop r) ms) (omega arith),
      )
      go (inr h) (inl k) = simp (
        none_below (omega arith),
        prepend-zero l [] (omega arith),
        prepend-cut m u (above (stop r) ms) y (same u m (omega arith) (omega arith) refl (omega arith)),
      )
      go (inr h) (inr k) = absurd (n (max m.address r.address, omega arith, omega arith, omega arith, omega arith))
