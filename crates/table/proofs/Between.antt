-- The mappings from one place up to another, as a loop over the words meets them.
-- Assumes nothing.
use mathlib.Core.Path.{◌≡◌, refl, sym, ap, ◌∙◌}
use mathlib.Core.List.{List, [], ◌∷◌, ◌++◌}
use Prim.Native.Nat.{ℕ, ◌+◌, ◌-◌, ◌≤◌, ◌<◌}
use native.Mathlib.Omega.{arith}
use lib.ListN.{length, drop, length-drop, take-append-drop}
use lib.Seq.{drop-append-le}
use Rattle.model.specs.declared.Mapping.{Mapping}
use Rattle.model.specs.Table.{mappings_in}
use Rattle.model.proofs.Store.{length-mappings}
use Rattle.table.specs.Places.{mapping_at, between}
use Rattle.table.proofs.Places.{from_place, from_end}
use Rattle.table.proofs.Words.{take-mappings}

-- one more in front of a place
mappings-next : (ws : List ℕ) (i : ℕ) (m : Mapping) → m ≡ mapping_at ws i → mappings_in (i + 1) ws ≡ mappings_in i ws ++ (m ∷ [])
mappings-next ws i m e =
    sym (take-append-drop i (mappings_in (i + 1) ws))
    ∙ rw (take-mappings i (i + 1) ws (omega arith), from_place ws (i + 1) i m (omega arith) e, from_end ws (i + 1) (i + 1) refl)

module _ (ws : List ℕ) (lo : ℕ) where
  pub between_none : between ws lo lo ≡ []
  unfolding between
  between_none = from_end ws lo lo refl

  pub between_first : (hi : ℕ) {m : Mapping} → lo < hi → m ≡ mapping_at ws lo → between ws lo hi ≡ m ∷ between ws (lo + 1) hi
  unfolding between
  between_first hi {m} h e = from_place ws hi lo m h e

  pub between_next : (i : ℕ) {m : Mapping} → lo ≤ i → m ≡ mapping_at ws i → between ws lo (i + 1) ≡ between ws lo i ++ (m ∷ [])
  unfolding between
  between_next i {m} h e =
      ap (drop lo) (mappings-next ws i m e)
      ∙ drop-append-le lo (mappings_in i ws) (m ∷ []) (omega (arith, length-mappings i ws))

  pub length-between : (hi : ℕ) → length (between ws lo hi) ≡ hi - lo
  unfolding between
  length-between hi = length-drop lo (mappings_in hi ws) ∙ rw (length-mappings hi ws)

  -- a table from lo on is they and what stands behind them
  pub from_between : (n hi : ℕ) → lo ≤ hi → hi ≤ n → drop lo (mappings_in n ws) ≡ between ws lo hi ++ drop hi (mappings_in n ws)
  unfolding between
  from_between n hi h k =
      ap (drop lo) (sym (take-append-drop hi (mappings_in n ws)) ∙ rw (take-mappings hi n ws k))
      ∙ drop-append-le lo (mappings_in hi ws) (drop hi (mappings_in n ws)) (omega (arith, length-mappings hi ws))
