-- Mappings in order: the first one that ends behind a byte address, and why no other can have the byte.
-- Assumes nothing.
use mathlib.Core.Path.{◌≡◌, refl, sym, ◌∙◌}
use mathlib.Core.Bool.{Bool, true, false}
use mathlib.Core.List.{List, [], ◌∷◌}
use Prim.Native.Nat.{ℕ, zero, suc, ◌≤◌, ◌<◌}
use native.Mathlib.Omega.{arith}
use lib.ListN.{length, get_or, take, drop}
use borrow.Author.Tests.{le-ltb, ltb-true, ltb-false}
use Rattle.model.specs.declared.Mapping.{Mapping}
use Rattle.model.specs.declared.Range.{Range}
use Rattle.model.specs.declared.Space.{Space}
use Rattle.model.specs.Rows.{choose}
use Rattle.model.specs.Rules.{end}
use Rattle.model.specs.Cut.{see}
use Rattle.model.specs.Exactly.{Each, Ascends}
use Rattle.model.proofs.Actions.{each_map}
use Rattle.model.proofs.See.{see_past, see_front}
use Rattle.table.specs.Places.{first_where, ends_behind}
use Rattle.table.proofs.First.{first_before}
use Rattle.table.proofs.Places.{each_at}

-- ends ascend: where one ends at or before x, the first that ends behind x stands behind it
pub ends_ascend : (ms : List Mapping) (x i : ℕ) (d : Mapping) → Ascends ms → i < length ms → end (get_or ms i d) ≤ x → i < first_where (ends_behind x) ms
unfolding first_where
ends_ascend [] x i d a h k = absurd (omega arith)
ends_ascend (m ∷ ms) x zero d a h k = rw (le-ltb x (end m) k, choose) (omega arith)
ends_ascend (m ∷ ms) x (suc i) d a h k =
    let b = each_at (λ n. end m ≤ n.address) ms i d a.0 (omega arith) in
    rw (le-ltb x (end m) (omega (arith, b)), choose) (omega (arith, ends_ascend ms x i d a.1 (omega arith) k))

pub ends_before : (ms : List Mapping) (x : ℕ) → Each (λ m. end m ≤ x) (take (first_where (ends_behind x) ms) ms)
ends_before ms x =
    each_map (λ m. ends_behind x m ≡ false) (λ m. end m ≤ x) (take (first_where (ends_behind x) ms) ms) (λ m e. ltb-false x (end m) e) (first_before (ends_behind x) ms)

module _ (x : ℕ) where
  -- the first one, and all behind it
  pub ends-behind : (ms : List Mapping) → Ascends ms → Each (λ m. x < end m) (drop (first_where (ends_behind x) ms) ms)
  unfolding first_where
  ends-behind [] a = tt
  ends-behind (m ∷ ms) a = go (ends_behind x m) refl (ends-behind ms a.1)
    where
      go : (b : Bool) → ends_behind x m ≡ b → Each (λ m. x < end m) (drop (first_where (ends_behind x) ms) ms)
          → Each (λ m. x < end m) (drop (choose b 0 (suc (first_where (ends_behind x) ms))) (m ∷ ms))
      go true q ih =
          let h = ltb-true x (end m) q in
          (h, each_map (λ n. end m ≤ n.address) (λ n. x < end n) ms (λ n l. omega arith) a.0)
      go false q ih = ih

  -- those before the first that ends behind x end too early, and those behind it start too late
  pub first_sees : (s : Space) (ys : List Range) (ms : List Mapping) → Ascends ms
      → see s ys (take 1 (drop (first_where (ends_behind x) ms) ms)) x ≡ see s ys ms x
  unfolding first_where
  first_sees s ys [] a = refl
  first_sees s ys (m ∷ ms) a = go (ends_behind x m) refl (first_sees s ys ms a.1)
    where
      go : (b : Bool) → ends_behind x m ≡ b → see s ys (take 1 (drop (first_where (ends_behind x) ms) ms)) x ≡ see s ys ms x
          → see s ys (take 1 (drop (choose b 0 (suc (first_where (ends_behind x) ms))) (m ∷ ms))) x ≡ see s ys (m ∷ ms) x
      go true q ih = sym (see_front s ys m ms x a.0 (ltb-true x (end m) q))
      go false q ih = ih ∙ sym (see_past s ys m ms x (ltb-false x (end m) q))
