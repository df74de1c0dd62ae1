-- The place that the search finds in a list that passed its check: what it tells of a range that is to be added or
-- removed, and the list that it leaves.
-- Assumes nothing.
use mathlib.Core.Path.{◌≡◌, refl, sym, ap, subst, ◌∙◌}
use mathlib.Core.Logic.{◌⊎◌, inl, inr}
use mathlib.Core.Bool.{Bool, true, false}
use mathlib.Core.List.{List, [], ◌∷◌, map}
use Prim.Native.Nat.{ℕ, zero, suc, ◌≤◌, ◌<◌}
use native.Mathlib.Omega.{arith}
use lib.Dec.{T}
use lib.ListN.{length, get_or}
use Rattle.std.proofs.Common.{Option, Some, None, slice_get}
use Rattle.std.specs.Option.{option_eq}
use Rattle.std.proofs.lemmas.Option.{slice_get_within, get_or_from_slice_get, slice_get_cases}
use Rattle.model.specs.declared.Range.{Range}
use Rattle.model.specs.Rows.{all}
use Rattle.model.specs.Rules.{apart}
use Rattle.model.specs.Ranges.{ranges_in, range_end, insert_range, same_tests, same_range, listed, remove_range}
use Rattle.model.proofs.Tests.{tests, all_facts, all_true}
use Rattle.model.proofs.Ranges.{length-ranges, same_says}
use Rattle.table.specs.Places.{first_where, ends_behind, free_tests}
use Rattle.ranges.specs.Lists.{lent_list, as_mapping, first_behind, ValidList}
use Rattle.ranges.specs.Changes.{overlap_row, put_in, taken_out}
use Rattle.ranges.proofs.Places.{valid_spaced}
use Rattle.ranges.proofs.Looks.{first_place}
use Rattle.ranges.proofs.First.{First, first_is, first_most, free_first, insert-at, listed_at, listed_none, remove_at}

-- behind the last there is none
pub none_there : (ys : List Range) (i : ℕ) → slice_get ys i ≡ None → length ys ≤ i
none_there [] i e = omega arith
none_there (y ∷ ys) zero e = cc
none_there (y ∷ ys) (suc i) e = omega (arith, none_there ys i e)

-- what is there is exactly x, or it is not
equals : (o : Option Range) (x : Range) → option_eq same_range o (Some x) ≡ true → o ≡ Some x
equals None x e = cc
equals (Some y) x e = ap Some ((same_says y x).0 (subst T (sym e) tt))

differs : (o : Option Range) (x : Range) → option_eq same_range o (Some x) ≡ false → o ≡ Some x → ⊥
differs None x e q = cc
differs (Some y) x e q =
    let t : option_eq same_range (Some x) (Some x) ≡ true = all_true (same_tests x x) (omega tests) in
    subst T (sym t ∙ ap (λ (o : Option Range). option_eq same_range o (Some x)) (sym q) ∙ e) tt

-- the same tests of ranges as of mappings
free_is : (a b : ℕ) (ys : List Range) → free_tests a b (map as_mapping ys) ≡ map (λ y. apart y.start (range_end y) a b) ys
free_is a b [] = refl
free_is a b (y ∷ ys) = ap (◌∷◌ (apart y.start (range_end y) a b)) (free_is a b ys)

module _ {ws : List ℕ} {n : ℕ} (v : ValidList ws n) (x : Range) {i : ℕ} (e : i ≡ first_behind x.start (ranges_in n ws)) where
  abbrev ys : List Range
  ys = ranges_in n ws

  first : First x.start ys i
  first = first_is x.start ys e

  pub found_most : i ≤ n
  found_most = omega (arith, first_most x.start ys i first, length-ranges n ws)

  -- ── a range more ──

  pub put_place : 0 < x.size → all (overlap_row x (lent_list ws n)).tests ≡ true → insert_range x ys ≡ put_in x i ys
  put_place p t =
      insert-at x ys i x first (valid_spaced v) (free_first x ys i x first (valid_spaced v) p (all_facts (overlap_row x (lent_list ws n)).tests t))

  -- ── a range less ──

  listed_is : i < length ys → listed x ys ≡ same_range x (get_or ys i x)
  listed_is l = listed_at x ys i x first (valid_spaced v) l

  same : slice_get ys i ≡ Some x → same_range x (get_or ys i x) ≡ true
  same q = rw (get_or_from_slice_get ys i x x q) (all_true (same_tests x x) (omega tests))

  pub is_listed : slice_get ys i ≡ Some x → listed x ys ≡ true
  is_listed q = listed_is (slice_get_within ys i x q) ∙ same q

  pub not_listed : (slice_get ys i ≡ Some x → ⊥) → listed x ys ≡ false
  not_listed k = go (slice_get_cases ys i).1
    where
      go : ((y : Range) × (i < length ys) × (slice_get ys i ≡ Some y) × (get_or ys i y ≡ y)) ⊎ ((length ys ≤ i) × (slice_get ys i ≡ None)) → listed x ys ≡ false
      go (inl (y, l, q, r)) = listed_is l ∙ rw (get_or_from_slice_get ys i y x q) (by (same_range x y) refl)
        where
          by : (b : Bool) → same_range x y ≡ b → same_range x y ≡ false
          by true t = absurd (k (q ∙ ap Some (sym ((same_says x y).0 (subst T (sym t) tt)))))
          by false t = t
      go (inr (l, q)) = sym (listed_none x ys i first (valid_spaced v) (omega (arith, l, first_most x.start ys i first)))

  pub out_less : slice_get ys i ≡ Some x → i < n
  out_less q = omega (arith, slice_get_within ys i x q, length-ranges n ws)

  pub out_place : slice_get ys i ≡ Some x → remove_range x ys ≡ taken_out i ys
  out_place q = remove_at x ys i x first (valid_spaced v) (slice_get_within ys i x q) (same q)

-- ── as the code has it: zs are the ranges that the list holds which is searched ──

module _ {ws : List ℕ} {n : ℕ} (v : ValidList ws n) (x : Range) {zs : List Range} (q : zs ≡ ranges_in n ws) where
  pub place_in : {i : ℕ} → i ≡ first_where (ends_behind x.start) (map as_mapping zs) → i ≡ first_behind x.start (ranges_in n ws)
  place_in e = e ∙ ap (λ (ys : List Range). first_where (ends_behind x.start) (map as_mapping ys)) q ∙ first_place x.start (ranges_in n ws)

  pub free_in : {i : ℕ} {b : Bool} → 0 < x.size → i ≡ first_where (ends_behind x.start) (map as_mapping zs)
      → ((from : ℕ) → from < range_end x → i ≡ first_where (ends_behind from) (map as_mapping zs) → b ≡ all (free_tests from (range_end x) (map as_mapping zs)))
      → b ≡ all (overlap_row x (lent_list ws n)).tests
  free_in h e f =
      f x.start (omega (arith, h)) e
      ∙ ap (λ (ys : List Range). all (free_tests x.start (range_end x) (map as_mapping ys))) q
      ∙ ap all (free_is x.start (range_end x) (ranges_in n ws))

  module _ (i : ℕ) {o : Option Range} (g : o ≡ slice_get zs i) where
    got : o ≡ slice_get (ranges_in n ws) i
    got = g ∙ ap (λ (ys : List Range). slice_get ys i) q

    pub there_in : option_eq same_range o (Some x) ≡ true → slice_get (ranges_in n ws) i ≡ Some x
    there_in e = sym got ∙ equals o x e

    pub not_there : option_eq same_range o (Some x) ≡ false → slice_get (ranges_in n ws) i ≡ Some x → ⊥
    not_there e k = differs o x e (got ∙ k)
