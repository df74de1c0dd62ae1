-- Ranges place by place, as a loop over the words meets them, and what is known of a list that passed its check.
-- Assumes nothing.
use mathlib.Core.Path.{◌≡◌, refl, sym, ap, subst, ◌∙◌}
use mathlib.Core.List.{List, [], ◌∷◌}
use Prim.Native.Nat.{ℕ, zero, suc, ◌+◌, ◌*◌, ◌≤◌, ◌<◌}
use native.Mathlib.Numerals.{add-one}
use native.Mathlib.Omega.{arith}
use lib.ListN.{length, get_or, drop}
use lib.Seq.{drop-cons, drop-length, get_or-drop}
use Rattle.model.specs.declared.Range.{Range}
use Rattle.model.specs.Rules.{limit}
use Rattle.model.specs.Ranges.{ranges_in, range_end, list_row}
use Rattle.model.specs.Exactly.{Each, Ordered, RangeRules, ListRules}
use Rattle.model.proofs.Tests.{all_facts}
use Rattle.model.proofs.Actions.{each_map}
use Rattle.model.proofs.Zeros.{zeros_from, places_say}
use Rattle.model.proofs.Ranges.{length-ranges, list_row_says}
use Rattle.words.specs.Words.{ZeroFrom}
use Rattle.table.proofs.Places.{each_at}
use Rattle.ranges.specs.Lists.{lent_list, range_at, ValidList}
use Rattle.std.proofs.Common.{Some, slice_get}
use Rattle.std.proofs.lemmas.Option.{slice_get_within, get_or_from_slice_get}

-- a place of the words behind the first range
place_next : (ws : List ℕ) (i : ℕ) → range_at (drop 2 ws) i ≡ range_at ws (suc i)
unfolding range_at
place_next ws i = λ j. record {
  start = word (2 * i) (2 * suc i) (omega arith) j;
  size = word (2 * i + 1) (2 * suc i + 1) (omega arith) j;
}
  where
    word : (k l : ℕ) → 2 + k ≡ l → get_or (drop 2 ws) k 0 ≡ get_or ws l 0
    word k l e = get_or-drop 2 ws k 0 ∙ ap (λ (n : ℕ). get_or ws n 0) e

pub at_place : (n : ℕ) (ws : List ℕ) (i : ℕ) (d : Range) → i < n → get_or (ranges_in n ws) i d ≡ range_at ws i
unfolding ranges_in range_at
at_place zero ws i d h = absurd (omega arith)
at_place (suc n) ws zero d h = refl
at_place (suc n) ws (suc i) d h = at_place n (drop 2 ws) i d (omega arith) ∙ place_next ws i

-- the ranges from place i on: the one at i, and those from the next on
pub from_place : (ws : List ℕ) (n i : ℕ) (y : Range) → i < n → y ≡ range_at ws i → drop i (ranges_in n ws) ≡ y ∷ drop (i + 1) (ranges_in n ws)
from_place ws n i y h e =
    let l : i < length (ranges_in n ws) = omega (arith, length-ranges n ws) in
    rw (add-one i) (drop-cons (ranges_in n ws) i y l ∙ ap (λ (k : Range). k ∷ drop (suc i) (ranges_in n ws)) (at_place n ws i y h ∙ sym e))

-- from behind the last on there is none
pub from_end : (ws : List ℕ) (n i : ℕ) → i ≡ n → drop i (ranges_in n ws) ≡ []
from_end ws n i e = ap (λ (k : ℕ). drop k (ranges_in n ws)) (e ∙ sym (length-ranges n ws)) ∙ drop-length (ranges_in n ws)

-- ── a list that passed its check ──

-- no range is empty, and each ends at or before the start of those behind it
abbrev pub Spaced : List Range → Type 0
Spaced ys = Each (λ y. 0 < y.size) ys × Ordered (λ y z. range_end y ≤ z.start) ys

module _ {ws : List ℕ} {n : ℕ} (v : ValidList ws n) where
  valid_rules : ListRules v.space (lent_list ws n)
  valid_rules = (list_row_says v.space (lent_list ws n)).0 (all_facts (list_row v.space (lent_list ws n)).tests v.kept)

  pub valid_held : 2 * n ≤ length ws
  valid_held = omega (arith, valid_rules.held)

  pub valid_zeros : ZeroFrom ws (2 * n)
  valid_zeros = (zeros_from (2 * n) ws).0 ((places_say (2 * n) ws).1 valid_rules.zeros)

  pub valid_spaced : Spaced (ranges_in n ws)
  valid_spaced = (each_map (RangeRules v.space) (λ y. 0 < y.size) (ranges_in n ws) (λ y r. r.not_empty) valid_rules.each_range, valid_rules.ascends)

  pub valid_ends : Each (λ y. range_end y ≤ limit) (ranges_in n ws)
  valid_ends = each_map (RangeRules v.space) (λ y. range_end y ≤ limit) (ranges_in n ws) (λ y r. omega (arith, r.within, v.top)) valid_rules.each_range

  -- no sum of a range in it is large
  pub end-there : {y : Range} (i : ℕ) → slice_get (ranges_in n ws) i ≡ Some y → range_end y ≤ limit
  end-there {y} i e =
      let f = each_at (λ y. range_end y ≤ limit) (ranges_in n ws) i y valid_ends (slice_get_within (ranges_in n ws) i y e) in
      subst (λ (y : Range). range_end y ≤ limit) (get_or_from_slice_get (ranges_in n ws) i y y e) f
