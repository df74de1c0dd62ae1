-- The check of a list: range by range as its loop goes, and then the whole row.
-- Assumes nothing.
use mathlib.Core.Path.{◌≡◌, refl, sym, ap, subst, ◌∙◌}
use mathlib.Core.Bool.{Bool, true, false}
use mathlib.Core.List.{List, [], ◌∷◌, ◌++◌}
use Prim.Native.Nat.{ℕ, zero, suc, ◌+◌, ◌*◌, ◌≤◌, ◌<◌}
use native.Mathlib.Omega.{arith}
use lib.Dec.{T, eqb}
use lib.ListN.{length, drop}
use borrow.Author.Tests.{ne_eqb}
use Rattle.model.specs.declared.Range.{Range}
use Rattle.model.specs.declared.Space.{Space}
use Rattle.model.specs.Rows.{all}
use Rattle.model.specs.Rules.{limit}
use Rattle.model.specs.Table.{zero_tests}
use Rattle.model.specs.Ranges.{RangeList, ranges_in, ranges, range_end, range_tests, list_tests, length_tests, list_row}
use Rattle.model.proofs.Tests.{tests, all_facts, all_true, all_false, not_facts, all_same, alls_split, alls_join}
use Rattle.model.proofs.Zeros.{zeros_from}
use Rattle.words.specs.Words.{ZeroFrom}
use Rattle.ranges.specs.Lists.{lent_list, range_at}
use Rattle.ranges.proofs.Places.{from_place, from_end}

-- ── range by range ──

module _ (s : Space) (from : ℕ) (y : Range) (ys : List Range) where
  first_fits : all (range_tests s from y) ≡ true → all (list_tests s from (y ∷ ys)) ≡ all (list_tests s (range_end y) ys)
  unfolding list_tests
  first_fits t =
      all_same (range_tests s from y ++ list_tests s (range_end y) ys) (list_tests s (range_end y) ys)
      (λ h. (alls_split (range_tests s from y) (list_tests s (range_end y) ys) h).1)
      (alls_join (range_tests s from y) (list_tests s (range_end y) ys) (all_facts (range_tests s from y) t))

  first_breaks : all (range_tests s from y) ≡ false → all (list_tests s from (y ∷ ys)) ≡ false
  unfolding list_tests
  first_breaks f =
      all_false (range_tests s from y ++ list_tests s (range_end y) ys)
      (λ h. not_facts (range_tests s from y) f (alls_split (range_tests s from y) (list_tests s (range_end y) ys) h).0)

-- what the loop is to answer is whether those from i on fit, where the range at i has to start at `from` or behind
pub record FitFrom (s : Space) (ws : List ℕ) (n : ℕ) (answer : Bool) (i from : ℕ) : Type 0 where
  pub is : answer ≡ all (list_tests s from (drop i (ranges_in n ws)))

module _ {s : Space} {ws : List ℕ} {n : ℕ} {answer : Bool} {i from : ℕ} where
  module _ {y : Range} (h : i < n) (e : y ≡ range_at ws i) (g : FitFrom s ws n answer i from) where
    here : answer ≡ all (list_tests s from (y ∷ drop (i + 1) (ranges_in n ws)))
    here = g.is ∙ ap (λ (ys : List Range). all (list_tests s from ys)) (from_place ws n i y h e)

    pub fit_next : all (range_tests s from y) ≡ true → FitFrom s ws n answer (i + 1) (range_end y)
    fit_next t = record { is = here ∙ first_fits s from y _ t }

    pub fit_not : all (range_tests s from y) ≡ false → false ≡ answer
    fit_not f = sym (here ∙ first_breaks s from y _ f)

  pub fit_end : i ≡ n → FitFrom s ws n answer i from → true ≡ answer
  unfolding list_tests
  fit_end e g = sym (g.is ∙ ap (λ (ys : List Range). all (list_tests s from ys)) (from_end ws n i e))

-- a range that fits ends where no sum wraps
pub fits_end : (s : Space) (from : ℕ) (y : Range) → s.start + s.size ≤ limit → all (range_tests s from y) ≡ true → range_end y ≤ limit
fits_end s from y l f = let k = all_facts (range_tests s from y) f in omega tests

-- ── row 18 ──

module _ (s : Space) (l : RangeList) where
  -- behind its length: the ranges, and the words behind the last
  abbrev behind : List Bool
  behind = list_tests s 0 (ranges l) ++ zero_tests (drop (2 * l.count) l.words)

  pub length_breaks : all (length_tests l) ≡ false → false ≡ all (list_row s l).tests
  length_breaks f = sym (all_false (length_tests l ++ behind) (λ h. not_facts (length_tests l) f (alls_split (length_tests l) behind h).0))

  pub range_breaks : all (list_tests s 0 (ranges l)) ≡ false → false ≡ all (list_row s l).tests
  range_breaks f =
      sym (all_false (length_tests l ++ behind)
      (λ h. not_facts (list_tests s 0 (ranges l)) f (alls_split (list_tests s 0 (ranges l)) _ (alls_split (length_tests l) behind h).1).0))

  -- where length and ranges are right, the words behind decide
  pub words-decide : {b : Bool} → all (length_tests l) ≡ true → all (list_tests s 0 (ranges l)) ≡ true
      → (b ≡ true → ZeroFrom l.words (2 * l.count)) × (ZeroFrom l.words (2 * l.count) → b ≡ true) → b ≡ all (list_row s l).tests
  words-decide {b} t u z = go b refl
    where
      go : (c : Bool) → b ≡ c → b ≡ all (list_row s l).tests
      go true e =
          e ∙ sym (all_true (length_tests l ++ behind)
          (alls_join (length_tests l) behind (all_facts (length_tests l) t)
          (alls_join (list_tests s 0 (ranges l)) _ (all_facts (list_tests s 0 (ranges l)) u) ((zeros_from (2 * l.count) l.words).1 (z.0 e)))))
      go false e =
          e ∙ sym (all_false (length_tests l ++ behind)
          (λ h.
          let k = (alls_split (list_tests s 0 (ranges l)) _ (alls_split (length_tests l) behind h).1).1 in
          subst T (sym (z.1 ((zeros_from (2 * l.count) l.words).0 k)) ∙ e) tt))

-- an empty list is right where its count is 0
pub empty_decides : (s : Space) (ws : List ℕ) (n : ℕ) → length ws ≡ 0 → eqb n 0 ≡ all (list_row s (lent_list ws n)).tests
unfolding ranges_in list_tests
empty_decides s [] zero e = refl
empty_decides s [] (suc n) e =
    ne_eqb (suc n) 0 (λ q. omega arith) ∙ sym (all_false (list_row s (lent_list [] (suc n))).tests (λ h. omega (tests, h.1.1.0)))
empty_decides s (w ∷ ws) n e = absurd (omega arith)
