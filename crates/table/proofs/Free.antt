-- Mappings in order share no byte with a range exactly if the first one that ends behind its start starts at its end or
-- behind.
-- Assumes nothing.
use mathlib.Core.Path.{◌≡◌, refl, sym, ap, ◌∙◌}
use mathlib.Core.Bool.{Bool, true, false}
use mathlib.Core.List.{List, [], ◌∷◌}
use Prim.Native.Nat.{ℕ, suc, ◌≤◌, ◌<◌}
use native.Mathlib.Omega.{arith}
use lib.Dec.{leb}
use lib.ListN.{length, take, drop}
use lib.Seq.{drop-cons}
use Rattle.std.proofs.lemmas.List.{drop_all}
use borrow.Author.Tests.{ltb-true, ltb-false, leb-true, leb-false}
use Rattle.model.specs.declared.Mapping.{Mapping}
use Rattle.model.specs.Rows.{all, choose}
use Rattle.model.specs.Rules.{end}
use Rattle.model.specs.Exactly.{Each, Ascends}
use Rattle.model.proofs.Actions.{each_map}
use Rattle.model.proofs.Tests.{tests, Alls, Says, all_true, all_false}
use Rattle.table.specs.Halving.{at, InOrder}
use Rattle.table.specs.Places.{first_where, ends_behind, free_tests}

module _ (a b : ℕ) (h : a < b) where
  -- mappings from b on
  behind_free : (ms : List Mapping) → Each (λ m. b ≤ m.address) ms → Alls (free_tests a b ms)
  behind_free [] k = tt
  behind_free (m ∷ ms) k = (omega (tests, k.0), behind_free ms k.1)

  abbrev Behind : List Mapping → Type 0
  Behind ms = Each (λ m. b ≤ m.address) (take 1 (drop (first_where (ends_behind a) ms) ms))

  first_free : (ms : List Mapping) → Ascends ms → Each (λ m. 0 < m.size) ms → Says (free_tests a b ms) (Behind ms)
  unfolding first_where
  first_free [] o k = (λ _. tt, λ _. tt)
  first_free (m ∷ ms) o k = go (ends_behind a m) refl (first_free ms o.1 k.1)
    where
      go : (t : Bool) → ends_behind a m ≡ t → Says (free_tests a b ms) (Behind ms)
          → Says (free_tests a b (m ∷ ms)) (Each (λ m. b ≤ m.address) (take 1 (drop (choose t 0 (suc (first_where (ends_behind a) ms))) (m ∷ ms))))
      go true e ih =
          let l = ltb-true a (end m) e in (
            λ f. (omega (tests, f.0, k.0), tt),
            λ f. (omega (tests, f.0), behind_free ms (each_map (λ n. end m ≤ n.address) (λ n. b ≤ n.address) ms (λ n g. omega (arith, f.0)) o.0)),
          )
      go false e ih = let l = ltb-false a (end m) e in (λ f. ih.0 f.1, λ f. (omega tests, ih.1 f))

module _ {ms : List Mapping} (o : InOrder ms) {a b : ℕ} (h : a < b) where
  says : Says (free_tests a b ms) (Behind a b h ms)
  says = first_free a b h ms o.ascends o.not_empty

  -- none ends behind the range's start
  pub free_all : {i : ℕ} → i ≡ first_where (ends_behind a) ms → length ms ≤ i → true ≡ all (free_tests a b ms)
  free_all {i} e q =
      let none : drop (first_where (ends_behind a) ms) ms ≡ [] = rw (sym e) (drop_all i ms q) in
      sym (all_true (free_tests a b ms) (says.1 (rw none tt)))

  -- the first that does decides
  pub free_first : {m : Mapping} (i : ℕ) → i ≡ first_where (ends_behind a) ms → i < length ms → m ≡ at ms i → leb b m.address ≡ all (free_tests a b ms)
  free_first {m} i e l r =
      let first : drop (first_where (ends_behind a) ms) ms ≡ m ∷ drop (suc i) ms = rw (sym e) (drop-cons ms i _ l ∙ ap (λ (k : Mapping). k ∷ drop (suc i) ms) (sym r)) in
      go (leb b m.address) refl first
    where
      go : (t : Bool) → leb b m.address ≡ t → drop (first_where (ends_behind a) ms) ms ≡ m ∷ drop (suc i) ms → leb b m.address ≡ all (free_tests a b ms)
      go true q first = q ∙ sym (all_true (free_tests a b ms) (says.1 (rw first (leb-true b m.address q, tt))))
      go false q first = q ∙ sym (all_false (free_tests a b ms) (λ f. let k = rw first at (says.0 f) in omega (arith, k.0, leb-false b m.address q)))
