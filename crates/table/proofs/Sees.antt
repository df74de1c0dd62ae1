-- What a look-up sees in the words of a table, by the place that the search finds.
-- Assumes nothing.
use mathlib.Core.Path.{◌≡◌, sym, ap, subst, ◌∙◌}
use mathlib.Core.Logic.{◌⊎◌, inl, inr}
use mathlib.Core.Bool.{Bool, true, false, not}
use mathlib.Core.List.{List, [], ◌∷◌}
use Prim.Native.Nat.{ℕ, ◌+◌, ◌-◌, ◌≤◌, ◌<◌}
use lib.ListN.{take, drop}
use borrow.Author.Tests.{not-true, not-false, lt-ltb, le-ltb}
use Rattle.model.specs.declared.Mapping.{Mapping}
use Rattle.model.specs.declared.Shown.TheVariants.{Nothing}
use Rattle.model.specs.declared.Space.{Space}
use Rattle.model.specs.Rows.{all}
use Rattle.model.specs.Rules.{limit}
use Rattle.model.specs.Table.{mappings_in}
use Rattle.model.specs.Cut.{in_space_tests, see}
use Rattle.model.specs.Exactly.{MappingRules, TableRules}
use Rattle.model.specs.Lookups.{InSpace}
use Rattle.model.proofs.Numbers.{order}
use Rattle.model.proofs.Tests.{tests, all_facts, not_facts}
use Rattle.model.proofs.See.{see_none, see-inside, see_before, see_outside}
use Rattle.table.specs.Halving.{at}
use Rattle.table.specs.Places.{first_where, ends_behind, seen_by, ValidIn}
use Rattle.table.proofs.Places.{at_place, from_place, from_end, valid_rules, rules_at}
use Rattle.table.proofs.Ends.{first_sees}
use Rattle.table.proofs.Looks.{found_ends}

module _ {s : Space} {ws : List ℕ} {n : ℕ} (w : ValidIn s ws n) (x : ℕ) where
  abbrev ms : List Mapping
  ms = mappings_in n ws

  abbrev first : ℕ
  first = first_where (ends_behind x) ms

  pub space_end : s.start + s.size ≤ limit
  space_end = subst (λ (k : Space). k.start + k.size ≤ limit) w.1 w.0.top

  rules : TableRules s ms
  rules = subst (λ (k : Space). TableRules k ms) w.1 (valid_rules w.0)

  sees : (i : ℕ) → i ≡ first → see s [] (take 1 (drop i ms)) x ≡ see s [] ms x
  sees i e = rw e (first_sees x s [] ms rules.1)

  pub sees_outside : {b : Bool} → b ≡ all (in_space_tests s x) → not b ≡ true → record { shown = Nothing; bytes = 0 } ≡ see s [] ms x
  sees_outside {b} d e = sym (see_outside s [] ms tt rules x (λ i. not_facts (in_space_tests s x) (sym d ∙ not-true b e) (omega tests)))

  pub is_inside : {b : Bool} → b ≡ all (in_space_tests s x) → not b ≡ false → InSpace s x
  is_inside {b} d e = let h = all_facts (in_space_tests s x) (sym d ∙ not-false b e) in omega tests

  module _ (inside : InSpace s x) where
    pub sees_end : {i : ℕ} → i ≡ first → i ≡ n → record { shown = Nothing; bytes = s.start + s.size - x } ≡ see s [] ms x
    sees_end {i} e q =
        sym (see_none s x inside) ∙ ap (λ (ks : List Mapping). see s [] (take 1 ks) x) (sym (from_end ws n i q)) ∙ sees i e

    pub sees_mapping : {m : Mapping} (i : ℕ) → i ≡ first → i < n → m ≡ at ms i → seen_by m x ≡ see s [] ms x
    sees_mapping {m} i e h r = by (order m.address x) ∙ rw (from_place ws n i m h (r ∙ at_place n ws i _ h)) at (sees i e)
      where
        fits : MappingRules s m
        fits = subst (λ (k : Space). MappingRules k m) w.1 (rules_at w.0 i h (r ∙ at_place n ws i _ h))

        by : (m.address ≤ x) ⊎ (x < m.address) → seen_by m x ≡ see s [] (m ∷ []) x
        by (inl l) = rw (le-ltb x m.address l) (sym (see-inside s [] m [] x inside (l, found_ends w.0 x i e h r)))
        by (inr l) = rw (lt-ltb x m.address l) (sym (see_before s m [] x tt l inside fits.within.1))
