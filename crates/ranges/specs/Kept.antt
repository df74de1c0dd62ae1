-- A list that keeps its rules in the widest space has its ranges in order, as mappings of their addresses.
-- Assumes nothing.
use Rattle.std.specs.Prelude.{◌≡◌, true, List, [], ◌∷◌, map, ℕ, ◌≤◌, ◌<◌}
use Rattle.std.proofs.Common.{arith}
use Rattle.model.specs.declared.Mapping.{Mapping}
use Rattle.model.specs.declared.Range.{Range}
use Rattle.model.specs.Rows.{all}
use Rattle.model.specs.Rules.{limit, end}
use Rattle.model.specs.Ranges.{ranges_in, range_end, list_row}
use Rattle.model.specs.Exactly.{Each, Ordered, Ascends, RangeRules, ListRules}
use Rattle.model.proofs.Actions.{each_map}
use Rattle.model.proofs.Ranges.{list_row_says}
use Rattle.model.proofs.Tests.{all_facts}
use Rattle.table.specs.Places.{widest}
use Rattle.table.specs.Halving.{InOrder}
use Rattle.ranges.specs.Lists.{lent_list, as_mapping}

each_mapping : (P : Mapping → Type 0) (ys : List Range) → Each (λ y. P (as_mapping y)) ys → Each P (map as_mapping ys)
each_mapping P [] h = tt
each_mapping P (y ∷ ys) h = (h.0, each_mapping P ys h.1)

ascending : (ys : List Range) → Ordered (λ y z. range_end y ≤ z.start) ys → Ascends (map as_mapping ys)
ascending [] h = tt
ascending (y ∷ ys) h = (each_mapping (λ m. range_end y ≤ m.address) ys h.0, ascending ys h.1)

pub kept_order : (ws : List ℕ) (n : ℕ) → all (list_row widest (lent_list ws n)).tests ≡ true → InOrder (map as_mapping (ranges_in n ws))
kept_order ws n kept = record {
  not_empty = each_mapping (λ m. 0 < m.size) (ranges_in n ws) (each_map (RangeRules widest) (λ y. 0 < y.size) (ranges_in n ws) (λ y r. r.not_empty) rules.each_range);
  ascends = ascending (ranges_in n ws) rules.ascends;
  ends_most = each_mapping (λ m. end m ≤ limit) (ranges_in n ws) (each_map (RangeRules widest) (λ y. range_end y ≤ limit) (ranges_in n ws) (λ y r. omega (arith, r.within)) rules.each_range);
}
  where
    rules : ListRules widest (lent_list ws n)
    rules = (list_row_says widest (lent_list ws n)).0 (all_facts (list_row widest (lent_list ws n)).tests kept)
