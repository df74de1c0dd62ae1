-- A list that keeps its rules in some space keeps them in the widest one.
-- Assumes nothing.
use Rattle.std.proofs.Common.{◌≡◌, ℕ, true, List, arith}
use Rattle.model.specs.Rows.{all}
use Rattle.model.specs.Ranges.{ranges_in, list_row}
use Rattle.model.specs.Exactly.{RangeRules, ListRules}
use Rattle.model.proofs.Actions.{each_map}
use Rattle.model.proofs.Ranges.{list_row_says}
use Rattle.model.proofs.Tests.{all_facts, all_true}
use Rattle.table.specs.Places.{widest}
use Rattle.ranges.specs.Lists.{lent_list, ValidList}

pub widest_kept : {ws : List ℕ} {n : ℕ} → ValidList ws n → all (list_row widest (lent_list ws n)).tests ≡ true
widest_kept {ws} {n} v = all_true (list_row widest (lent_list ws n)).tests ((list_row_says widest (lent_list ws n)).1 wide)
  where
    rules : ListRules v.space (lent_list ws n)
    rules = (list_row_says v.space (lent_list ws n)).0 (all_facts (list_row v.space (lent_list ws n)).tests v.kept)

    wide : ListRules widest (lent_list ws n)
    wide = record {
      even = rules.even;
      length_most = rules.length_most;
      held = rules.held;
      each_range = each_map (RangeRules v.space) (RangeRules widest) (ranges_in n ws)
          (λ y r. record {
            multiples = r.multiples;
            not_empty = r.not_empty;
            within = omega (arith, r.within, v.top);
            unreserved = λ h. omega (arith, h);
          })
          rules.each_range;
      ascends = rules.ascends;
      zeros = rules.zeros;
    }

pub kept_valid : {ws : List ℕ} {n : ℕ} → all (list_row widest (lent_list ws n)).tests ≡ true → ValidList ws n
kept_valid kept = record { space = widest; top = omega arith; kept = kept }
