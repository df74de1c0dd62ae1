-- A table that keeps its rules in the widest space has its mappings in order.
-- Assumes nothing.
use Rattle.std.specs.Prelude.{◌≡◌, ℕ, ◌≤◌, ◌<◌, List}
use Rattle.std.proofs.Common.{sym, ◌∙◌, arith}
use Rattle.model.specs.Rules.{limit, end}
use Rattle.model.specs.Table.{mappings_in, bad_place}
use Rattle.model.specs.Exactly.{MappingRules, TableRules}
use Rattle.model.proofs.Actions.{each_map}
use Rattle.model.proofs.Store.{length-mappings}
use Rattle.model.proofs.Table.{top, good_chain, chain_rules}
use Rattle.table.specs.Places.{widest}
use Rattle.table.specs.Halving.{InOrder}

pub kept_order : (ws : List ℕ) (n : ℕ) → bad_place widest 0 (mappings_in n ws) ≡ n → InOrder (mappings_in n ws)
kept_order ws n kept = record {
  not_empty = each_map (MappingRules widest) (λ m. 0 < m.size) (mappings_in n ws) (λ m r. omega (arith, r.size_least)) rules.0;
  ascends = rules.1;
  ends_most = each_map (MappingRules widest) (λ m. end m ≤ limit) (mappings_in n ws) (λ m r. omega (arith, r.within)) rules.0;
}
  where
    rules : TableRules widest (mappings_in n ws)
    rules = chain_rules widest 0 (top widest) (mappings_in n ws) (good_chain widest (mappings_in n ws) (kept ∙ sym (length-mappings n ws)))
