-- What is lent with its table written anew: with its own mappings it is the same, and what is written twice is what is
-- written last.
-- Assumes nothing.
use mathlib.Core.Path.{◌≡◌, sym, ap}
use mathlib.Core.List.{List}
use Prim.Native.Nat.{ℕ, ◌≤◌}
use lib.ListN.{length}
use Rattle.model.specs.Table.{capacity, mappings, written}
use Rattle.model.specs.Calls.{Lent, see_in}
use Rattle.model.specs.Exactly.{seen}
use Rattle.model.proofs.Store.{length-mappings, rewritten, holds_rewritten, holds_mappings}
use Rattle.model.proofs.Granted.{Good, relent}
use Rattle.model.proofs.Taken.{takes_whole}
use Rattle.model.proofs.Demand2.{lookup_good}
use Rattle.batches.specs.Prelude.{Space, Mapping}

pub relent_same : (s : Space) (n : ℕ) (l : Lent) → Good s n l → relent l (mappings l.table) ≡ l
relent_same s n l g = λ i. record {
  table = record {
    words = sym (takes_whole.table l (seen s 0 (see_in s l 0) (lookup_good s n l 0 g))).all i;
    count = length-mappings l.table.count l.table.words i;
  };
  ranges = l.ranges;
}

pub relent_again : (l : Lent) (ms ns : List Mapping) → length ms ≤ capacity l.table → relent (relent l ms) ns ≡ relent l ns
relent_again l ms ns h =
    ap (λ (n : ℕ). record { table = record { words = written n ns; count = length ns }; ranges = l.ranges })
    (holds_rewritten l.table ms h).length_kept

pub relent_mappings : (l : Lent) (ms : List Mapping) → length ms ≤ capacity l.table → mappings (relent l ms).table ≡ ms
relent_mappings l ms h = holds_mappings l.table (rewritten l.table ms) ms (holds_rewritten l.table ms h)
