-- Mappings of a table replaced by others.
-- Assumes nothing.
use Rattle.std.specs.Prelude.{List, ◌++◌, ℕ, ◌+◌, ◌-◌, ◌*◌, ◌≤◌, length, take, drop}
use Rattle.model.specs.declared.Mapping.{Mapping}
use Rattle.std.specs.Option.{option_to_list}
use Rattle.words.specs.Words.{ZeroFrom}
use Rattle.table.specs.declared.Replacement.{Replacement}

-- those that are there
abbrev pub mappings_of : Replacement → List Mapping
mappings_of n = option_to_list n.lower ++ (option_to_list n.new ++ option_to_list n.upper)

-- those from place lo up to hi give way to others
abbrev pub spliced : List Mapping → ℕ → ℕ → List Mapping → List Mapping
spliced ms lo hi ns = take lo ms ++ (ns ++ drop hi ms)

-- what `splice` asks: lo and hi are places of the table, words behind its last mapping are zero, and there is room for
-- what it leaves
pub record Splice (ws : List ℕ) (count lo hi : ℕ) (new : Replacement) : Type 0 where
  pub low : lo ≤ hi
  pub high : hi ≤ count
  pub held : 4 * count ≤ length ws
  pub behind : ZeroFrom ws (4 * count)
  pub room : 4 * (lo + length (mappings_of new) + (count - hi)) ≤ length ws
