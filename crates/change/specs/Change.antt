-- What carrying out a request asks for, and what it leaves.
-- Assumes nothing.
use Rattle.std.specs.Prelude.{◌≡◌, ℕ, ◌+◌, ◌-◌, ◌*◌, ◌≤◌, ◌<◌, leb, length, drop}
use mathlib.Core.List.{List, [], ◌∷◌, ◌++◌, flat_map}
use Rattle.model.specs.declared.Request.{Request}
use Rattle.model.specs.Rows.{Row, row, Reply, refused, answered, decide}
use Rattle.model.specs.Rules.{limit, stop}
use Rattle.model.specs.Table.{Table, capacity, mappings, mappings_in, written}
use Rattle.model.specs.Cut.{after, operations}
use Rattle.model.specs.Layout.{words_of_operation}
use Rattle.words.specs.Words.{ZeroFrom}
use Rattle.change.specs.declared.Made.{Made}
use Rattle.table.specs.Places.{first_where, starts_behind, ends_behind, Valid}

-- a request in order on a table that passed its check, with zeros behind its last mapping
pub record Ready (r : Request) (t : Table) : Type 0 where
  pub table : Valid t.words t.count
  pub behind : ZeroFrom t.words (4 * t.count)
  pub not_empty : 0 < r.size
  pub stop_most : stop r ≤ limit
  pub offset_most : r.offset ≤ limit

-- the place of the first mapping that ends behind x
abbrev pub FirstBehind : ℕ → Table → ℕ → Type 0
FirstBehind x t i = i ≡ first_where (ends_behind x) (mappings t)

-- the mappings hit are those from place lo up to hi: lo is the first that ends behind the range's first byte, and hi
-- the first from there on that starts behind its last
pub record Placed (r : Request) (ws : List ℕ) (lo hi : ℕ) : Type 0 where
  pub count : ℕ
  pub table : Valid ws count
  pub not_empty : 0 < r.size
  pub stop_most : stop r ≤ limit
  pub low : lo ≡ first_where (ends_behind r.address) (mappings_in count ws)
  pub high : hi ≡ lo + first_where (starts_behind (stop r - 1)) (drop lo (mappings_in count ws))

-- hi is the place behind the mappings of the table t that r hits, of which lo is the first
pub record BehindHits (r : Request) (t : Table) (lo hi : ℕ) : Type 0 where
  pub placed : Placed r t.words lo hi
  pub count : placed.count ≡ t.count
  pub low : lo ≤ hi
  pub high : hi ≤ t.count

-- what a request does to a table: how many operations and mappings, or a refusal; and the words left
pub record Changed : Type 0 where
  pub reply : Reply Made
  pub table : List ℕ
  pub operations : List ℕ

abbrev pub changed_for : Reply Made → Request → Table → List ℕ → Changed
changed_for (refused n p) r t os = record { reply = refused n p; table = t.words; operations = os }
changed_for (answered g) r t os = record {
  reply = answered g;
  table = written (length t.words) (after r (mappings t));
  operations = flat_map words_of_operation (operations r (mappings t)) ++ drop (14 * length (operations r (mappings t))) os;
}

-- the numbers of operations and of mappings afterwards
abbrev pub made : Request → Table → Made
made r t = record { operations = length (operations r (mappings t)); count = length (after r (mappings t)) }

-- 11: the table has no room for the mappings afterwards; 16: the words lent have none for the operations
abbrev pub room_rows : Request → Table → ℕ → List Row
room_rows r t n =
    row 11 (leb (length (after r (mappings t))) (capacity t) ∷ []) ∷ row 16 (leb (14 * length (operations r (mappings t))) n ∷ []) ∷ []

-- these alone decide
unfoldable pub changed : Request → Table → List ℕ → Changed
changed r t os = changed_for (decide (room_rows r t (length os)) (made r t)) r t os
