-- A list of sparse ranges as it is lent, its ranges by their places, and one that passed its check.
-- Assumes nothing.
use Rattle.std.specs.Prelude.{◌≡◌, true, List, [], ◌∷◌, ℕ, suc, ◌+◌, ◌*◌, ◌≤◌, ltb}
use Rattle.model.specs.declared.Mapping.{Mapping}
use Rattle.model.specs.declared.Range.{Range}
use Rattle.model.specs.declared.Space.{Space}
use Rattle.model.specs.Rows.{all, choose}
use Rattle.model.specs.Rules.{limit}
use Rattle.model.specs.Ranges.{RangeList, range_from, range_end, list_row}

-- a list in a lent slice of words
abbrev pub lent_list : List ℕ → ℕ → RangeList
lent_list ws count = record { words = ws; count = count }

-- the range at place i
unfoldable pub range_at : List ℕ → ℕ → Range
range_at ws i = range_from (2 * i) ws

-- the place of the first range that ends behind the byte address x, or the number of ranges if none does
unfoldable pub first_behind : ℕ → List Range → ℕ
first_behind x [] = 0
first_behind x (y ∷ ys) = choose (ltb x (range_end y)) 0 (suc (first_behind x ys))

-- a range as a mapping, for the search by halves
abbrev pub as_mapping : Range → Mapping
as_mapping y = record { address = y.start; size = y.size; object = 0; offset = 0 }

-- a list that passed its check: it keeps its rules in some space
pub record ValidList (ws : List ℕ) (count : ℕ) : Type 0 where
  pub space : Space
  pub top : space.start + space.size ≤ limit
  pub kept : all (list_row space (lent_list ws count)).tests ≡ true
