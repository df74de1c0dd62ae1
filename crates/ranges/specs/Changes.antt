-- A list with one range more or less, with the rows that refuse it.
-- Assumes nothing.
use Rattle.std.specs.Prelude.{List, [], ◌∷◌, ◌++◌, map, ℕ, ◌+◌, ◌/◌, ltb, length, take, drop, Result}
use Rattle.model.specs.declared.Range.{Range}
use Rattle.model.specs.declared.Refusal.{Refusal}
use Rattle.model.specs.Rows.{Row, row, Reply, refused, answered, verdict}
use Rattle.model.specs.Rules.{apart}
use Rattle.model.specs.Ranges.{RangeList, ranges, list_written, range_end, insert_range, listed, remove_range}
use Rattle.model.specs.Calls.{reply_of}

-- what is answered, and every word of the list after it
pub record ListOutcome : Type 0 where
  pub answer : Reply (Unit {0})
  pub words : List ℕ

abbrev pub outcome_of : Result (Unit {0}) Refusal → List ℕ → ListOutcome
outcome_of v ws = record { answer = reply_of v; words = ws }

-- a refusal changes no word; else these ranges are written, and zeros behind them
abbrev pub list_outcome : Reply (Unit {0}) → RangeList → List Range → ListOutcome
list_outcome (refused n p) l xs = record { answer = refused n p; words = l.words }
list_outcome (answered u) l xs = record { answer = answered u; words = list_written (length l.words) xs }

-- it shares a byte with a range; the list is full; no range has exactly that start and size
abbrev pub overlap_row : Range → RangeList → Row
overlap_row x l = row 19 (map (λ y. apart y.start (range_end y) x.start (range_end x)) (ranges l))

abbrev pub full_row : RangeList → Row
full_row l = row 11 (ltb l.count (length l.words / 2) ∷ [])

abbrev pub absent_row : Range → RangeList → Row
absent_row x l = row 20 (listed x (ranges l) ∷ [])

-- a range at place i, those from there on behind it; and the one at place i taken out
abbrev pub put_in : Range → ℕ → List Range → List Range
put_in x i ys = take i ys ++ (x ∷ drop i ys)

abbrev pub taken_out : ℕ → List Range → List Range
taken_out i ys = take i ys ++ drop (i + 1) ys

-- one range more: 19, 11. One less: 20
unfoldable pub added : Range → RangeList → ListOutcome
added x l = list_outcome (verdict (overlap_row x l ∷ full_row l ∷ [])) l (insert_range x (ranges l))

unfoldable pub removed : Range → RangeList → ListOutcome
removed x l = list_outcome (verdict (absent_row x l ∷ [])) l (remove_range x (ranges l))
