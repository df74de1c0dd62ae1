-- What is lent, in slices; and a request whose form is right, by numbers or decoded: what is left of the public call.
-- Assumes nothing.
use Rattle.std.specs.Prelude.{List, [], ◌∷◌, ◌++◌, ℕ, zero, suc, ◌*◌, ◌≤◌, ◌<◌, length}
use Rattle.model.specs.declared.Request.{Request}
use Rattle.model.specs.declared.Space.{Space}
use Rattle.model.specs.Rows.{Row, Reply, refused, answered, decide}
use Rattle.model.specs.Rules.{limit, stop, space_tests, space_row, request_rows}
use Rattle.model.specs.Table.{Table, length_row, operations_row, content_rows}
use Rattle.model.specs.Ranges.{list_row}
use Rattle.model.specs.Calls.{Lent, lent_rows, Purpose, cuts, purpose, last_rows, cut_grant, grant_for, Outcome, untouched, outcome_for}
use Rattle.model.proofs.Tests.{Alls}
use Rattle.request.specs.declared.Lent.{Lent as Slices}
use Rattle.words.specs.Words.{ZeroFrom}
use Rattle.table.specs.Places.{lent, Valid, ValidIn}
use Rattle.ranges.specs.Lists.{lent_list, ValidList}
use Rattle.change.specs.Change.{Changed, changed_for, made, room_rows}

-- a list of sparse ranges and a table in lent slices of words, each with its count
abbrev pub lent_words : List ℕ → ℕ → List ℕ → ℕ → Lent
lent_words rs n ws count = record { table = lent ws count; ranges = lent_list rs n }

-- the same of the struct of src/lib.rt
abbrev pub lent_of : Slices → Lent
lent_of l = lent_words l.ranges.now l.range_count l.table.now l.count

-- the rows 1, 2 and 3 of a table in the words ws, with n words lent for operations
abbrev pub length_rows : Space → ℕ → List ℕ → List Row
length_rows s n ws = space_row s ∷ length_row (lent ws 0) ∷ operations_row n (lent ws 0) ∷ []

-- the rows 4, 5, 17 and 18
abbrev pub contents_rows : Space → Lent → List Row
contents_rows s l = content_rows s l.table ++ list_row s l.ranges ∷ []

-- the rows 1 to 5, 17, 18 and 6 to 10
abbrev pub checked_rows : Space → Lent → ℕ → Request → List Row
checked_rows s l n r = lent_rows s (operations_row n l.table ∷ []) l ++ request_rows s r

-- where these passed, 19, 20 and 11 decide, by what the request is for
unfoldable pub decided : Purpose → Request → Lent → List ℕ → Outcome
decided for r l os = outcome_for (decide (last_rows for r l) (grant_for for r l)) for r l os

-- where 6 to 10 passed of a request without the flag, and row 3 is not settled: 11 and 16
unfoldable pub cutting : Request → Lent → List ℕ → Outcome
cutting r l os = outcome_for (decide (room_rows r l.table (length os)) (cut_grant r l)) cuts r l os

-- all of them
unfoldable pub bound : Space → Lent → List ℕ → Request → Outcome
bound s l os r =
    outcome_for (decide (checked_rows s l (length os) r ++ last_rows (purpose r) r l) (grant_for (purpose r) r l)) (purpose r) r l os

-- a reply's refusal, or what comes after its answer
abbrev pub then : {A : Type 0} → Reply A → Lent → List ℕ → (A → Outcome) → Outcome
then (refused n p) l os f = untouched (refused n p) l os
then (answered a) l os f = f a

-- of a request with the flag, all but 19, 20 and 11, by the flags: where they passed, a grant that changes nothing
abbrev pub partly_for : ℕ → Space → Lent → List ℕ → Request → Outcome
partly_for zero s l os r = bound s l os r
partly_for (suc f) s l os r =
    untouched (decide (checked_rows s l (length os) r) (record { operations = 0; count = l.table.count; ranges = l.ranges.count })) l os

abbrev pub partly : Space → Lent → List ℕ → Request → Outcome
partly s l os r = partly_for r.flags s l os r

-- a table that passed its check, with zeros behind its last mapping, in a space that keeps its rules. A grant without the
-- flag keeps it so
pub record Checked (s : Space) (t : Table) : Type 0 where
  pub space : Alls (space_tests s)
  pub table : ValidIn s t.words t.count
  pub behind : ZeroFrom t.words (4 * t.count)

-- a request without the flag on such a table: 6 to 11 and 16
unfoldable pub bound_known : Space → Table → List ℕ → Request → Changed
bound_known s t os r = changed_for (decide (request_rows s r ++ room_rows r t (length os)) (made r t)) r t os

-- what changing the list asks for: a table and a list that passed their checks, and a range in order
pub record Relistable (r : Request) (l : Lent) : Type 0 where
  pub table : Valid l.table.words l.table.count
  pub list : ValidList l.ranges.words l.ranges.count
  pub not_empty : 0 < r.size
  pub stop_most : stop r ≤ limit
