-- A batch (document 02, Item 2): 0 to 64 request records in a row, of which all are granted or none.
use Rattle.std.specs.Prelude.{List, [], ◌∷◌, ◌++◌, map, ℕ, zero, suc, ◌-◌, ◌*◌, ◌/◌, ◌%◌, leb, eqb, length, take, drop, replicate, Result, Ok, Err}
use mathlib.Core.List.{flat_map}
use Rattle.model.specs.Rows.{Row, row, placed, Reply, refused, answered, decide, verdict}
use Rattle.model.specs.Rules.{form_rows, request_rows}
use Rattle.model.specs.Table.{Table, capacity, mappings, written, operations_row}
use Rattle.model.specs.Cut.{after, operations}
use Rattle.model.specs.Layout.{words_of_operation}
use Rattle.model.specs.Calls.{record_bytes, request_of, Lent, lent_rows, count_after, numbered}
use Rattle.batches.specs.Prelude.{Space, Mapping, Request, Operation, Grant}
use Rattle.batches.specs.declared.BatchRefusal.{BatchRefusal}

-- a batch has at most so many records
abbrev pub most_records : ℕ
most_records = 64

-- the first n records in any bytes; the requests in a batch's bytes
unfoldable pub records_in : ℕ → List ℕ → List (List ℕ)
records_in zero bs = []
records_in (suc n) bs = take record_bytes bs ∷ records_in n (drop record_bytes bs)

unfoldable pub requests_in : List ℕ → List Request
requests_in bs = map request_of (records_in (length bs / record_bytes) bs)

-- ── the batch's own refusals ──

-- the bytes' length is no multiple of 40, or above 2,560
abbrev pub batch_row : List ℕ → Row
batch_row bs = row 12 (eqb (length bs % record_bytes) 0 ∷ leb (length bs) (most_records * record_bytes) ∷ [])

-- the work table, of n words, is not as long as the table
abbrev pub work_row : ℕ → Table → Row
work_row n t = row 15 (eqb n (length t.words) ∷ [])

-- 12, 1, 2, 3, 15, 4, 5, 17, 18, with w words lent to work in and n for operations
unfoldable pub batch_rows : Space → Lent → ℕ → ℕ → List ℕ → List Row
batch_rows s l w n bs = batch_row bs ∷ lent_rows s (operations_row n l.table ∷ work_row w l.table ∷ []) l

-- ── each request in its turn ──

-- count afterwards above the capacity
abbrev pub room_row : ℕ → Request → List Mapping → Row
room_row room r ms = row 11 (leb (length (after r ms)) room ∷ [])

-- the request's operations don't fit the words that are left
abbrev pub fit_row : ℕ → Request → List Mapping → Row
fit_row left r ms = row 16 (leb (14 * length (operations r ms)) left ∷ [])

-- 13, 14 (no flag is served), 6 to 10, 11, 16
abbrev pub turn_rows : Space → ℕ → ℕ → Request → List Mapping → List Row
turn_rows s room left r ms = form_rows 0 r ++ (request_rows s r ++ (room_row room r ms ∷ fit_row left r ms ∷ []))

-- of the requests from the place p on, each on what the one before leaves of the mappings and of the words
unfoldable pub turns_rows : Space → ℕ → ℕ → ℕ → List Request → List Mapping → List Row
turns_rows s room left p [] ms = []
turns_rows s room left p (r ∷ rs) ms =
    placed p (turn_rows s room left r ms) ++ turns_rows s room (left - 14 * length (operations r ms)) (suc p) rs (after r ms)

-- ── what a grant leaves ──

unfoldable pub after_all : List Request → List Mapping → List Mapping
after_all [] ms = ms
after_all (r ∷ rs) ms = after_all rs (after r ms)

-- each request's operations behind those of the one before
unfoldable pub operations_all : List Request → List Mapping → List Operation
operations_all [] ms = []
operations_all (r ∷ rs) ms = operations r ms ++ operations_all rs (after r ms)

-- the number of all operations, and the counts; the list of sparse ranges is only read
abbrev pub batch_grant : List Request → Lent → Grant
batch_grant rs l = record {
  operations = length (operations_all rs (mappings l.table));
  count = length (after_all rs (mappings l.table));
  ranges = l.ranges.count;
}

-- ── the call ──

-- what a batch answers, and every lent word after it
pub record BatchOutcome : Type 0 where
  pub answer : Reply Grant
  pub table : List ℕ
  pub work : List ℕ
  pub operations : List ℕ

-- by what its own rows say and then its requests' do. Its own refusal changes nothing
abbrev pub batch_outcome : Reply (Unit {0}) → Reply Grant → List Request → Lent → List ℕ → List ℕ → BatchOutcome
batch_outcome (refused n p) a rs l ws os = record { answer = refused n p; table = l.table.words; work = ws; operations = os }
-- one in turn leaves the table, and zeros to work in and for operations: document 02 amends demand 1
batch_outcome (answered u) (refused n p) rs l ws os =
    record { answer = refused n p; table = l.table.words; work = replicate (length ws) 0; operations = replicate (length os) 0 }
-- a grant writes the table, and the operations, words behind the last being as they were
batch_outcome (answered u) (answered g) rs l ws os = record {
  answer = answered g;
  table = written (length l.table.words) (after_all rs (mappings l.table));
  work = replicate (length ws) 0;
  operations = flat_map words_of_operation (operations_all rs (mappings l.table)) ++ drop (14 * length (operations_all rs (mappings l.table))) os;
}

-- what the requests answer, with n words lent for operations
abbrev pub turns : Space → Lent → ℕ → List Request → Reply Grant
turns s l n rs = decide (turns_rows s (capacity l.table) n 0 rs (mappings l.table)) (batch_grant rs l)

-- a batch, for any input: ws the words to work in, os those for operations, bs the records' bytes
unfoldable pub bind_batch : Space → Lent → List ℕ → List ℕ → List ℕ → BatchOutcome
bind_batch s l ws os bs =
    batch_outcome (verdict (batch_rows s l (length ws) (length os) bs)) (turns s l (length os) (requests_in bs)) (requests_in bs) l ws os

-- what the next call gets
abbrev pub lent_after_batch : Lent → BatchOutcome → Lent
lent_after_batch l o = record { table = record { words = o.table; count = count_after o.answer l.table.count }; ranges = l.ranges }

-- a Result of the code: what it answers, or its refusal's number, and its place
abbrev pub batch_reply : {A : Type 0} → Result A BatchRefusal → Reply A
batch_reply (Ok a) = answered a
batch_reply (Err b) = refused (numbered b.refusal).0 b.place
