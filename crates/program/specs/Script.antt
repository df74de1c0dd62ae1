-- The script program (document 01): what stands at a place of a script, what one record does, and all that a script
-- prints.
use Rattle.std.specs.Prelude.{Bool, ◌&&◌, List, [], ◌∷◌, ◌++◌, ℕ, zero, suc, ◌+◌, ◌*◌, leb, eqb, length, get_or, take, drop, replicate}
use mathlib.Core.List.{flat_map}
use Rattle.program.specs.Prelude.{Space, Request, Operation, Seen, Grant}
use Rattle.model.specs.Rows.{choose, Reply, refused, answered, decide}
use Rattle.model.specs.Rules.{space_row}
use Rattle.model.specs.Table.{capacity, mappings}
use Rattle.model.specs.Cut.{operations}
use Rattle.model.specs.Calls.{little_endian, request_of, record_bytes, space_of, bytes, Lent, Purpose, cuts, adds, removes}
use Rattle.model.specs.Calls.{purpose, Outcome, bind, lent_after, lookup, numbered}
use Rattle.program.specs.Text.{line, operation_lines, seen_line}
use Rattle.program.specs.declared.ScriptRecord.{ScriptRecord}
use Rattle.program.specs.declared.ScriptRecord.TheVariants.{SetSpace, Bind, LookUp, OtherMark, Cut, End}
use Rattle.program.specs.declared.Response.{Response}
use Rattle.program.specs.declared.Response.TheVariants.{Emptied, Granted, Shows, Refused}
use Rattle.program.specs.declared.Response.TheVariants.{OtherMark as MarkResponse, Cut as CutResponse}
use Rattle.program.specs.declared.Response.TheVariants.{End as EndResponse}

-- ── what stands at the front of the bytes ──

-- its first two bytes are the mark a b; it is whole if n bytes stand behind them, else the end cuts it
abbrev pub has_mark : ℕ → ℕ → List ℕ → Bool
has_mark a b bs = eqb (get_or bs 0 0) a && eqb (get_or bs 1 0) b

abbrev pub whole : ℕ → List ℕ → ScriptRecord → ScriptRecord
whole n bs e = choose (leb (2 + n) (length bs)) e Cut

-- the four numbers behind `SP`
abbrev pub space_in : List ℕ → Space
space_in bs = space_of (little_endian 8 (drop 2 bs)) (little_endian 8 (drop 10 bs)) (little_endian 8 (drop 18 bs)) (little_endian 8 (drop 26 bs))

-- in this order: the end; one left-over byte, which is cut; SP (83 80), RQ (82 81), LK (76 75); another mark
unfoldable pub record_at : List ℕ → ScriptRecord
record_at bs =
    choose (eqb (length bs) 0) End (choose (eqb (length bs) 1) Cut
    (choose (has_mark 83 80 bs) (whole 32 bs (SetSpace (space_in bs)))
    (choose (has_mark 82 81 bs) (whole record_bytes bs Bind)
    (choose (has_mark 76 75 bs) (whole 8 bs (LookUp (little_endian 8 (drop 2 bs)))) OtherMark))))

-- how many bytes it takes, its mark's two among them; where the program stops, none
abbrev pub record_size : ScriptRecord → ℕ
record_size (SetSpace s) = 34
record_size Bind = 42
record_size (LookUp x) = 10
record_size OtherMark = 0
record_size Cut = 0
record_size End = 0

-- ── one step ──

-- what the program holds: the space, the table and the list of sparse ranges, and the words lent for operations
pub record State : Type 0 where
  pub space : Space
  pub lent : Lent
  pub operations : List ℕ

-- what it answers to a record; a refusal has document 01's number, and its place
pub data Told : Type 0 where
  emptied : ℕ → Told
  granted : Grant → Told
  shows : ℕ → Seen → Told
  refusal : ℕ → ℕ → Told
  other_mark : Told
  cut : Told
  ended : Told

abbrev pub told_by : {A : Type 0} → (A → Told) → Reply A → Told
told_by f (answered a) = f a
told_by f (refused n p) = refusal n p

pub record Step : Type 0 where
  pub told : Told
  pub state : State

-- zeros, as many words as there were
abbrev pub empty_of : Lent → Lent
empty_of l = record {
  table = record { words = replicate (length l.table.words) 0; count = 0 };
  ranges = record { words = replicate (length l.ranges.words) 0; count = 0 };
}

-- a granted `SP` empties the table and the list, a refused one changes nothing
abbrev pub after_space : Reply ℕ → Space → State → State
after_space (refused n p) s st = st
after_space (answered c) s st = record { space = s; lent = empty_of st.lent; operations = st.operations }

abbrev pub set_space : Space → State → Reply ℕ
set_space s st = decide (space_row s ∷ []) (capacity st.lent.table)

abbrev pub after_bind : State → Outcome → State
after_bind st o = record { space = st.space; lent = lent_after st.lent o; operations = o.operations }

-- the 40 bytes behind `RQ`
abbrev pub request_in : List ℕ → List ℕ
request_in bs = take record_bytes (drop 2 bs)

abbrev pub bind_in : State → List ℕ → Outcome
bind_in st bs = bind st.space st.lent st.operations (bytes (request_in bs))

abbrev pub step_on : ScriptRecord → State → List ℕ → Step
step_on (SetSpace s) st bs = record { told = told_by emptied (set_space s st); state = after_space (set_space s st) s st }
step_on Bind st bs = record { told = told_by granted (bind_in st bs).answer; state = after_bind st (bind_in st bs) }
step_on (LookUp x) st bs = record { told = told_by (shows x) (lookup st.space st.lent x); state = st }
step_on OtherMark st bs = record { told = other_mark; state = st }
step_on Cut st bs = record { told = cut; state = st }
step_on End st bs = record { told = ended; state = st }

unfoldable pub step : State → List ℕ → Step
step st bs = step_on (record_at bs) st bs

-- ── a whole script ──

-- the lines for what is told at the place p, os being the operations that a granted request hands over
abbrev pub lines : ℕ → List Operation → Told → List ℕ
lines p os (emptied n) = line "space" (n ∷ [])
lines p os (granted g) = line "granted" (g.operations ∷ g.count ∷ []) ++ flat_map operation_lines os
lines p os (shows x v) = seen_line x v
lines p os (refusal n q) = line "refused" (n ∷ [])
lines p os other_mark = line "mark" (p ∷ [])
lines p os cut = line "cut" (p ∷ [])
lines p os ended = []

-- the operations of the request at the front of the bytes; one with the sparse flag makes none
abbrev pub operations_for : Purpose → Request → Lent → List Operation
operations_for cuts r l = operations r (mappings l.table)
operations_for adds r l = []
operations_for removes r l = []

abbrev pub operations_in : State → List ℕ → List Operation
operations_in st bs = operations_for (purpose (request_of (request_in bs))) (request_of (request_in bs)) st.lent

-- all that is printed for the bytes from place p on, of which there are at most k records; the next record stands where
-- the last one ended
unfoldable pub run : ℕ → State → ℕ → List ℕ → List ℕ
run zero st p bs = []
run (suc k) st p bs =
    lines p (operations_in st bs) (step st bs).told
    ++ choose (eqb (record_size (record_at bs)) 0) [] (run k (step st bs).state (p + record_size (record_at bs)) (drop (record_size (record_at bs)) bs))

-- what the records at the front of the bytes leave, of which there are at most k
unfoldable pub state_after : ℕ → State → List ℕ → State
state_after zero st bs = st
state_after (suc k) st bs =
    choose (eqb (record_size (record_at bs)) 0) st (state_after k (step st bs).state (drop (record_size (record_at bs)) bs))

unfoldable pub leaves : State → List ℕ → State
leaves st bs = state_after (length bs) st bs

-- a table of 256 mappings that starts as zeros, a list of 64 sparse ranges too, and a space of four zeros
abbrev pub program_mappings : ℕ
program_mappings = 256

abbrev pub program_ranges : ℕ
program_ranges = 64

abbrev pub start : State
start = record {
  space = space_of 0 0 0 0;
  lent = record {
    table = record { words = replicate (4 * program_mappings) 0; count = 0 };
    ranges = record { words = replicate (2 * program_ranges) 0; count = 0 };
  };
  operations = replicate (14 * (program_mappings + 1)) 0;
}

unfoldable pub output : List ℕ → List ℕ
output bs = run (length bs) start 0 bs

-- the answer enum of src/lib.rt, each case in document 01's values
abbrev pub response_told : Response → Told
response_told (Emptied n) = emptied n
response_told (Granted g) = granted g
response_told (Shows x v) = shows x v
response_told (Refused w) = refusal (numbered w).0 (numbered w).1
response_told MarkResponse = other_mark
response_told CutResponse = cut
response_told EndResponse = ended
