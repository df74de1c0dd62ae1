-- What is claimed of the script program: its records, the order in which it takes them, what each does, the refusals
-- that it can give, and what some scripts print.
use Prim.Native.String.{String}
use Rattle.std.specs.Prelude.{◌≡◌, ◌⊎◌, List, [], ◌∷◌, ◌++◌, ℕ, ◌+◌, ◌*◌, ◌/◌, ◌^◌, ◌<◌, length, take, drop, replicate}
use Rattle.model.specs.Calls.{refused, answered, mappings, operations, by_numbers, bytes_of, request_of, record_of, space_of, bytes, Outcome, bind, lookup}
use Rattle.model.specs.Exactly.{Each, ◌∈◌, SpaceRules, Pins}
use Rattle.program.specs.Prelude.{Space, Request, Seen, Grant}
use Rattle.program.specs.Text.{ascii, decimal}
use Rattle.program.specs.Script.{record_at, request_in, operations_in, State, emptied, granted, shows, refusal, step}
use Rattle.program.specs.Script.{lines, run, start, output, response_told}
use Rattle.program.specs.declared.ScriptRecord.{ScriptRecord}
use Rattle.program.specs.declared.ScriptRecord.TheVariants.{SetSpace, Bind, LookUp, OtherMark, Cut, End}

-- ── records ──

abbrev pub set_space_bytes : ℕ → ℕ → ℕ → ℕ → List ℕ
set_space_bytes address size reservedAddress reservedSize =
    ascii "SP" ++ (bytes_of 8 address ++ (bytes_of 8 size ++ (bytes_of 8 reservedAddress ++ bytes_of 8 reservedSize)))

abbrev pub request_bytes : Request → List ℕ
request_bytes r = ascii "RQ" ++ record_of r

abbrev pub look_up_bytes : ℕ → List ℕ
look_up_bytes x = ascii "LK" ++ bytes_of 8 x

-- a record is read as it was written: the marks, and the places of the numbers
pub record ScriptReadsBack : Type 0 where
  pub space : (address size reservedAddress reservedSize : ℕ) → Each (λ x. x < 2 ^ 64) (address ∷ size ∷ reservedAddress ∷ reservedSize ∷ [])
      → record_at (set_space_bytes address size reservedAddress reservedSize) ≡ SetSpace (space_of address size reservedAddress reservedSize)
  pub request : (r : Request) → (record_at (request_bytes r) ≡ Bind) × (request_in (request_bytes r) ≡ record_of r)
  pub address : (x : ℕ) → x < 2 ^ 64 → record_at (look_up_bytes x) ≡ LookUp x

-- a record whose bytes have come is the one that stands in the whole script, and does the same, whatever comes behind
-- it
abbrev pub Prefix : Type 0
Prefix = (bs more : List ℕ) → (record_at bs ≡ Cut) ⊎ ((record_at bs ≡ End)
    ⊎ ((record_at (bs ++ more) ≡ record_at bs) × ((st : State) → step st (bs ++ more) ≡ step st bs)))

-- the request's bytes, two behind the mark, asked in the program's space and lent words
abbrev pub bind_at : State → List ℕ → Outcome
bind_at st bs = bind st.space st.lent st.operations (bytes (take 40 (drop 2 bs)))

-- what stands at the front of the bytes where no record does: nothing; one byte; a known mark with too few bytes behind
-- it; another mark, whatever stands behind it
pub record Fronts : Type 0 where
  pub nothing : record_at [] ≡ End
  pub one_byte : (a : ℕ) → record_at (a ∷ []) ≡ Cut
  pub cut_space : (bs : List ℕ) → length bs < 32 → record_at (ascii "SP" ++ bs) ≡ Cut
  pub cut_request : (bs : List ℕ) → length bs < 40 → record_at (ascii "RQ" ++ bs) ≡ Cut
  pub cut_address : (bs : List ℕ) → length bs < 8 → record_at (ascii "LK" ++ bs) ≡ Cut
  pub other : (a b : ℕ) (bs : List ℕ) → Each (λ mark. a ∷ b ∷ [] ≡ ascii mark → ⊥) ("SP" ∷ "RQ" ∷ "LK" ∷ []) → record_at (a ∷ b ∷ bs) ≡ OtherMark

-- a record takes its mark's two bytes and those behind it
abbrev pub Takes : ScriptRecord → ℕ → Type 0
Takes (SetSpace s) n = n ≡ 2 + 4 * 8
Takes Bind n = n ≡ 2 + 40
Takes (LookUp x) n = n ≡ 2 + 8
Takes OtherMark n = ⊥
Takes Cut n = ⊥
Takes End n = ⊥

-- what is printed for bytes whose first stands at the place p of the script: a record's lines, and then what the bytes
-- behind it give; at another mark and at a cut the place, and nothing more
pub record InOrder (st : State) (p : ℕ) (bs : List ℕ) : Type 0 where
  pub goes_on : (n : ℕ) → Takes (record_at bs) n → run (length bs) st p bs
      ≡ lines p (operations_in st bs) (step st bs).told
      ++ run (length (drop n bs)) (step st bs).state (p + n) (drop n bs)
  pub stops_mark : record_at bs ≡ OtherMark → run (length bs) st p bs ≡ ascii "mark " ++ (decimal p ++ ascii "\n")
  pub stops_cut : record_at bs ≡ Cut → run (length bs) st p bs ≡ ascii "cut " ++ (decimal p ++ ascii "\n")
  pub stops_end : record_at bs ≡ End → run (length bs) st p bs ≡ []

-- those operations: the request's own; none for one with the sparse flag
pub record HandsOver (st : State) (bs : List ℕ) : Type 0 where
  pub plain : (request_of (take 40 (drop 2 bs))).flags ≡ 0 → operations_in st bs ≡ operations (request_of (take 40 (drop 2 bs))) (mappings st.lent.table)
  pub flagged : (request_of (take 40 (drop 2 bs))).flags ≡ 256 → operations_in st bs ≡ []

-- a whole script: from a table of 256 mappings that starts as zeros, a list of 64 sparse ranges that does too, and a
-- space of four zeros; its first byte is at the place 0
pub record RunsInOrder : Type 0 where
  pub from : (bs : List ℕ) → output bs ≡ run (length bs) (record {
    space = space_of 0 0 0 0;
    lent = record { table = record { words = replicate 1024 0; count = 0 }; ranges = record { words = replicate 128 0; count = 0 } };
    operations = replicate 3598 0;
  }) 0 bs
  pub on : (st : State) (p : ℕ) (bs : List ℕ) → InOrder st p bs
  pub hands_over : (st : State) (bs : List ℕ) → HandsOver st bs

-- `RQ` does what the call by record does, on the 40 bytes behind the mark; `LK` what a look-up does, and changes
-- nothing
pub record Does (st : State) (bs : List ℕ) : Type 0 where
  pub binds : (g : Grant) → record_at bs ≡ Bind → (bind_at st bs).answer ≡ answered g → step st bs ≡ record {
    told = granted g;
    state = record {
      space = st.space;
      lent = record {
        table = record { words = (bind_at st bs).table; count = g.count };
        ranges = record { words = (bind_at st bs).ranges; count = g.ranges };
      };
      operations = (bind_at st bs).operations;
    };
  }
  pub refuses : (n p : ℕ) → record_at bs ≡ Bind → (bind_at st bs).answer ≡ refused n p → step st bs ≡ record { told = refusal n p; state = st }
  pub looks : (x : ℕ) (v : Seen) → record_at bs ≡ LookUp x → lookup st.space st.lent x ≡ answered v
      → step st bs ≡ record { told = shows x v; state = st }
  pub looks_refused : (x n p : ℕ) → record_at bs ≡ LookUp x → lookup st.space st.lent x ≡ refused n p
      → step st bs ≡ record { told = refusal n p; state = st }

abbrev pub DoesCalls : Type 0
DoesCalls = (st : State) (bs : List ℕ) → Does st bs

-- `SP` with the space s: granted, it sets both counts 0 and every word of the table and the list zero; refused, it
-- changes nothing
pub record Sets (st : State) (bs : List ℕ) (s : Space) : Type 0 where
  pub granted : SpaceRules s → step st bs ≡ record {
    told = emptied (length st.lent.table.words / 4);
    state = record {
      space = s;
      lent = record {
        table = record { words = replicate (length st.lent.table.words) 0; count = 0 };
        ranges = record { words = replicate (length st.lent.ranges.words) 0; count = 0 };
      };
      operations = st.operations;
    };
  }
  pub refused : (SpaceRules s → ⊥) → step st bs ≡ record { told = refusal 1 0; state = st }

abbrev pub SetsSpace : Type 0
SetsSpace = (st : State) (bs : List ℕ) (s : Space) → record_at bs ≡ SetSpace s → Sets st bs s

-- no two answers read alike
abbrev pub ResponsePinned : Type 0
ResponsePinned = Pins response_told

-- the states that the program comes to, whatever the script
pub data Reached : State → Type 0 where
  started : Reached start
  stepped : {st : State} → Reached st → (bs : List ℕ) → Reached (step st bs).state

-- no answer is 2, 3, 4, 5, 17 or 18; nor 12, since a request's part is 40 bytes long
abbrev pub NeverBroken : Type 0
NeverBroken = (st : State) → Reached st → (bs : List ℕ) (n p : ℕ) → (step st bs).told ≡ refusal n p → n ∈ (1 ∷ 6 ∷ 7 ∷ 8 ∷ 9 ∷ 10 ∷ 11 ∷ 13 ∷ 14 ∷ 19 ∷ 20 ∷ [])

-- ── scripts, and what they print ──

-- a request by its numbers
abbrev pub numbers_bytes : ℕ → ℕ → ℕ → ℕ → ℕ → List ℕ
numbers_bytes op object address offset size = request_bytes (by_numbers op address size object offset)

-- one with the sparse flag
abbrev pub sparse_bytes : ℕ → ℕ → ℕ → List ℕ
sparse_bytes op address size =
    request_bytes (record { op = op; flags = 256; object = 0; pad = 0; address = address; offset = 0; size = size })

-- document 01's example
abbrev pub worked_example : List ℕ
worked_example = set_space_bytes 0 65536 0 0 ++ (numbers_bytes 0 7 0 0 12288 ++ (numbers_bytes 0 9 4096 0 4096 ++ look_up_bytes 8200))

unfoldable pub scripts : List (List ℕ × String)
scripts =
    (worked_example, "space 256\ngranted 1 1\nmap 0 12288 7 0\ngranted 2 3\nremap 0 12288 7 0 keep 0\nlower 0 4096 7 0\nupper 8192 4096 7 8192\nmap 4096 4096 9 0\nat 8200 7 8200 4088\n")
    -- nothing; one byte; a mark alone; a record cut by its last byte; another mark
    ∷ ([], "") ∷ (83 ∷ [], "cut 0\n") ∷ (ascii "LK", "cut 0\n") ∷ (look_up_bytes 0 ++ (ascii "LK" ++ bytes_of 7 0), "refused 1\ncut 10\n") ∷ (ascii "sp", "mark 0\n")
    -- a reservation, a request in it, a second space; an unmap of an upper end, an address that shows nothing
    ∷ (set_space_bytes 4096 65536 8192 4096 ++ (numbers_bytes 0 7 8192 0 4096 ++ (set_space_bytes 1 0 0 0 ++ ascii "XY")), "space 256\nrefused 8\nrefused 1\nmark 110\n")
    ∷ (
      set_space_bytes 0 65536 0 0 ++ (numbers_bytes 0 7 0 0 8192 ++ (numbers_bytes 1 0 4096 0 8192 ++ (look_up_bytes 4096 ++ (set_space_bytes 0 65536 0 0 ++ look_up_bytes 0)))),
      "space 256\ngranted 1 1\nmap 0 8192 7 0\ngranted 1 1\nremap 0 8192 7 0 keep 0\nlower 0 4096 7 0\nat 4096 none 61440\nspace 256\nat 0 none 65536\n",
    )
    -- a sparse range with a mapping in it: what is off the mapping; it can't be removed, nor another put over it; then it
    -- is
    ∷ (
      set_space_bytes 0 65536 0 0 ++ (sparse_bytes 0 4096 12288 ++ (numbers_bytes 0 7 8192 0 4096 ++ (look_up_bytes 4096 ++ (look_up_bytes 12288
          ++ (sparse_bytes 1 4096 12288 ++ (sparse_bytes 0 0 8192 ++ (numbers_bytes 1 0 8192 0 4096 ++ (look_up_bytes 8192
          ++ (sparse_bytes 1 4096 12288 ++ look_up_bytes 8192))))))))),
      "space 256\ngranted 0 0\ngranted 1 1\nmap 8192 4096 7 0\nat 4096 sparse 4096\nat 12288 sparse 4096\nrefused 20\nrefused 19\ngranted 1 0\nunmap 8192 4096 7 0 keep 0\nat 8192 sparse 8192\ngranted 0 0\nat 8192 none 57344\n",
    )
    ∷ []

abbrev pub Printed : Type 0
Printed = Each (λ x. output x.0 ≡ ascii x.1) scripts
