-- A request as it comes, the public calls (the answer and every lent word after it), and how code's answers are read.
use Rattle.std.specs.Prelude.{Bool, List, [], ◌∷◌, ◌++◌, map, ℕ, zero, suc, ◌+◌, ◌*◌, ◌/◌, ◌%◌, leb, ltb, eqb, length, get_or, drop, Result, Ok, Err}
use mathlib.Core.List.{flat_map}
use Rattle.model.specs.Prelude.{Range, Space, Request, Shown, Seen, Grant}
pub use Rattle.model.specs.Rows.{all, choose, Row, row, Reply, refused, answered, decide, verdict, number_of}
pub use Rattle.model.specs.Rules.{most_mappings, sparse_flag, apart, end, stop, by_numbers, space_row, form_rows, request_rows}
pub use Rattle.model.specs.Table.{Table, capacity, mappings, written, bad_place, operations_row, table_rows}
pub use Rattle.model.specs.Ranges.{RangeList, ranges, range_end, list_written, list_row, bare, insert_range, listed, remove_range}
pub use Rattle.model.specs.Cut.{mapping_of, new, after, spared, operations, rests_of, old, rests, translate, see}
pub use Rattle.model.specs.Layout.{words_of_operation}
use Rattle.model.specs.declared.Refusal.{Refusal}
use Rattle.model.specs.declared.Refusal.TheVariants.{BadSpace, BadTableLength, ShortOperations, BadCount}
use Rattle.model.specs.declared.Refusal.TheVariants.{BadMapping, Unaligned, OutsideSpace, Reserved, BadObject}
use Rattle.model.specs.declared.Refusal.TheVariants.{BadOffset, NoRoom, BadRecordLength, BadOp, BadFlags}
use Rattle.model.specs.declared.Refusal.TheVariants.{BadWorkLength, ShortOutput, StaleWords, BadRanges}
use Rattle.model.specs.declared.Refusal.TheVariants.{RangeOverlaps, NoSuchRange}

-- document 01: Request record, 40 bytes, little-endian
abbrev pub record_bytes : ℕ
record_bytes = 40

-- the number in the first n bytes, the lowest first
unfoldable pub little_endian : ℕ → List ℕ → ℕ
little_endian zero bs = 0
little_endian (suc n) bs = get_or bs 0 0 + 256 * little_endian n (drop 1 bs)

-- the request in a record's bytes; handle, addr, bo_offset and range are its object, address, offset and size
unfoldable pub request_of : List ℕ → Request
request_of bs = record {
  op = little_endian 4 bs;
  flags = little_endian 4 (drop 4 bs);
  object = little_endian 4 (drop 8 bs);
  pad = little_endian 4 (drop 12 bs);
  address = little_endian 8 (drop 16 bs);
  offset = little_endian 8 (drop 24 bs);
  size = little_endian 8 (drop 32 bs);
}

-- the other way: the n bytes of a number, and the record of a request
unfoldable pub bytes_of : ℕ → ℕ → List ℕ
bytes_of zero x = []
bytes_of (suc n) x = x % 256 ∷ bytes_of n (x / 256)

unfoldable pub record_of : Request → List ℕ
record_of r =
    bytes_of 4 r.op ++ (bytes_of 4 r.flags ++ (bytes_of 4 r.object ++ (bytes_of 4 r.pad
    ++ (bytes_of 8 r.address ++ (bytes_of 8 r.offset ++ bytes_of 8 r.size)))))

-- a request as it comes: by numbers (op, address, size, object, offset), or as the bytes of a record
pub data Asking : Type 0 where
  numbers : ℕ → ℕ → ℕ → ℕ → ℕ → Asking
  bytes : List ℕ → Asking

abbrev pub asked : Asking → Request
asked (numbers op address size object offset) = by_numbers op address size object offset
asked (bytes bs) = request_of bs

-- record not 40 bytes long. 12 asks nothing of numbers; nor does 14, since their flags and pad are 0
abbrev pub record_row : Asking → Row
record_row (numbers op address size object offset) = row 12 []
record_row (bytes bs) = row 12 (eqb (length bs) record_bytes ∷ [])

-- 12, 13, 14, or the request in a record, with the flag that is served
unfoldable pub record_rows : ℕ → List ℕ → List Row
record_rows served bs = record_row (bytes bs) ∷ form_rows served (request_of bs)

unfoldable pub decode : ℕ → List ℕ → Reply Request
decode served bs = decide (record_rows served bs) (request_of bs)

-- ── what is lent ──

-- what is lent to a call and kept from one call to the next: a table, and a list of sparse ranges beside the space
pub record Lent : Type 0 where
  pub table : Table
  pub ranges : RangeList

-- what every call on them asks: 1, 2, what the call has between (a request 3, a batch 3 and 15, a look-up nothing), 4, 5,
-- 17, 18
unfoldable pub lent_rows : Space → List Row → Lent → List Row
lent_rows s between l = table_rows s between l.table ++ list_row s l.ranges ∷ []

-- ── map and unmap ──

-- what a request is for, by its flags and op: without the flag it cuts the table; with it, a map adds a range to the
-- list, an unmap removes one
pub data Purpose : Type 0 where
  cuts : Purpose
  adds : Purpose
  removes : Purpose

abbrev pub purpose_for : ℕ → ℕ → Purpose
purpose_for zero op = cuts
purpose_for (suc f) zero = adds
purpose_for (suc f) (suc n) = removes

abbrev pub purpose : Request → Purpose
purpose r = purpose_for r.flags r.op

-- the range of a request
abbrev pub range_of : Request → Range
range_of r = record { start = r.address; size = r.size }

-- a map with the flag shares a byte with a range
abbrev pub overlap_tests : Purpose → Request → Lent → List Bool
overlap_tests cuts r l = []
overlap_tests adds r l = map (λ x. apart x.start (range_end x) r.address (stop r)) (ranges l.ranges)
overlap_tests removes r l = []

-- an unmap with the flag: no range has exactly that start and size, or a mapping shares a byte with it
abbrev pub removal_tests : Purpose → Request → Lent → List Bool
removal_tests cuts r l = []
removal_tests adds r l = []
removal_tests removes r l = listed (range_of r) (ranges l.ranges) ∷ map (spared r) (mappings l.table)

-- count afterwards above capacity; a map with the flag and a full list
abbrev pub room_tests : Purpose → Request → Lent → List Bool
room_tests cuts r l = leb (length (after r (mappings l.table))) (capacity l.table) ∷ []
room_tests adds r l = ltb l.ranges.count (length l.ranges.words / 2) ∷ []
room_tests removes r l = []

-- 19, 20, 11
abbrev pub last_rows : Purpose → Request → Lent → List Row
last_rows for r l = row 19 (overlap_tests for r l) ∷ row 20 (removal_tests for r l) ∷ row 11 (room_tests for r l) ∷ []

-- 12, 13, 14, 1, 2, 3, 4, 5, 17, 18, 6, 7, 8, 9, 10, 19, 20, 11, with n words lent for operations
unfoldable pub bind_rows : Space → Lent → ℕ → Asking → List Row
bind_rows s l n q =
    record_row q ∷ (form_rows sparse_flag (asked q)
    ++ (lent_rows s (operations_row n l.table ∷ []) l ++ (request_rows s (asked q) ++ last_rows (purpose (asked q)) (asked q) l)))

-- on a grant the answer gives the number of operations, of which a request with the flag makes none, and the new counts
abbrev pub cut_grant : Request → Lent → Grant
cut_grant r l = record {
  operations = length (operations r (mappings l.table));
  count = length (after r (mappings l.table));
  ranges = l.ranges.count;
}

abbrev pub list_grant : List Range → Lent → Grant
list_grant xs l = record { operations = 0; count = l.table.count; ranges = length xs }

abbrev pub grant_for : Purpose → Request → Lent → Grant
grant_for cuts r l = cut_grant r l
grant_for adds r l = list_grant (insert_range (range_of r) (ranges l.ranges)) l
grant_for removes r l = list_grant (remove_range (range_of r) (ranges l.ranges)) l

-- what a map or unmap answers, and every lent word after it
pub record Outcome : Type 0 where
  pub answer : Reply Grant
  pub table : List ℕ
  pub ranges : List ℕ
  pub operations : List ℕ

-- every word as it was
abbrev pub untouched : Reply Grant → Lent → List ℕ → Outcome
untouched a l os = record { answer = a; table = l.table.words; ranges = l.ranges.words; operations = os }

-- the table written, zeros behind it, and the operations, words behind the last being as they were
abbrev pub cut : Grant → Request → Lent → List ℕ → Outcome
cut g r l os = record {
  answer = answered g;
  table = written (length l.table.words) (after r (mappings l.table));
  ranges = l.ranges.words;
  operations = flat_map words_of_operation (operations r (mappings l.table)) ++ drop (14 * length (operations r (mappings l.table))) os;
}

-- the list written, zeros behind it
abbrev pub relisted : Grant → List Range → Lent → List ℕ → Outcome
relisted g xs l os = record {
  answer = answered g;
  table = l.table.words;
  ranges = list_written (length l.ranges.words) xs;
  operations = os;
}

-- a refusal changes nothing; a grant without the flag cuts the table, one with it writes the list
abbrev pub outcome_for : Reply Grant → Purpose → Request → Lent → List ℕ → Outcome
outcome_for (refused n p) for r l os = untouched (refused n p) l os
outcome_for (answered g) cuts r l os = cut g r l os
outcome_for (answered g) adds r l os = relisted g (insert_range (range_of r) (ranges l.ranges)) l os
outcome_for (answered g) removes r l os = relisted g (remove_range (range_of r) (ranges l.ranges)) l os

-- map and unmap, by numbers or by record, with the flag or without, for any input
unfoldable pub bind : Space → Lent → List ℕ → Asking → Outcome
bind s l os q = outcome_for (decide (bind_rows s l (length os) q) (grant_for (purpose (asked q)) (asked q) l)) (purpose (asked q)) (asked q) l os

-- what the next call gets: the words left, and the counts that a grant answers
abbrev pub count_after : Reply Grant → ℕ → ℕ
count_after (refused n p) count = count
count_after (answered g) count = g.count

abbrev pub ranges_count_after : Reply Grant → ℕ → ℕ
ranges_count_after (refused n p) count = count
ranges_count_after (answered g) count = g.ranges

abbrev pub lent_after : Lent → Outcome → Lent
lent_after l o = record {
  table = record { words = o.table; count = count_after o.answer l.table.count };
  ranges = record { words = o.ranges; count = ranges_count_after o.answer l.ranges.count };
}

-- ── look-up ──

-- what is seen at an address in what is lent
abbrev pub see_in : Space → Lent → ℕ → Seen
see_in s l x = see s (ranges l.ranges) (mappings l.table) x

-- a look-up, for any input: 1, 2, 4, 5, 17, 18, or what the address shows and how far; it writes nowhere
unfoldable pub lookup : Space → Lent → ℕ → Reply Seen
lookup s l x = decide (lent_rows s [] l) (see_in s l x)

-- what it shows alone
abbrev pub shown_reply : Reply Seen → Reply Shown
shown_reply (refused n p) = refused n p
shown_reply (answered v) = answered v.shown

-- document 01: Space, its four numbers: start, size, reserved start, reserved size
abbrev pub space_of : ℕ → ℕ → ℕ → ℕ → Space
space_of address size reservedAddress reservedSize =
    record { start = address; size = size; reserved = record { start = reservedAddress; size = reservedSize } }

-- the request check: 12, 13, 14, 1, 6, 7, 8, 9, 10, and the first refusal's number, or 0
unfoldable pub check_rows : List ℕ → Space → List Row
check_rows bs s = record_rows sparse_flag bs ++ space_row s ∷ request_rows s (request_of bs)

unfoldable pub check_request : List ℕ → Space → ℕ
check_request bs s = number_of (verdict (check_rows bs s))

-- a refusal of src/lib.rt in document 01's numbers, and its place: 5 has its mapping's, the others 0
abbrev pub numbered : Refusal → ℕ × ℕ
numbered BadSpace = (1, 0)
numbered BadTableLength = (2, 0)
numbered ShortOperations = (3, 0)
numbered BadCount = (4, 0)
numbered (BadMapping p) = (5, p)
numbered Unaligned = (6, 0)
numbered OutsideSpace = (7, 0)
numbered Reserved = (8, 0)
numbered BadObject = (9, 0)
numbered BadOffset = (10, 0)
numbered NoRoom = (11, 0)
numbered BadRecordLength = (12, 0)
numbered BadOp = (13, 0)
numbered BadFlags = (14, 0)
numbered BadWorkLength = (15, 0)
numbered ShortOutput = (16, 0)
numbered StaleWords = (17, 0)
numbered BadRanges = (18, 0)
numbered RangeOverlaps = (19, 0)
numbered NoSuchRange = (20, 0)

abbrev pub refusal_reply : {A : Type 0} → Refusal → Reply A
refusal_reply w = refused (numbered w).0 (numbered w).1

-- a Result of the code: what it answers, or its refusal's number and place
abbrev pub reply_of : {A : Type 0} → Result A Refusal → Reply A
reply_of (Ok a) = answered a
reply_of (Err w) = refusal_reply w
