-- The rules of a space, a mapping and a request as tests, and lines of document 01's refusal table as named rows. Sums
-- are exact, in ℕ.
use Rattle.std.specs.Prelude.{Bool, ◌||◌, List, [], ◌∷◌, ◌++◌, ℕ, zero, suc, ◌+◌, ◌-◌, ◌%◌, ◌^◌, min, max, leb, ltb, eqb}
use Rattle.model.specs.Prelude.{Space, Mapping, Request}
use Rattle.model.specs.Rows.{Row, row}

-- document 01: Sizes
abbrev pub page : ℕ
page = 4096

-- a space, and an offset plus size, ends at or below it
abbrev pub limit : ℕ
limit = 2 ^ 48

abbrev pub last_object : ℕ
last_object = 2 ^ 32 - 1

-- document 02: a table has room for 1 to so many mappings
abbrev pub most_mappings : ℕ
most_mappings = 4096

-- document 02: the flag of a request for a sparse range, bit 8 of source document 001
abbrev pub sparse_flag : ℕ
sparse_flag = 256

-- where a mapping ends, and a request's range
abbrev pub end : Mapping → ℕ
end m = m.address + m.size

abbrev pub stop : Request → ℕ
stop r = r.address + r.size

abbrev pub aligned : ℕ → Bool
aligned x = eqb (x % page) 0

-- [a, b) lies inside [c, d); [a, b) and [c, d) share no byte
abbrev pub inside : ℕ → ℕ → ℕ → ℕ → List Bool
inside a b c d = leb c a ∷ leb b d ∷ []

abbrev pub apart : ℕ → ℕ → ℕ → ℕ → Bool
apart a b c d = leb (min b d) (max a c)

-- document 01: Space
abbrev pub extent_tests : Space → List Bool
extent_tests s =
    aligned s.start ∷ aligned s.size ∷ aligned s.reserved.start ∷ aligned s.reserved.size
    ∷ leb page s.size ∷ leb (s.start + s.size) limit ∷ []

-- reserved size 0: no reservation, and then its start is 0; else it lies inside the space
abbrev pub reserved_tests : ℕ → Space → List Bool
reserved_tests zero s = eqb s.reserved.start 0 ∷ []
reserved_tests (suc n) s = inside s.reserved.start (s.reserved.start + s.reserved.size) s.start (s.start + s.size)

abbrev pub space_tests : Space → List Bool
space_tests s = extent_tests s ++ reserved_tests s.reserved.size s

-- document 01: Mapping. That each ends at or before the next one's address is the table's rule
abbrev pub mapping_tests : Space → Mapping → List Bool
mapping_tests s m =
    aligned m.address ∷ aligned m.size ∷ aligned m.offset ∷ leb page m.size
    ∷ leb 1 m.object ∷ leb m.object last_object ∷ leb (m.offset + m.size) limit
    ∷ leb s.start m.address ∷ leb (end m) (s.start + s.size)
    ∷ apart m.address (end m) s.reserved.start (s.reserved.start + s.reserved.size) ∷ []

-- a request by numbers: flags and pad are 0
abbrev pub by_numbers : ℕ → ℕ → ℕ → ℕ → ℕ → Request
by_numbers op address size object offset = record { op = op; flags = 0; object = object; pad = 0; address = address; offset = offset; size = size }

-- op 0 maps, op 1 unmaps; 13 keeps any other away. By op and flags together, which are 0 only for a map without the
-- flag: its object is from 1 to the last; an unmap, and a request with the flag, has no object and no offset
abbrev pub object_tests : ℕ → Request → List Bool
object_tests zero r = leb 1 r.object ∷ leb r.object last_object ∷ []
object_tests (suc n) r = eqb r.object 0 ∷ eqb r.offset 0 ∷ []

abbrev pub offset_tests : ℕ → Request → List Bool
offset_tests zero r = leb (r.offset + r.size) limit ∷ []
offset_tests (suc n) r = []

-- document 01: the refusal table, a row a line. op neither 0 nor 1
abbrev pub op_row : Request → Row
op_row r = row 13 (leb r.op 1 ∷ [])

-- flags other than 0 and the flag that is served (0 where none is), or pad not 0
abbrev pub flags_row : ℕ → Request → Row
flags_row served r = row 14 ((eqb r.flags 0 || eqb r.flags served) ∷ eqb r.pad 0 ∷ [])

-- space breaks its rules
abbrev pub space_row : Space → Row
space_row s = row 1 (space_tests s)

-- address, size or offset of the request not a multiple of a page, or size 0
abbrev pub alignment_row : Request → Row
alignment_row r = row 6 (aligned r.address ∷ aligned r.size ∷ aligned r.offset ∷ ltb 0 r.size ∷ [])

-- range not inside the space
abbrev pub inside_row : Space → Request → Row
inside_row s r = row 7 (inside r.address (stop r) s.start (s.start + s.size))

-- range shares a byte with the reservation
abbrev pub reservation_row : Space → Request → Row
reservation_row s r = row 8 (apart r.address (stop r) s.reserved.start (s.reserved.start + s.reserved.size) ∷ [])

-- map with object 0 or above the last; unmap, or request with the flag, with object or offset not 0
abbrev pub object_row : Request → Row
object_row r = row 9 (object_tests (r.op + r.flags) r)

-- map with offset plus size above the limit
abbrev pub offset_row : Request → Row
offset_row r = row 10 (offset_tests r.op r)

-- the rows of a request, in their order: its form, which comes before everything else, with the flag that is served;
-- what it asks of a space
unfoldable pub form_rows : ℕ → Request → List Row
form_rows served r = op_row r ∷ flags_row served r ∷ []

unfoldable pub request_rows : Space → Request → List Row
request_rows s r = alignment_row r ∷ inside_row s r ∷ reservation_row s r ∷ object_row r ∷ offset_row r ∷ []
