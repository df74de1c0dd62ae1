-- Look-ups computed, beside and at every edge: of three mappings, two of which touch and go on with the same object, of
-- a reservation in a gap, and of the space; and the same with sparse ranges beside the table.
-- Assumes nothing.
use mathlib.Core.Path.{◌≡◌, refl}
use mathlib.Core.List.{List, [], ◌∷◌}
use Prim.Native.Nat.{ℕ}
use Rattle.model.specs.Prelude.{Space, Sparse, Object, Seen}
use Rattle.model.specs.Rows.{answered, decide}
use Rattle.model.specs.Table.{Table, mappings_in, bad_place, table_rows}
use Rattle.model.specs.Ranges.{RangeList, ranges_in, list_tests, bare, next_edge}
use Rattle.model.specs.Cut.{translate, run_end}
use Rattle.model.specs.Calls.{space_of, Lent, lent_rows, lookup}
use Rattle.model.specs.Exactly.{Each}
use Rattle.model.specs.Lookups.{nothing}

abbrev space : Space
space = space_of 4096 61440 20480 4096

abbrev table : Table
table = record {
  words = 4096 ∷ 8192 ∷ 7 ∷ 0 ∷ 12288 ∷ 4096 ∷ 7 ∷ 8192 ∷ 40960 ∷ 4096 ∷ 9 ∷ 1048576 ∷ 0 ∷ 0 ∷ 0 ∷ 0 ∷ [];
  count = 3;
}

-- as they are lent with a list of ranges
abbrev lent : RangeList → Lent
lent l = record { table = table; ranges = l }

abbrev no_ranges : RangeList
no_ranges = record { words = []; count = 0 }

-- the first two touch under a mapping, the next two behind the reservation; the fifth has a mapping in its midst, and the
-- last ends with the space
abbrev six_ranges : RangeList
six_ranges = record {
  words = 4096 ∷ 4096 ∷ 8192 ∷ 12288 ∷ 24576 ∷ 4096 ∷ 28672 ∷ 4096 ∷ 36864 ∷ 16384 ∷ 61440 ∷ 4096 ∷ 0 ∷ 0 ∷ [];
  count = 6;
}

abbrev byte : ℕ → ℕ → ℕ → Seen
byte o f n = record { shown = Object o f; bytes = n }

abbrev sparse : ℕ → Seen
sparse n = record { shown = Sparse; bytes = n }

abbrev Right : RangeList → List (ℕ × Seen) → Type 0
Right l = Each (λ (a : ℕ × Seen). lookup space (lent l) a.0 ≡ answered a.1)

-- an address, and what is seen there
unfoldable sights : List (ℕ × Seen)
sights =
    -- before the space; the first mapping, and the one that touches it
    (0, nothing 0) ∷ (4095, nothing 0) ∷ (4096, byte 7 0 8192) ∷ (4097, byte 7 1 8191) ∷ (12287, byte 7 8191 1)
    ∷ (12288, byte 7 8192 4096) ∷ (12289, byte 7 8193 4095) ∷ (16383, byte 7 12287 1)
    -- nothing, across the reservation
    ∷ (16384, nothing 24576) ∷ (16385, nothing 24575) ∷ (20479, nothing 20481) ∷ (20480, nothing 20480) ∷ (24575, nothing 16385)
    ∷ (24576, nothing 16384) ∷ (40959, nothing 1)
    -- the last mapping; nothing up to the space's end; behind it
    ∷ (40960, byte 9 1048576 4096) ∷ (40961, byte 9 1048577 4095) ∷ (45055, byte 9 1052671 1)
    ∷ (45056, nothing 20480) ∷ (65535, nothing 1) ∷ (65536, nothing 0) ∷ (65537, nothing 0) ∷ (18446744073709551615, nothing 0)
    ∷ []

sights_right : Right no_ranges sights
unfolding sights lookup lent_rows table_rows decide bad_place mappings_in ranges_in list_tests translate run_end bare next_edge
sights_right = (refl, (refl, (refl, (refl, (refl, (refl, (refl, (refl, (refl, (refl, (refl, (refl, (refl, (refl, (refl, (refl, (refl, (refl, (refl, (refl, (refl, (refl, (refl, tt)))))))))))))))))))))))

-- and with ranges
unfoldable range_sights : List (ℕ × Seen)
range_sights =
    -- outside; edges under a mapping have no say
    (0, nothing 0) ∷ (4095, nothing 0) ∷ (4096, byte 7 0 8192) ∷ (8191, byte 7 4095 4097) ∷ (8192, byte 7 4096 4096)
    ∷ (12287, byte 7 8191 1) ∷ (12288, byte 7 8192 4096) ∷ (16383, byte 7 12287 1)
    -- behind the mappings that lie in a range, up to its end; nothing in the reservation, up to the next one's start
    ∷ (16384, sparse 4096) ∷ (20479, sparse 1) ∷ (20480, nothing 4096) ∷ (24575, nothing 1)
    -- ranges that touch; nothing behind them
    ∷ (24576, sparse 4096) ∷ (24577, sparse 4095) ∷ (28671, sparse 1) ∷ (28672, sparse 4096) ∷ (28673, sparse 4095)
    ∷ (32767, sparse 1) ∷ (32768, nothing 4096) ∷ (36863, nothing 1)
    -- a mapping in the midst of a range
    ∷ (36864, sparse 4096) ∷ (40959, sparse 1) ∷ (40960, byte 9 1048576 4096) ∷ (45055, byte 9 1052671 1)
    ∷ (45056, sparse 8192) ∷ (49152, sparse 4096) ∷ (53247, sparse 1)
    -- nothing; a range up to the space's end; outside
    ∷ (53248, nothing 8192) ∷ (61439, nothing 1) ∷ (61440, sparse 4096) ∷ (65535, sparse 1) ∷ (65536, nothing 0)
    ∷ (65537, nothing 0) ∷ (18446744073709551615, nothing 0)
    ∷ []

range_sights_right : Right six_ranges range_sights
unfolding range_sights lookup lent_rows table_rows decide bad_place mappings_in ranges_in list_tests translate run_end bare next_edge
range_sights_right = (refl, (refl, (refl, (refl, (refl, (refl, (refl, (refl, (refl, (refl, (refl, (refl, (refl, (refl, (refl, (refl, (refl, (refl, (refl, (refl, (refl, (refl, (refl, (refl, (refl, (refl, (refl, (refl, (refl, (refl, (refl, (refl, (refl, (refl, tt))))))))))))))))))))))))))))))))))
