-- The edges of the rules, computed: the request check at 39 inputs around them, one listing, words behind the last
-- mapping, and lists of sparse ranges (Exactly covers them all); the longest table, whose 16,384 words no claim writes
-- out, and one of a mapping more.
-- Assumes nothing.
use mathlib.Core.Path.{◌≡◌, refl}
use mathlib.Core.Bool.{Bool, true, ◌&&◌}
use mathlib.Core.List.{List, [], ◌∷◌, ◌++◌, flat_map}
use Prim.Native.Nat.{ℕ, ◌-◌, ◌^◌}
use lib.Dec.{T, eqb, eqb→eq}
use lib.ListN.{replicate}
use Rattle.model.specs.Prelude.{Space, Nothing, Sparse, Object, Seen, Grant}
use Rattle.model.specs.Rows.{Reply, refused, answered, decide}
use Rattle.model.specs.Rules.{by_numbers, form_rows, request_rows}
use Rattle.model.specs.Calls.{space_of, check_rows, check_request, little_endian, request_of, record_rows, bytes_of, record_of, numbers, bytes, Lent, lent_rows, bind_rows, bind, lookup}
use Rattle.model.specs.Table.{Table, mappings_in, bad_place, table_rows}
use Rattle.model.specs.Ranges.{ranges_in, list_tests, bare, next_edge, insert_range, listed as isListed, remove_range}
use Rattle.model.specs.Cut.{below, above, hits, operations, translate, run_end}
use Rattle.model.specs.Exactly.{Each}
use Rattle.model.proofs.Tests.{and_both}

record Boundary : Type 0 where
  record-bytes : List ℕ
  space : Space
  answer : ℕ

abbrev case : List ℕ → Space → ℕ → Boundary
case bs s n = record { record-bytes = bs; space = s; answer = n }

abbrev Right : Boundary → Type 0
Right b = check_request b.record-bytes b.space ≡ b.answer

-- address, size, object, offset
abbrev map : ℕ → ℕ → ℕ → ℕ → List ℕ
map a n o f = record_of (by_numbers 0 a n o f)

abbrev unmap : ℕ → ℕ → ℕ → ℕ → List ℕ
unmap a n o f = record_of (by_numbers 1 a n o f)

-- a map of a page, in good order but for op, flags and pad
abbrev form : ℕ → ℕ → ℕ → List ℕ
form op flags pad =
    record_of (record { op = op; flags = flags; object = 7; pad = pad; address = 0; offset = 0; size = 4096 })

-- with the flag: op, object, offset
abbrev sparse : ℕ → ℕ → ℕ → List ℕ
sparse op o f = record_of (record { op = op; flags = 256; object = o; pad = 0; address = 0; offset = f; size = 4096 })

-- 16 pages from 0 on: nothing reserved; pages 4 and 5 reserved
abbrev plain : Space
plain = space_of 0 65536 0 0

abbrev reserved : Space
reserved = space_of 0 65536 16384 8192

unfoldable boundaries : List Boundary
boundaries =
    -- the record: document 01's first request, byte by byte; the lowest byte first; its length
    case (0 ∷ 0 ∷ 0 ∷ 0 ∷ (replicate 4 0 ++ (7 ∷ 0 ∷ 0 ∷ 0 ∷ (replicate 21 0 ++ (48 ∷ replicate 6 0))))) plain 0
    ∷ case (1 ∷ 0 ∷ 0 ∷ 0 ∷ (replicate 29 0 ++ (48 ∷ replicate 6 0))) plain 0
    ∷ case (0 ∷ 0 ∷ 0 ∷ 1 ∷ (replicate 29 0 ++ (48 ∷ replicate 6 0))) plain 13
    ∷ case [] plain 12
    ∷ case (form 2 1 0 ++ (0 ∷ [])) plain 12
    ∷ case (form 2 1 0) plain 13
    ∷ case (form 0 1 0) plain 14
    ∷ case (form 0 0 1) (space_of 1 0 0 0) 14
    -- the sparse flag, and those beside it; it stands above 1, and a request with it has no object and no offset
    ∷ case (sparse 0 0 0) plain 0
    ∷ case (sparse 1 0 0) plain 0
    ∷ case (form 0 257 0) plain 14
    ∷ case (form 0 256 1) plain 14
    ∷ case (form 0 256 0) plain 9
    ∷ case (form 0 256 0) (space_of 1 0 0 0) 1
    ∷ case (sparse 0 0 4096) plain 9
    ∷ case (sparse 0 0 1) plain 6
    -- a space: its end, its size, its reservation
    ∷ case (form 0 0 0) (space_of 0 (2 ^ 48) 0 0) 0
    ∷ case (form 0 0 0) (space_of 4096 (2 ^ 48) 0 0) 1
    ∷ case (form 0 0 0) (space_of (2 ^ 64 - 4096) 8192 0 0) 1
    ∷ case (form 0 0 0) (space_of 0 0 0 0) 1
    ∷ case (form 0 0 0) (space_of 0 65536 4096 0) 1
    ∷ case (form 0 0 0) (space_of 0 65536 61440 4096) 0
    ∷ case (form 0 0 0) (space_of 0 65536 61440 8192) 1
    -- 6: offset 1; size 0, outside too
    ∷ case (unmap 0 4096 0 1) plain 6
    ∷ case (map 69632 0 7 0) plain 6
    -- 7: the last page; one beyond it; a sum that passes 64 bits
    ∷ case (map 61440 4096 9 0) plain 0
    ∷ case (map 61440 8192 9 0) plain 7
    ∷ case (map (2 ^ 64 - 4096) 8192 9 0) plain 7
    -- 8: touching below and above; sharing a page
    ∷ case (map 0 16384 9 0) reserved 0
    ∷ case (map 24576 4096 9 0) reserved 0
    ∷ case (map 0 20480 9 0) reserved 8
    ∷ case (unmap 20480 8192 0 0) reserved 8
    -- 9: the last object; none; an unmap's offset and object
    ∷ case (map 0 4096 4294967295 0) plain 0
    ∷ case (map 0 4096 0 0) plain 9
    ∷ case (unmap 0 4096 0 4096) plain 9
    ∷ case (unmap 0 4096 7 0) plain 9
    -- 10: the end at 2^48; above it; a sum that passes 64 bits
    ∷ case (map 0 4096 7 (2 ^ 48 - 4096)) plain 0
    ∷ case (map 0 4096 7 (2 ^ 48)) plain 10
    ∷ case (map 0 8192 7 (2 ^ 64 - 4096)) plain 10
    ∷ []

-- one test over the whole listing
right : Boundary → Bool
right b = eqb (check_request b.record-bytes b.space) b.answer

all_right : List Boundary → Bool
all_right [] = true
all_right (b ∷ bs) = right b && all_right bs

each_right : (bs : List Boundary) → T (all_right bs) → Each Right bs
unfolding all_right right
each_right [] t = tt
each_right (b ∷ bs) t = let h = and_both (right b) (all_right bs) t in (eqb→eq _ _ h.0, each_right bs h.1)

boundaries_right : Each Right boundaries
unfolding all_right right decide form_rows request_rows little_endian request_of record_rows bytes_of record_of check_rows check_request boundaries
boundaries_right = each_right boundaries tt

-- ── words behind the last mapping ──

-- a mapping of one page of object o, the words a and b first and last behind it, and a count
abbrev behind : ℕ → ℕ → ℕ → ℕ → Table
behind o a b n = record { words = 0 ∷ 4096 ∷ o ∷ 0 ∷ a ∷ 0 ∷ 0 ∷ b ∷ []; count = n }

-- a table, and what a look-up at 0 answers
unfoldable counted : List (Table × Reply Seen)
counted =
    -- zeros; the first word, the last word, each alone
    (behind 7 0 0 1, answered (record { shown = Object 7 0; bytes = 4096 })) ∷ (behind 7 1 0 1, refused 17 0) ∷ (behind 7 0 1 1, refused 17 0)
    -- a count too low, and too high by one and by two; 5 stands above 17
    ∷ (behind 7 0 0 0, refused 17 0) ∷ (behind 7 0 0 2, refused 5 1) ∷ (behind 7 0 0 3, refused 4 0) ∷ (behind 0 1 1 1, refused 5 0)
    ∷ []

-- beside a list of length 0
abbrev alone : Table → Lent
alone t = record { table = t; ranges = record { words = []; count = 0 } }

counted_right : Each (λ (a : Table × Reply Seen). lookup plain (alone a.0) 0 ≡ a.1) counted
unfolding counted lookup table_rows lent_rows ranges_in list_tests decide bad_place mappings_in translate run_end bare next_edge
counted_right = (refl, (refl, (refl, (refl, (refl, (refl, (refl, tt)))))))

-- 17 stands above 6, and changes nothing
stale_bound : bind plain (alone (behind 7 0 1 1)) (replicate 42 9) (numbers 0 1 1 0 1)
    ≡ record { answer = refused 17 0; table = (behind 7 0 1 1).words; ranges = []; operations = replicate 42 9 }
unfolding bind bind_rows form_rows table_rows lent_rows decide bad_place mappings_in
stale_bound = refl

-- ── lists of sparse ranges ──

-- beside an empty table with room for two
abbrev beside : List ℕ → ℕ → Lent
beside ws n = record { table = record { words = replicate 8 0; count = 0 }; ranges = record { words = ws; count = n } }

-- a list and its count, in a space with pages 4 and 5 reserved, and what a look-up at 4096 answers
unfoldable lists : List (List ℕ × ℕ × Reply Seen)
lists =
    -- none; one; two that touch, seen up to where they do
    ([], 0, answered (record { shown = Nothing; bytes = 61440 })) ∷ (4096 ∷ 8192 ∷ [], 1, answered (record { shown = Sparse; bytes = 8192 }))
    ∷ (0 ∷ 8192 ∷ 8192 ∷ 8192 ∷ 0 ∷ 0 ∷ [], 2, answered (record { shown = Sparse; bytes = 4096 }))
    -- the longest, and one range more; an odd length; a count above what it holds
    ∷ (replicate 128 0, 0, answered (record { shown = Nothing; bytes = 61440 })) ∷ (replicate 130 0, 0, refused 18 0) ∷ (0 ∷ [], 0, refused 18 0)
    ∷ ([], 1, refused 18 0) ∷ (0 ∷ 4096 ∷ [], 2, refused 18 0)
    -- off a page; empty; overlapping, out of order; outside, in the reservation, up to it
    ∷ (1 ∷ 4096 ∷ [], 1, refused 18 0) ∷ (0 ∷ 1 ∷ [], 1, refused 18 0) ∷ (4096 ∷ 0 ∷ [], 1, refused 18 0)
    ∷ (0 ∷ 8192 ∷ 4096 ∷ 4096 ∷ [], 2, refused 18 0) ∷ (8192 ∷ 4096 ∷ 0 ∷ 4096 ∷ [], 2, refused 18 0)
    ∷ (61440 ∷ 8192 ∷ [], 1, refused 18 0) ∷ (12288 ∷ 8192 ∷ [], 1, refused 18 0) ∷ (12288 ∷ 4096 ∷ [], 1, answered (record { shown = Nothing; bytes = 8192 }))
    -- a word behind the last: the first, the last
    ∷ (0 ∷ 4096 ∷ 1 ∷ 0 ∷ [], 1, refused 18 0) ∷ (0 ∷ 4096 ∷ 0 ∷ 1 ∷ [], 1, refused 18 0)
    ∷ []

lists_right : Each (λ (a : List ℕ × ℕ × Reply Seen). lookup reserved (beside a.0 a.1) 4096 ≡ a.2) lists
unfolding lists lookup table_rows lent_rows ranges_in list_tests decide bad_place mappings_in translate run_end bare next_edge
lists_right = (refl, (refl, (refl, (refl, (refl, (refl, (refl, (refl, (refl, (refl, (refl, (refl, (refl, (refl, (refl, (refl, (refl, (refl, tt))))))))))))))))))

-- a request with the flag on a list: op, address and size, the list's words and count, the answer and the words after it
record Listed : Type 0 where
  op : ℕ
  address : ℕ
  size : ℕ
  before : List ℕ
  count : ℕ
  answer : Reply Grant
  after : List ℕ

-- a table with a mapping of page 1 and room for another, which it leaves alone
abbrev mapped : List ℕ → ℕ → Lent
mapped ws n = record { table = record { words = 4096 ∷ 4096 ∷ 7 ∷ 0 ∷ replicate 4 0; count = 1 }; ranges = record { words = ws; count = n } }

-- no operation, the table's count, the list's
abbrev relisted : ℕ → Reply Grant
relisted n = answered (record { operations = 0; count = 1; ranges = n })

abbrev listed : ℕ → ℕ → ℕ → List ℕ → ℕ → Reply Grant → List ℕ → Listed
listed op a n ws k u vs = record { op = op; address = a; size = n; before = ws; count = k; answer = u; after = vs }

unfoldable flagged : List Listed
flagged =
    -- in front, between, behind; touching on both sides; over the mapping
    listed 0 0 4096 (8192 ∷ 4096 ∷ 0 ∷ 0 ∷ []) 1 (relisted 2) (0 ∷ 4096 ∷ 8192 ∷ 4096 ∷ [])
    ∷ listed 0 4096 4096 (0 ∷ 4096 ∷ 8192 ∷ 4096 ∷ 0 ∷ 0 ∷ []) 2 (relisted 3) (0 ∷ 4096 ∷ 4096 ∷ 4096 ∷ 8192 ∷ 4096 ∷ [])
    ∷ listed 0 61440 4096 (0 ∷ 4096 ∷ 0 ∷ 0 ∷ []) 1 (relisted 2) (0 ∷ 4096 ∷ 61440 ∷ 4096 ∷ [])
    -- 19, above 11; 11 alone; no list at all
    ∷ listed 0 4096 8192 (8192 ∷ 4096 ∷ []) 1 (refused 19 0) (8192 ∷ 4096 ∷ [])
    ∷ listed 0 4096 4096 (8192 ∷ 4096 ∷ []) 1 (refused 11 0) (8192 ∷ 4096 ∷ [])
    ∷ listed 0 4096 4096 [] 0 (refused 11 0) []
    -- removed, with the mapping touching it; 20: another size, another start, the mapping in it
    ∷ listed 1 8192 4096 (0 ∷ 4096 ∷ 8192 ∷ 4096 ∷ []) 2 (relisted 1) (0 ∷ 4096 ∷ 0 ∷ 0 ∷ [])
    ∷ listed 1 0 4096 (0 ∷ 4096 ∷ 8192 ∷ 4096 ∷ []) 2 (relisted 1) (8192 ∷ 4096 ∷ 0 ∷ 0 ∷ [])
    ∷ listed 1 8192 4096 (8192 ∷ 8192 ∷ []) 1 (refused 20 0) (8192 ∷ 8192 ∷ [])
    ∷ listed 1 12288 4096 (8192 ∷ 8192 ∷ []) 1 (refused 20 0) (8192 ∷ 8192 ∷ [])
    ∷ listed 1 0 8192 (0 ∷ 8192 ∷ []) 1 (refused 20 0) (0 ∷ 8192 ∷ [])
    ∷ []

Flagged : Listed → Type 0
Flagged a =
    bind plain (mapped a.before a.count) (replicate 42 9)
    (bytes (record_of (record { op = a.op; flags = 256; object = 0; pad = 0; address = a.address; offset = 0; size = a.size })))
    ≡ record { answer = a.answer; table = (mapped [] 0).table.words; ranges = a.after; operations = replicate 42 9 }

flagged_right : Each Flagged flagged
unfolding Flagged flagged bind bind_rows form_rows request_rows table_rows lent_rows ranges_in list_tests decide bad_place mappings_in insert_range isListed remove_range flat_map little_endian request_of bytes_of record_of
flagged_right = (refl, (refl, (refl, (refl, (refl, (refl, (refl, (refl, (refl, (refl, (refl, tt)))))))))))

-- ── the longest table, and one mapping more ──

abbrev zeros : ℕ → Table
zeros n = record { words = replicate n 0; count = 0 }

-- a map of a page into an empty table of n words; the operation words are enough for each of them
abbrev map_into : ℕ → Reply Grant
map_into n = (bind plain (alone (zeros n)) (replicate 60000 0) (numbers 0 0 4096 7 0)).answer

longest_bound : map_into 16384 ≡ answered (record { operations = 1; count = 1; ranges = 0 })
unfolding bind bind_rows form_rows request_rows table_rows lent_rows ranges_in list_tests decide bad_place mappings_in below above hits operations
longest_bound = refl

too_long_bound : map_into 16388 ≡ refused 2 0
unfolding bind bind_rows form_rows table_rows lent_rows decide
too_long_bound = refl

longest_shown : lookup plain (alone (zeros 16384)) 0 ≡ answered (record { shown = Nothing; bytes = 65536 })
unfolding lookup table_rows lent_rows ranges_in list_tests decide bad_place mappings_in translate run_end bare next_edge
longest_shown = refl

too_long_shown : lookup plain (alone (zeros 16388)) 0 ≡ refused 2 0
unfolding lookup table_rows lent_rows decide
too_long_shown = refl
