-- A table of mappings in lent words (document 01: Table), and the rows of the refusal table that look at it.
use Rattle.std.specs.Prelude.{Bool, List, [], ◌∷◌, ◌++◌, map, ℕ, zero, suc, ◌+◌, ◌-◌, ◌*◌, ◌/◌, ◌%◌, leb, ltb, eqb, length, get_or, drop, replicate}
use mathlib.Core.List.{flat_map}
use Rattle.model.specs.Prelude.{Space, Mapping}
use Rattle.model.specs.Rows.{all, choose, Row, row}
use Rattle.model.specs.Rules.{most_mappings, end, mapping_tests, space_row}

-- a table as it is lent: its words and its count
pub record Table : Type 0 where
  pub words : List ℕ
  pub count : ℕ

-- its length divided by 4
abbrev pub capacity : Table → ℕ
capacity t = length t.words / 4

-- the mapping in the four words from place i on; a word behind the last is zero
abbrev pub mapping_from : ℕ → List ℕ → Mapping
mapping_from i ws = record { address = get_or ws i 0; size = get_or ws (i + 1) 0; object = get_or ws (i + 2) 0; offset = get_or ws (i + 3) 0 }

-- the first n mappings in any words, four words each
unfoldable pub mappings_in : ℕ → List ℕ → List Mapping
mappings_in zero ws = []
mappings_in (suc n) ws = mapping_from 0 ws ∷ mappings_in n (drop 4 ws)

abbrev pub mappings : Table → List Mapping
mappings t = mappings_in t.count t.words

-- the other way: address, size, object, offset
abbrev pub words_of : Mapping → List ℕ
words_of m = m.address ∷ m.size ∷ m.object ∷ m.offset ∷ []

-- a slice of n words that holds these mappings, and zeros behind the last
abbrev pub written : ℕ → List Mapping → List ℕ
written n ms = flat_map words_of ms ++ replicate (n - length (flat_map words_of ms)) 0

-- the rule of a table: each mapping keeps its own rules, and starts where its forerunner ends or later
abbrev pub fit_tests : Space → ℕ → Mapping → List Bool
fit_tests s from m = leb from m.address ∷ mapping_tests s m

-- the lowest place of a mapping that breaks a rule, or the number of mappings if none does
unfoldable pub bad_place : Space → ℕ → List Mapping → ℕ
bad_place s from [] = 0
bad_place s from (m ∷ ms) = choose (all (fit_tests s from m)) (suc (bad_place s (end m) ms)) 0

-- document 01: the refusal table. Table length 0, not a multiple of 4, or above 16,384 words
abbrev pub length_row : Table → Row
length_row t = row 2 (ltb 0 (length t.words) ∷ eqb (length t.words % 4) 0 ∷ leb (length t.words) (4 * most_mappings) ∷ [])

-- operation slice, of n words, shorter than (capacity + 1) x 14
abbrev pub operations_row : ℕ → Table → Row
operations_row n t = row 3 (leb ((capacity t + 1) * 14) n ∷ [])

-- count above capacity
abbrev pub count_row : Table → Row
count_row t = row 4 (leb t.count (capacity t) ∷ [])

-- a mapping breaks its rules or overlaps or precedes its forerunner; the lowest such place
abbrev pub mappings_row : Space → Table → Row
mappings_row s t =
    record { number = 5; place = bad_place s 0 (mappings t); tests = eqb (bad_place s 0 (mappings t)) (length (mappings t)) ∷ [] }

-- each word is zero
abbrev pub zero_tests : List ℕ → List Bool
zero_tests ws = map (λ x. eqb x 0) ws

-- document 02: a word behind the last mapping is not zero
abbrev pub stale_row : Table → Row
stale_row t = row 17 (zero_tests (drop (4 * t.count) t.words))

-- the rows that look at what a table holds: 4, 5, 17
abbrev pub content_rows : Space → Table → List Row
content_rows s t = count_row t ∷ mappings_row s t ∷ stale_row t ∷ []

-- a table's part of the rows of every call on one: 1, 2, what the call has between (a request 3, a batch 3 and 15, a
-- look-up nothing), 4, 5, 17
unfoldable pub table_rows : Space → List Row → Table → List Row
table_rows s between t = space_row s ∷ length_row t ∷ (between ++ content_rows s t)
