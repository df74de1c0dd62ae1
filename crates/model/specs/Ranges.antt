-- A list of sparse ranges in lent words (document 02, Item 7), the row of the refusal table that looks at it, what an
-- address shows off all mappings and how far, and a list with one range more or less.
use Rattle.std.specs.Prelude.{Bool, ◌||◌, false, List, [], ◌∷◌, ◌++◌, ℕ, zero, suc, ◌+◌, ◌-◌, ◌*◌, ◌/◌, ◌%◌, min, leb, ltb, eqb, length, get_or, drop, replicate}
use mathlib.Core.List.{flat_map}
use Rattle.model.specs.Prelude.{Range, Space, Shown}
use Rattle.model.specs.Prelude.{Nothing, Sparse}
use Rattle.model.specs.Rows.{all, choose, Row, row}
use Rattle.model.specs.Rules.{aligned, apart}
use Rattle.model.specs.Table.{zero_tests}

-- a list as it is lent: its words and its count
pub record RangeList : Type 0 where
  pub words : List ℕ
  pub count : ℕ

-- it is of even length up to so many words, two a range
abbrev pub most_range_words : ℕ
most_range_words = 128

-- the range in the two words from place i on; a word behind the last is zero
abbrev pub range_from : ℕ → List ℕ → Range
range_from i ws = record { start = get_or ws i 0; size = get_or ws (i + 1) 0 }

-- the first n ranges in any words
unfoldable pub ranges_in : ℕ → List ℕ → List Range
ranges_in zero ws = []
ranges_in (suc n) ws = range_from 0 ws ∷ ranges_in n (drop 2 ws)

abbrev pub ranges : RangeList → List Range
ranges l = ranges_in l.count l.words

-- the other way: address, size; and a slice of n words that holds these ranges, and zeros behind the last
abbrev pub range_words : Range → List ℕ
range_words x = x.start ∷ x.size ∷ []

abbrev pub list_written : ℕ → List Range → List ℕ
list_written n xs = flat_map range_words xs ++ replicate (n - length (flat_map range_words xs)) 0

abbrev pub range_end : Range → ℕ
range_end x = x.start + x.size

-- ── row 18 ──

-- a range starts where its forerunner ends or later, is aligned and not empty, lies inside the space, and shares no
-- byte with the reservation
abbrev pub range_tests : Space → ℕ → Range → List Bool
range_tests s from x =
    leb from x.start ∷ aligned x.start ∷ aligned x.size ∷ ltb 0 x.size
    ∷ leb s.start x.start ∷ leb (range_end x) (s.start + s.size)
    ∷ apart x.start (range_end x) s.reserved.start (s.reserved.start + s.reserved.size) ∷ []

unfoldable pub list_tests : Space → ℕ → List Range → List Bool
list_tests s from [] = []
list_tests s from (x ∷ xs) = range_tests s from x ++ list_tests s (range_end x) xs

-- the list is of odd length or too long, its count above what it can hold, a range breaks a rule, or a word behind the
-- last range is not zero
abbrev pub length_tests : RangeList → List Bool
length_tests l = eqb (length l.words % 2) 0 ∷ leb (length l.words) most_range_words ∷ leb l.count (length l.words / 2) ∷ []

abbrev pub list_row : Space → RangeList → Row
list_row s l = row 18 (length_tests l ++ (list_tests s 0 (ranges l) ++ zero_tests (drop (2 * l.count) l.words)))

-- ── look-ups off all mappings ──

-- the byte address x lies in a range: sparse; else nothing
abbrev pub in_range_tests : Range → ℕ → List Bool
in_range_tests y x = leb y.start x ∷ ltb x (range_end y) ∷ []

unfoldable pub bare : List Range → ℕ → Shown
bare [] x = Nothing
bare (y ∷ ys) x = choose (all (in_range_tests y x)) Sparse (bare ys x)

-- a, if it lies behind x and is nearer than b; else b
abbrev pub nearer : ℕ → ℕ → ℕ → ℕ
nearer x a b = choose (ltb x a) (min a b) b

-- the next edge of a range behind x, or `to` if that is nearer
unfoldable pub next_edge : ℕ → List Range → ℕ → ℕ
next_edge to [] x = to
next_edge to (y ∷ ys) x = nearer x y.start (nearer x (range_end y) (next_edge to ys x))

-- ── one range more or less ──

-- a range in its place, by its start
unfoldable pub insert_range : Range → List Range → List Range
insert_range x [] = x ∷ []
insert_range x (y ∷ ys) = choose (leb x.start y.start) (x ∷ y ∷ ys) (y ∷ insert_range x ys)

-- exactly that start and size
abbrev pub same_tests : Range → Range → List Bool
same_tests x y = eqb x.start y.start ∷ eqb x.size y.size ∷ []

abbrev pub same_range : Range → Range → Bool
same_range x y = all (same_tests x y)

unfoldable pub listed : Range → List Range → Bool
listed x [] = false
listed x (y ∷ ys) = same_range x y || listed x ys

unfoldable pub remove_range : Range → List Range → List Range
remove_range x [] = []
remove_range x (y ∷ ys) = choose (same_range x y) ys (y ∷ remove_range x ys)
