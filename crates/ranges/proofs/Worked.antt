-- Worked cases: a range more, a range less, and what is seen beside ranges.
-- Assumes nothing.
use mathlib.Core.Path.{◌≡◌, refl}
use mathlib.Core.List.{List, [], ◌∷◌, flat_map, map}
use Prim.Native.Nat.{ℕ}
use Rattle.model.specs.declared.Range.{Range}
use Rattle.model.specs.declared.Seen.{Seen}
use Rattle.model.specs.declared.Shown.{Shown}
use Rattle.model.specs.declared.Shown.TheVariants.{Nothing, Sparse, Object}
use Rattle.model.specs.Rows.{refused, answered, decide}
use Rattle.model.specs.Ranges.{RangeList, ranges_in, bare, next_edge, insert_range, listed, remove_range}
use Rattle.ranges.specs.Lists.{lent_list}
use Rattle.ranges.specs.Changes.{ListOutcome, added, removed}
use Rattle.ranges.specs.Beside.{beside_off, beside}

abbrev range : ℕ → ℕ → Range
range a n = record { start = a; size = n }

-- [10, 15) and [20, 25), with room for one more; and without, [15, 20) between them
abbrev roomy : RangeList
roomy = lent_list (10 ∷ 5 ∷ 20 ∷ 5 ∷ 0 ∷ 0 ∷ []) 2

abbrev full : RangeList
full = lent_list (10 ∷ 5 ∷ 15 ∷ 5 ∷ 20 ∷ 5 ∷ []) 3

abbrev refused_of : ℕ → RangeList → ListOutcome
refused_of n l = record { answer = refused n 0; words = l.words }

abbrev leaves : List ℕ → ListOutcome
leaves ws = record { answer = answered tt; words = ws }

-- before all others, between two that it touches, behind all others
more : map (λ x. added x roomy) (range 0 9 ∷ range 15 5 ∷ range 25 1 ∷ [])
    ≡ leaves (0 ∷ 9 ∷ 10 ∷ 5 ∷ 20 ∷ 5 ∷ []) ∷ leaves (10 ∷ 5 ∷ 15 ∷ 5 ∷ 20 ∷ 5 ∷ []) ∷ leaves (10 ∷ 5 ∷ 20 ∷ 5 ∷ 25 ∷ 1 ∷ []) ∷ []
unfolding added decide insert_range ranges_in flat_map
more = refl

-- a byte shared with the first, with the second, with both; a full list, where an overlap comes first
no_more : map (λ x. added x roomy) (range 14 1 ∷ range 19 2 ∷ range 0 99 ∷ []) ≡ refused_of 19 roomy ∷ refused_of 19 roomy ∷ refused_of 19 roomy ∷ []
unfolding added decide insert_range ranges_in flat_map
no_more = refl

no_room : map (λ x. added x full) (range 25 1 ∷ range 24 1 ∷ []) ≡ refused_of 11 full ∷ refused_of 19 full ∷ []
unfolding added decide insert_range ranges_in flat_map
no_room = refl

-- the words of the last become zero; a part of a range, or two of them, is none
less : map (λ x. removed x full) (range 10 5 ∷ range 20 5 ∷ []) ≡ leaves (15 ∷ 5 ∷ 20 ∷ 5 ∷ 0 ∷ 0 ∷ []) ∷ leaves (10 ∷ 5 ∷ 15 ∷ 5 ∷ 0 ∷ 0 ∷ []) ∷ []
unfolding removed decide listed remove_range ranges_in flat_map
less = refl

no_less : map (λ x. removed x full) (range 10 4 ∷ range 10 10 ∷ range 11 4 ∷ []) ≡ refused_of 20 full ∷ refused_of 20 full ∷ refused_of 20 full ∷ []
unfolding removed decide listed remove_range ranges_in flat_map
no_less = refl

abbrev seen : Shown → ℕ → Seen
seen v n = record { shown = v; bytes = n }

-- beside [10, 15) and [15, 20), at five addresses, 8 bytes before the next mapping
sights : map (λ x. beside (range 10 5 ∷ range 15 5 ∷ []) x (seen Nothing 8)) (1 ∷ 3 ∷ 10 ∷ 14 ∷ 20 ∷ [])
    ≡ seen Nothing 8 ∷ seen Nothing 7 ∷ seen Sparse 5 ∷ seen Sparse 1 ∷ seen Nothing 8 ∷ []
unfolding beside beside_off bare next_edge
sights = refl

-- a mapping starts before the range ends; a mapping has the byte
mapped : map (λ v. beside (range 10 5 ∷ []) 12 v) (seen Nothing 2 ∷ seen (Object 7 0) 9 ∷ []) ≡ seen Sparse 2 ∷ seen (Object 7 0) 9 ∷ []
unfolding beside beside_off bare next_edge
mapped = refl
