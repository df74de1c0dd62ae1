-- Page entries worked by hand: with sizes 1, 4 and 16, and the call on words.
-- Assumes nothing.
use mathlib.Core.Path.{◌≡◌, refl}
use mathlib.Core.List.{List, [], ◌∷◌, map, flat_map}
use Prim.Native.Nat.{ℕ}
use Rattle.model.specs.Rows.{refused, answered, decide}
use Rattle.pages.specs.Prelude.{Mapping, Entry}
use Rattle.pages.specs.Pages.{part, entries_from, cover, entry_count, page_rows, page_entries}

abbrev mapping : ℕ → ℕ → ℕ → Mapping
mapping a n f = record { address = a; size = n; object = 7; offset = f }

abbrev sizes : Mapping → List ℕ
sizes m = map (λ (e : Entry). e.size) (cover 16 (4 ∷ 1 ∷ []) m)

-- a part of a mapping is one of the same object
a_part : part 4 6 (mapping 3 5 9) ≡ mapping 4 2 10
a_part = refl

-- remainders of every size on both sides
both_sides : sizes (mapping 3 38 3) ≡ 1 ∷ 4 ∷ 4 ∷ 4 ∷ 16 ∷ 4 ∷ 4 ∷ 1 ∷ []
unfolding cover entries_from
both_sides = refl

-- address and offset differ by a multiple of 4 that is none of 16; by 15
by_four : sizes (mapping 15 17 3) ≡ 1 ∷ 4 ∷ 4 ∷ 4 ∷ 4 ∷ []
unfolding cover entries_from
by_four = refl

by_fifteen : sizes (mapping 16 5 1) ≡ 1 ∷ 1 ∷ 1 ∷ 1 ∷ 1 ∷ []
unfolding cover entries_from
by_fifteen = refl

-- a boundary inside, and no whole page of 16; no boundary of 16
boundary_inside : sizes (mapping 12 8 12) ≡ 4 ∷ 4 ∷ []
unfolding cover entries_from
boundary_inside = refl

no_boundary : sizes (mapping 17 9 33) ≡ 1 ∷ 1 ∷ 1 ∷ 4 ∷ 1 ∷ 1 ∷ []
unfolding cover entries_from
no_boundary = refl

-- 4 KiB before a boundary of 2 MiB, 2 MiB, 4 KiB behind it: nine words, and a tenth that stays; eight are too few
nine_words : page_entries (mapping 2093056 2105344 2093056) (1 ∷ 2 ∷ 3 ∷ 4 ∷ 5 ∷ 6 ∷ 7 ∷ 8 ∷ 9 ∷ 10 ∷ []) ≡ record {
  answer = answered 3;
  words = 2093056 ∷ 2093056 ∷ 4096 ∷ 2097152 ∷ 2097152 ∷ 2097152 ∷ 4194304 ∷ 4194304 ∷ 4096 ∷ 10 ∷ [];
}
unfolding page_entries page_rows decide entry_count cover entries_from flat_map
nine_words = refl

eight_words : page_entries (mapping 2093056 2105344 2093056) (1 ∷ 2 ∷ 3 ∷ 4 ∷ 5 ∷ 6 ∷ 7 ∷ 8 ∷ [])
    ≡ record { answer = refused 16 0; words = 1 ∷ 2 ∷ 3 ∷ 4 ∷ 5 ∷ 6 ∷ 7 ∷ 8 ∷ [] }
unfolding page_entries page_rows decide entry_count
eight_words = refl

-- an entry's words are address, offset, size
three_words : page_entries (mapping 4096 4096 8192) (1 ∷ 2 ∷ 3 ∷ []) ≡ record { answer = answered 1; words = 4096 ∷ 8192 ∷ 4096 ∷ [] }
unfolding page_entries page_rows decide entry_count cover entries_from flat_map
three_words = refl

-- all but a page of 2^48 bytes, the offset a page above the address: nearly 2^36 entries, which nobody makes
most : entry_count 1073741824 (2097152 ∷ 4096 ∷ []) (mapping 0 281474976706560 4096) ≡ 68719476735
unfolding entry_count
most = refl

too_many : page_entries (mapping 0 281474976706560 4096) (1 ∷ []) ≡ record { answer = refused 16 0; words = 1 ∷ [] }
unfolding page_entries page_rows decide entry_count
too_many = refl

-- a mapping of size 0
empty : page_entries (mapping 4096 0 0) (1 ∷ 2 ∷ 3 ∷ []) ≡ record { answer = refused 5 0; words = 1 ∷ 2 ∷ 3 ∷ [] }
unfolding page_entries page_rows decide
empty = refl
