-- Page entries (document 02, Item 12): a mapping in pages of several sizes, as few as can be. One recursion for any sizes.
use Rattle.std.specs.Prelude.{Bool, List, [], ◌∷◌, ◌++◌, ℕ, zero, suc, ◌+◌, ◌-◌, ◌*◌, ◌/◌, ◌%◌, min, max, leb, eqb, length, drop}
use mathlib.Core.List.{flat_map}
use Rattle.model.specs.Rows.{choose, Row, row, Reply, refused, answered, decide}
use Rattle.model.specs.Rules.{limit, end, mapping_tests}
use Rattle.model.specs.Calls.{space_of}
use Rattle.pages.specs.Prelude.{Space, Mapping, Entry}

-- the sizes of a page: 1 GiB, and from there down 2 MiB and 4 KiB
abbrev pub largest : ℕ
largest = 1073741824

abbrev pub smaller : List ℕ
smaller = 2097152 ∷ 4096 ∷ []

-- ── one size ──

-- the boundary of size s, a multiple of it, at or before x; the one at or behind x
abbrev pub down : ℕ → ℕ → ℕ
down s x = x / s * s

abbrev pub up : ℕ → ℕ → ℕ
up s x = down s (x + (s - 1))

-- a range is cut at its first boundary and at its last; where it has none, both are its end
abbrev pub first_cut : ℕ → Mapping → ℕ
first_cut s m = min (up s m.address) (end m)

abbrev pub last_cut : ℕ → Mapping → ℕ
last_cut s m = max (first_cut s m) (down s (end m))

-- the part of a mapping from a up to b: its offset moves along with its address
abbrev pub part : ℕ → ℕ → Mapping → Mapping
part a b m = record { address = a; size = b - a; object = m.object; offset = m.offset + (a - m.address) }

-- the whole pages between the cuts, and the remainders on both sides
abbrev pub lower : ℕ → Mapping → Mapping
lower s m = part m.address (first_cut s m) m

abbrev pub middle : ℕ → Mapping → Mapping
middle s m = part (first_cut s m) (last_cut s m) m

abbrev pub upper : ℕ → Mapping → Mapping
upper s m = part (last_cut s m) (end m) m

-- address and offset differ by a multiple of the size
abbrev pub congruent : ℕ → Mapping → Bool
congruent s m = eqb (m.address % s) (m.offset % s)

-- so many entries of one size in a row, from an address and an offset on; a mapping in pages of one size
unfoldable pub entries_from : ℕ → ℕ → ℕ → ℕ → List Entry
entries_from s zero a f = []
entries_from s (suc n) a f = record { address = a; offset = f; size = s } ∷ entries_from s n (a + s) (f + s)

abbrev pub paged : ℕ → Mapping → List Entry
paged s m = entries_from s (m.size / s) m.address m.offset

-- ── all sizes ──

-- the entries of a mapping in pages of size s and of the sizes below it, which come from the largest down
unfoldable pub cover : ℕ → List ℕ → Mapping → List Entry
cover s [] m = paged s m
cover s (t ∷ ts) m = choose (congruent s m) (cover t ts (lower s m) ++ (paged s (middle s m) ++ cover t ts (upper s m))) (cover t ts m)

-- how many these are, without making them
unfoldable pub entry_count : ℕ → List ℕ → Mapping → ℕ
entry_count s [] m = m.size / s
entry_count s (t ∷ ts) m =
    choose (congruent s m) (entry_count t ts (lower s m) + ((middle s m).size / s + entry_count t ts (upper s m))) (entry_count t ts m)

abbrev pub entries : Mapping → List Entry
entries m = cover largest smaller m

-- ── the call ──

-- document 02: an entry is address, offset and size, three words
abbrev pub entry_words : Entry → List ℕ
entry_words e = e.address ∷ e.offset ∷ e.size ∷ []

-- from 0 to 2^48, nothing reserved
abbrev pub whole_space : Space
whole_space = space_of 0 limit 0 0

-- the mapping breaks its own rules; the slice, of n words, is too short for the whole list
unfoldable pub page_rows : Mapping → ℕ → List Row
page_rows m n = row 5 (mapping_tests whole_space m) ∷ row 16 (leb (3 * entry_count largest smaller m) n ∷ []) ∷ []

-- what the call answers, and every lent word after it
pub record PagesOutcome : Type 0 where
  pub answer : Reply ℕ
  pub words : List ℕ

-- a refusal changes nothing; else the entries are written, and words behind the last are as they were
abbrev pub pages_outcome : Reply ℕ → Mapping → List ℕ → PagesOutcome
pages_outcome (refused n p) m ws = record { answer = refused n p; words = ws }
pages_outcome (answered n) m ws = record { answer = answered n; words = flat_map entry_words (entries m) ++ drop (3 * n) ws }

-- the page entries of a mapping, for any input
unfoldable pub page_entries : Mapping → List ℕ → PagesOutcome
page_entries m ws = pages_outcome (decide (page_rows m (length ws)) (entry_count largest smaller m)) m ws
