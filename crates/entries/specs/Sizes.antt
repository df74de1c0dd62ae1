-- The sizes of a page, as the code goes down them, and what it writes.
-- Assumes nothing.
use Rattle.std.specs.Prelude.{◌≡◌, ℕ, ◌+◌, ◌*◌, ◌/◌, ◌≤◌, ltb, length, Option, None, Some}
use mathlib.Core.List.{List, [], ◌∷◌, ◌++◌, flat_map}
use Rattle.model.specs.declared.Mapping.{Mapping}
use Rattle.model.specs.Rows.{choose}
use Rattle.model.specs.Rules.{limit, end}
use Rattle.model.specs.Exactly.{Multiple}
use Rattle.pages.specs.declared.Entry.{Entry}
use Rattle.pages.specs.Pages.{middle, congruent, paged, cover, entry_count, entry_words}
use Rattle.words.specs.Words.{stored}
use Rattle.entries.specs.declared.PageSize.{PageSize}
use Rattle.entries.specs.declared.PageSize.TheVariants.{Page4K, Page2M, Page1G}

abbrev pub bytes_of : PageSize → ℕ
bytes_of Page4K = 4096
bytes_of Page2M = 2097152
bytes_of Page1G = 1073741824

-- the largest size that is no larger than so many bytes; 4 KiB where none is
abbrev pub largest_in : ℕ → PageSize
largest_in bytes = choose (ltb bytes 2097152) Page4K (choose (ltb bytes 1073741824) Page2M Page1G)

-- the next smaller size, and all smaller ones
abbrev pub size_below : PageSize → Option PageSize
size_below Page4K = None
size_below Page2M = Some Page4K
size_below Page1G = Some Page2M

abbrev pub sizes_below : PageSize → List ℕ
sizes_below Page4K = []
sizes_below Page2M = 4096 ∷ []
sizes_below Page1G = 2097152 ∷ 4096 ∷ []

-- the entries of a mapping in pages of this size and of those below it, and their number
unfoldable pub cover_to : PageSize → Mapping → List Entry
cover_to s m = cover (bytes_of s) (sizes_below s) m

unfoldable pub count_to : PageSize → Mapping → ℕ
count_to s m = entry_count (bytes_of s) (sizes_below s) m

-- the whole pages of this size
unfoldable pub whole_pages : PageSize → Mapping → ℕ
whole_pages s m = choose (congruent (bytes_of s) m) ((middle (bytes_of s) m).size / bytes_of s) 0

-- a mapping in whole pages of 4 KiB, such as have entries; no sum in it wraps
pub record Listable (m : Mapping) : Type 0 where
  pub end_most : end m ≤ limit
  pub offset_most : m.offset + m.size ≤ limit
  pub multiples : Multiple m.address × Multiple m.size × Multiple m.offset

-- [a, b) is a part of the mapping, in whole pages of 4 KiB
pub record Within (m : Mapping) (a b : ℕ) : Type 0 where
  pub low : m.address ≤ a
  pub between : a ≤ b
  pub high : b ≤ end m
  pub multiples : Multiple a × Multiple b

-- the three pieces of a mapping, the middle one in pages of size s, the others in those of t and below it, have its entries
pub record Pieces (s t : PageSize) (m p q r : Mapping) : Type 0 where
  pub entries : cover_to t p ++ (paged (bytes_of s) q ++ cover_to t r) ≡ cover_to s m
  pub number : length (cover_to t p) + (length (paged (bytes_of s) q) + length (cover_to t r)) ≡ length (cover_to s m)

-- the entries were written from `place` on, and `behind` is the place behind them
pub record Wrote (before after : List ℕ) (place behind : ℕ) (es : List Entry) : Type 0 where
  pub words : after ≡ stored before place (flat_map entry_words es)
  pub last : behind ≡ place + 3 * length es
