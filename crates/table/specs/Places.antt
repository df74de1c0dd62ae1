-- A table as it is lent, and its mappings by their places.
-- Assumes nothing.
use Rattle.std.specs.Prelude.{◌≡◌, Bool, List, [], ◌∷◌, map, ℕ, suc, ◌+◌, ◌-◌, ◌*◌, ◌≤◌, ltb, length, drop}
use Rattle.model.specs.declared.Mapping.{Mapping}
use Rattle.model.specs.declared.Seen.{Seen}
use Rattle.model.specs.declared.Shown.TheVariants.{Object}
use Rattle.model.specs.declared.Space.{Space}
use Rattle.model.specs.Rows.{choose}
use Rattle.model.specs.Rules.{limit, end, apart}
use Rattle.model.specs.Lookups.{nothing}
use Rattle.model.specs.Table.{Table, mapping_from, mappings_in, bad_place}

-- a table in a lent slice of words
abbrev pub lent : List ℕ → ℕ → Table
lent ws count = record { words = ws; count = count }

-- the mapping at place i
unfoldable pub mapping_at : List ℕ → ℕ → Mapping
mapping_at ws i = mapping_from (4 * i) ws

-- the mappings from place lo up to hi
unfoldable pub between : List ℕ → ℕ → ℕ → List Mapping
between ws lo hi = drop lo (mappings_in hi ws)

-- the place of the first mapping that passes a test, or the number of mappings if none does
unfoldable pub first_where : (Mapping → Bool) → List Mapping → ℕ
first_where p [] = 0
first_where p (m ∷ ms) = choose (p m) 0 (suc (first_where p ms))

-- it starts, or ends, behind the byte address x
abbrev pub starts_behind : ℕ → Mapping → Bool
starts_behind x m = ltb x m.address

abbrev pub ends_behind : ℕ → Mapping → Bool
ends_behind x m = ltb x (end m)

-- what is seen at x by the first mapping that ends behind it
abbrev pub seen_by : Mapping → ℕ → Seen
seen_by m x = choose (ltb x m.address)
    (nothing (m.address - x))
    (record { shown = Object m.object (m.offset + (x - m.address)); bytes = end m - x })

-- each shares no byte with [from, to)
abbrev pub free_tests : ℕ → ℕ → List Mapping → List Bool
free_tests from to ms = map (λ m. apart m.address (end m) from to) ms

-- the space that has every other, with nothing reserved
abbrev pub widest : Space
widest = record { start = 0; size = limit; reserved = record { start = 0; size = 0 } }

-- a table that passed its check: its mappings keep their rules in some space
pub record Valid (ws : List ℕ) (count : ℕ) : Type 0 where
  pub held : 4 * count ≤ length ws
  pub space : Space
  pub top : space.start + space.size ≤ limit
  pub kept : bad_place space 0 (mappings_in count ws) ≡ count

-- in this space
abbrev pub ValidIn : Space → List ℕ → ℕ → Type 0
ValidIn s ws count = (v : Valid ws count) × (v.space ≡ s)

-- mappings that keep their rules in this space
abbrev pub KeptIn : Space → List Mapping → Type 0
KeptIn s ms = (s.start + s.size ≤ limit) × (bad_place s 0 ms ≡ length ms)
