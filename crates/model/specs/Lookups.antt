-- What a look-up tells of a byte address, what a driver uses that for, and a walk over a space from one answer's end to
-- the next.
use Rattle.std.specs.Prelude.{◌≡◌, ◌⊎◌, List, [], ◌∷◌, ◌++◌, ℕ, zero, suc, ◌+◌, ◌-◌, ◌*◌, ◌≤◌, ◌<◌, length}
use Rattle.model.specs.Prelude.{Range, Space, Mapping, Shown, Nothing, Sparse, Object, Seen}
use Rattle.model.specs.Calls.{Reply, refused, answered, end, mappings, ranges, range_end, Lent, lookup}
use Rattle.model.specs.Exactly.{◌∈◌}

-- the mapping has the byte address x; none of the mappings has it
abbrev pub Has : Mapping → ℕ → Type 0
Has m x = (m.address ≤ x) × (x < end m)

abbrev pub Free : List Mapping → ℕ → Type 0
Free ms x = (m : Mapping) → m ∈ ms → Has m x → ⊥

-- so with sparse ranges
abbrev pub InRange : Range → ℕ → Type 0
InRange y x = (y.start ≤ x) × (x < range_end y)

abbrev pub NoRange : List Range → ℕ → Type 0
NoRange ys x = (y : Range) → y ∈ ys → InRange y x → ⊥

-- where an answer off mappings may end: at a mapping's address, an edge of a range, the space's end
pub data Edge (s : Space) (ys : List Range) (ms : List Mapping) (e : ℕ) : Type 0 where
  of_mapping : (m : Mapping) → m ∈ ms → e ≡ m.address → Edge s ys ms e
  of_start : (y : Range) → y ∈ ys → e ≡ y.start → Edge s ys ms e
  of_end : (y : Range) → y ∈ ys → e ≡ range_end y → Edge s ys ms e
  of_space : e ≡ s.start + s.size → Edge s ys ms e

-- e is the next edge behind x
pub record Next (s : Space) (ys : List Range) (ms : List Mapping) (x e : ℕ) : Type 0 where
  pub edge : Edge s ys ms e
  pub behind : x < e
  pub nearest : (f : ℕ) → Edge s ys ms f → x < f → e ≤ f

abbrev pub InSpace : Space → ℕ → Type 0
InSpace s x = (s.start ≤ x) × (x < s.start + s.size)

-- nothing, for n bytes
abbrev pub nothing : ℕ → Seen
nothing n = record { shown = Nothing; bytes = n }

-- v is what mappings and ranges show at x and how far, case by case
pub record Tells (s : Space) (ys : List Range) (ms : List Mapping) (x : ℕ) (v : Seen) : Type 0 where
  -- document 01, Look-up: inside a mapping, its object at offset + (byte address - mapping address); document 02: to
  -- the mapping's end
  pub mapped : (m : Mapping) → m ∈ ms → Has m x
      → v ≡ record { shown = Object m.object (m.offset + (x - m.address)); bytes = end m - x }
  -- off mappings to the next edge: sparse in a range, nothing elsewhere
  pub sparse : InSpace s x → Free ms x → (y : Range) → y ∈ ys → InRange y x → (e : ℕ) → Next s ys ms x e
      → v ≡ record { shown = Sparse; bytes = e - x }
  pub bare : InSpace s x → Free ms x → NoRange ys x → (e : ℕ) → Next s ys ms x e → v ≡ nothing (e - x)
  pub outside : (InSpace s x → ⊥) → v ≡ nothing 0
  -- inside the space there is a next edge, so that these are all cases
  pub next : InSpace s x → (e : ℕ) × Next s ys ms x e

-- what the byte address y bytes on shows, where the answer goes on in the same way
abbrev pub along : ℕ → Shown → Shown
along y Nothing = Nothing
along y Sparse = Sparse
along y (Object o f) = Object o (f + y)

-- the mapping has one of two bytes and not the other
abbrev pub Parts : Mapping → ℕ → ℕ → Type 0
Parts m x y = (Has m x × (Has m y → ⊥)) ⊎ ((Has m x → ⊥) × Has m y)

abbrev pub RangeParts : Range → ℕ → ℕ → Type 0
RangeParts z x y = (InRange z x × (InRange z y → ⊥)) ⊎ ((InRange z x → ⊥) × InRange z y)

-- what a driver uses v for, which a look-up answered at x
pub record GoesOn (s : Space) (l : Lent) (x : ℕ) (v : Seen) : Type 0 where
  -- each byte within the distance shows the same object with its offset moved along, or sparse, or nothing, for the
  -- rest of it
  pub same : (y : ℕ) → y < v.bytes
      → lookup s l (x + y) ≡ answered (record { shown = along y v.shown; bytes = v.bytes - y })
  -- inside the space it is at least 1, and does not pass the space's end
  pub some : InSpace s x → (1 ≤ v.bytes) × (x + v.bytes ≤ s.start + s.size)
  -- the first byte behind is the space's end, or some mapping or range has one of the two bytes and not the other
  pub stops : InSpace s x
      → (x + v.bytes ≡ s.start + s.size) ⊎ (((m : Mapping) × m ∈ mappings l.table × Parts m x (x + v.bytes))
      ⊎ ((y : Range) × y ∈ ranges l.ranges × RangeParts y x (x + v.bytes)))

abbrev pub Lookup : Type 0
Lookup = (s : Space) (l : Lent) (x : ℕ) (v : Seen) → lookup s l x ≡ answered v
    → Tells s (ranges l.ranges) (mappings l.table) x v × GoesOn s l x v

-- ── a walk ──

-- what a look-up at x answered, as a mapping of that address and so many bytes; sparse or nothing is none
abbrev pub run_from : ℕ → Shown → ℕ → List Mapping
run_from x Nothing n = []
run_from x Sparse n = []
run_from x (Object o f) n = record { address = x; size = n; object = o; offset = f } ∷ []

abbrev pub answered_run : ℕ → Reply Seen → List Mapping
answered_run x (refused n p) = []
answered_run x (answered v) = run_from x v.shown v.bytes

-- where its answer ends
abbrev pub answer_end : ℕ → Reply Seen → ℕ
answer_end x (refused n p) = x
answer_end x (answered v) = x + v.bytes

-- n look-ups from x on, each where the answer before it ends: the mappings seen, and the address they come to
unfoldable pub walk : ℕ → (ℕ → Reply Seen) → ℕ → List Mapping
walk zero look x = []
walk (suc n) look x = answered_run x (look x) ++ walk n look (answer_end x (look x))

unfoldable pub walk_end : ℕ → (ℕ → Reply Seen) → ℕ → ℕ
walk_end zero look x = x
walk_end (suc n) look x = walk_end n look (answer_end x (look x))

-- where look-ups are answered, a walk over the space sees every mapping once, whole and in order, and comes to the
-- space's end: two look-ups for each mapping and range and one more are enough
abbrev pub Walk : Type 0
Walk = (s : Space) (l : Lent) (x n : ℕ) (v : Seen) → lookup s l x ≡ answered v
    → 2 * (length (mappings l.table) + length (ranges l.ranges)) + 1 ≤ n
    → (walk n (lookup s l) s.start ≡ mappings l.table) × (walk_end n (lookup s l) s.start ≡ s.start + s.size)
