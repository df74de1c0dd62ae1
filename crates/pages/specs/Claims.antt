-- What is claimed of page entries (document 02, Item 12): first for any sizes of which each divides the next larger one,
-- then of the call, with the three.
use Rattle.std.specs.Prelude.{◌≡◌, ◌⊎◌, ◌↔◌, List, [], ◌∷◌, ◌++◌, map, ℕ, zero, suc, ◌+◌, ◌-◌, ◌*◌, ◌/◌, ◌%◌, ◌^◌, ◌≤◌, ◌<◌, length, get_or, drop}
use Rattle.model.specs.Calls.{Reply, refused, answered, all, choose, end, space_of}
use Rattle.model.specs.Cut.{inside_tests, translate}
use Rattle.model.specs.Exactly.{Each, ◌∈◌, Ascends, MappingRules, RefusalTable, line, otherwise, Gives, refusal, Pinned}
use Rattle.pages.specs.Prelude.{Mapping, Shown, Entry}
use Rattle.pages.specs.Pages.{part, cover, entry_count, page_entries, entries}

-- an entry as a mapping of m's object
abbrev pub mapping_of : Mapping → Entry → Mapping
mapping_of m e = record { address = e.address; size = e.size; object = m.object; offset = e.offset }

-- how many mappings have the byte x
unfoldable pub holders : ℕ → List Mapping → ℕ
holders x [] = 0
holders x (m ∷ ms) = choose (all (inside_tests m x)) 1 0 + holders x ms

-- es is a list of page entries for m in these sizes
pub record Covers (sizes : List ℕ) (m : Mapping) (es : List Entry) : Type 0 where
  -- an entry's address and offset are both multiples of its size
  pub multiples : Each (λ e. (e.address % e.size ≡ 0) × (e.offset % e.size ≡ 0)) es
  pub one_size : Each (λ e. e.size ∈ sizes) es
  pub ascends : Ascends (map (mapping_of m) es)
  -- each byte is covered once, and none outside
  pub once : (x : ℕ) → m.address ≤ x → x < end m → holders x (map (mapping_of m) es) ≡ 1
  pub outside : (x : ℕ) → (x < m.address) ⊎ (end m ≤ x) → holders x (map (mapping_of m) es) ≡ 0
  -- every translation is kept, whatever is shown off mappings
  pub translations : (off : Shown) (x : ℕ) → translate off (map (mapping_of m) es) x ≡ translate off (m ∷ []) x

-- sizes from the largest down: none is 0, and each divides the one before it; the last
abbrev pub Ladder : ℕ → List ℕ → Type 0
Ladder s [] = 0 < s
Ladder s (t ∷ ts) = (0 < s) × (s % t ≡ 0) × Ladder t ts

abbrev pub least : ℕ → List ℕ → ℕ
least s [] = s
least s (t ∷ ts) = least t ts

pub record AnyLadder : Type 0 where
  -- a mapping in pages of the least size, be it empty: the list is one for it
  pub covers : (s : ℕ) (ts : List ℕ) (m : Mapping) → Ladder s ts
      → Each (λ x. x % least s ts ≡ 0) (m.address ∷ m.size ∷ m.offset ∷ []) → Covers (s ∷ ts) m (cover s ts m)
  -- and no such list is shorter
  pub fewest : (s : ℕ) (ts : List ℕ) (m : Mapping) (es : List Entry) → Ladder s ts → Covers (s ∷ ts) m es
      → length (cover s ts m) ≤ length es
  pub counts : (s : ℕ) (ts : List ℕ) (m : Mapping) → entry_count s ts m ≡ length (cover s ts m)

-- e is a page of m in these sizes: inside its range, and it shows what m shows there
pub record PageIn (sizes : List ℕ) (m : Mapping) (e : Entry) : Type 0 where
  pub multiples : (e.address % e.size ≡ 0) × (e.offset % e.size ≡ 0)
  pub one_size : e.size ∈ sizes
  pub inside : (m.address ≤ e.address) × (e.address + e.size ≤ end m)
  pub shows : e.offset ≡ m.offset + (e.address - m.address)

-- which pages the list has, and what a driver may go by where it cuts a mapping
pub record WhichPages : Type 0 where
  -- exactly those that are in no larger page of the mapping
  pub largest : (s : ℕ) (ts : List ℕ) (m : Mapping) (e : Entry) → Ladder s ts
      → Each (λ x. x % least s ts ≡ 0) (m.address ∷ m.size ∷ m.offset ∷ [])
      → (e ∈ cover s ts m) ↔ (PageIn (s ∷ ts) m e × ((d : Entry) → PageIn (s ∷ ts) m d → d.address ≤ e.address
      → e.address + e.size ≤ d.address + d.size → d.size ≤ e.size))
  -- an entry that is inside a part of the mapping is in that part's list too
  pub stays : (s : ℕ) (ts : List ℕ) (m : Mapping) (a b : ℕ) (e : Entry) → Ladder s ts
      → Each (λ x. x % least s ts ≡ 0) (m.address ∷ m.size ∷ m.offset ∷ a ∷ b ∷ [])
      → m.address ≤ a → b ≤ end m → e ∈ cover s ts m → a ≤ e.address → e.address + e.size ≤ b → e ∈ cover s ts (part a b m)
  -- cut at a boundary of each size by whose multiples address and offset differ: the list of what is below it, and behind
  -- that the list of what is above it
  pub in_parts : (s : ℕ) (ts : List ℕ) (m : Mapping) (b : ℕ) → Ladder s ts
      → Each (λ x. x % least s ts ≡ 0) (m.address ∷ m.size ∷ m.offset ∷ [])
      → m.address ≤ b → b ≤ end m → Each (λ z. m.address % z ≡ m.offset % z → b % z ≡ 0) (s ∷ ts)
      → cover s ts m ≡ cover s ts (part m.address b m) ++ cover s ts (part b (end m) m)

-- ── the call ──

abbrev pub page_sizes : List ℕ
page_sizes = 1073741824 ∷ 2097152 ∷ 4096 ∷ []

-- the first n entries in any words: address, offset, size
abbrev pub entry_from : List ℕ → Entry
entry_from ws = record { address = get_or ws 0 0; offset = get_or ws 1 0; size = get_or ws 2 0 }

unfoldable pub entries_in : ℕ → List ℕ → List Entry
entries_in zero ws = []
entries_in (suc n) ws = entry_from ws ∷ entries_in n (drop 3 ws)

-- 5, 16, with a slice of n words
abbrev pub page_refusals : Mapping → ℕ → RefusalTable (Reply ℕ)
page_refusals m n =
    line (refusal 5) (MappingRules (space_of 0 (2 ^ 48) 0 0) m)
    (line (refusal 16) (3 * length (entries m) ≤ n) (otherwise (answered (length (entries m)))))

-- n entries were listed: the words `left` hold a list for m, and no such list is shorter; behind it they are as they came
pub record Lists (m : Mapping) (came : List ℕ) (n : ℕ) (left : List ℕ) : Type 0 where
  pub covers : Covers page_sizes m (entries_in n left)
  pub fewest : (es : List Entry) → Covers page_sizes m es → n ≤ length es
  pub behind : drop (3 * n) left ≡ drop (3 * n) came
  pub same_length : length left ≡ length came

pub record LargePages : Type 0 where
  pub exactly : (m : Mapping) (ws : List ℕ) (a : Reply ℕ) → ((page_entries m ws).answer ≡ a) ↔ Gives (page_refusals m (length ws)) a
  pub unchanged : (m : Mapping) (ws : List ℕ) (n p : ℕ) → (page_entries m ws).answer ≡ refused n p → (page_entries m ws).words ≡ ws
  pub lists : (m : Mapping) (ws : List ℕ) (n : ℕ) → (page_entries m ws).answer ≡ answered n → Lists m ws n (page_entries m ws).words
  -- 16: no such list fits. With three words for each page of 4 KiB it is never given
  pub short : (m : Mapping) (ws : List ℕ) → (page_entries m ws).answer ≡ refusal 16
      → (es : List Entry) → Covers page_sizes m es → length ws < 3 * length es
  pub enough : (m : Mapping) (ws : List ℕ) → 3 * (m.size / 4096) ≤ length ws → (page_entries m ws).answer ≡ refusal 16 → ⊥
  -- no two values of the answer read alike
  pub pinned : Pinned ℕ
