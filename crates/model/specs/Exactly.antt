-- The papers' rules in words; their numbers are written out, but for the most mappings of a table. A call gives a
-- line's answer exactly if its rule is broken and no line's above it.
use Rattle.std.specs.Prelude.{◌≡◌, ◌⊎◌, ◌↔◌, List, [], ◌∷◌, ℕ, suc, ◌+◌, ◌*◌, ◌/◌, ◌%◌, ◌^◌, ◌≤◌, ◌<◌, pos, ◌-ℤ◌, length, get_or, take, replicate, Result}
use mathlib.Core.List.{flat_map, Memᴰ as Member}
use Rattle.model.specs.Prelude.{Range, Space, Mapping}
use Rattle.model.specs.Prelude.{Request, Seen, Grant}
use Rattle.model.specs.Calls.{Reply, refused, answered, most_mappings, end, stop, request_of, record_of, Table}
use Rattle.model.specs.Calls.{mappings, written, bad_place, RangeList, ranges, range_end, list_written, operations}
use Rattle.model.specs.Calls.{old, rests, Asking, numbers, bytes, asked, Lent, range_of, purpose, grant_for, bind}
use Rattle.model.specs.Calls.{see_in, lookup, check_request, reply_of}
use Rattle.model.specs.declared.Refusal.{Refusal}

infix 40 ◌∈◌ ◌⊆◌
abbrev pub Each : {A : Type 0} → (A → Type 0) → List A → Type 0
Each P [] = Unit {0}
Each P (x ∷ xs) = P x × Each P xs

abbrev pub ◌∈◌ : {A : Type 0} → A → List A → Type 0
◌∈◌ x xs = Member x xs

abbrev pub ◌⊆◌ : {A : Type 0} → List A → List A → Type 0
◌⊆◌ xs ys = Each (λ x. x ∈ ys) xs

-- each is related to those behind it
abbrev pub Ordered : {A : Type 0} → (A → A → Type 0) → List A → Type 0
Ordered R [] = Unit {0}
Ordered R (x ∷ xs) = Each (R x) xs × Ordered R xs

abbrev pub Multiple : ℕ → Type 0
Multiple x = x % 4096 ≡ 0

-- [a, b) lies inside [c, d); they share a byte
abbrev pub Inside : ℕ → ℕ → ℕ → ℕ → Type 0
Inside a b c d = (c ≤ a) × (b ≤ d)

abbrev pub ShareByte : ℕ → ℕ → ℕ → ℕ → Type 0
ShareByte a b c d = (x : ℕ) × (a ≤ x) × (x < b) × (c ≤ x) × (x < d)

pub record SpaceRules (s : Space) : Type 0 where
  pub multiples : Multiple s.start × Multiple s.size × Multiple s.reserved.start × Multiple s.reserved.size
  pub size_least : 4096 ≤ s.size
  pub end_most : s.start + s.size ≤ 2 ^ 48
  pub no_reservation : s.reserved.size ≡ 0 → s.reserved.start ≡ 0
  pub reservation : 0 < s.reserved.size → Inside s.reserved.start (s.reserved.start + s.reserved.size) s.start (s.start + s.size)

pub record MappingRules (s : Space) (m : Mapping) : Type 0 where
  pub multiples : Multiple m.address × Multiple m.size × Multiple m.offset
  pub size_least : 4096 ≤ m.size
  pub object_range : (1 ≤ m.object) × (m.object < 2 ^ 32)
  pub offset_end_most : m.offset + m.size ≤ 2 ^ 48
  pub within : Inside m.address (end m) s.start (s.start + s.size)
  pub unreserved : ShareByte m.address (end m) s.reserved.start (s.reserved.start + s.reserved.size) → ⊥

-- each mapping ends at or before the next one's address
abbrev pub Ascends : List Mapping → Type 0
Ascends ms = Ordered (λ m n. end m ≤ n.address) ms

abbrev pub TableRules : Space → List Mapping → Type 0
TableRules s ms = Each (MappingRules s) ms × Ascends ms

-- document 02: a sparse range; a list of them, in words of even length up to 128 with a count that they can hold: each
-- ends at or before the next one's start, and every word behind the last is zero
pub record RangeRules (s : Space) (x : Range) : Type 0 where
  pub multiples : Multiple x.start × Multiple x.size
  pub not_empty : 0 < x.size
  pub within : Inside x.start (range_end x) s.start (s.start + s.size)
  pub unreserved : ShareByte x.start (range_end x) s.reserved.start (s.reserved.start + s.reserved.size) → ⊥

pub record ListRules (s : Space) (l : RangeList) : Type 0 where
  pub even : length l.words % 2 ≡ 0
  pub length_most : length l.words ≤ 128
  pub held : l.count ≤ length l.words / 2
  pub each_range : Each (RangeRules s) (ranges l)
  pub ascends : Ordered (λ x y. range_end x ≤ y.start) (ranges l)
  pub zeros : (i : ℕ) → 2 * l.count ≤ i → i < length l.words → get_or l.words i 0 ≡ 0

-- document 02: the objects agree, and the displacements, the offset less the address, which may be below zero
abbrev pub Agree : Mapping → Mapping → Type 0
Agree m n = (m.object ≡ n.object) × (pos m.offset -ℤ pos m.address ≡ pos n.offset -ℤ pos n.address)

-- a refusal table: lines from the top, each with its answer and its rule, and the answer where every rule is kept
pub data RefusalTable (A : Type 0) : Type 1 where
  line : A → Type 0 → RefusalTable A → RefusalTable A
  otherwise : A → RefusalTable A

-- the table's answer: the first line's whose rule is broken
abbrev pub Gives : {A : Type 0} → RefusalTable A → A → Type 0
Gives (line n Rule rest) a = ((Rule → ⊥) × (a ≡ n)) ⊎ (Rule × Gives rest a)
Gives (otherwise n) a = a ≡ n

-- 13 and 14; 6 to 10. `refuse` is how the call answers a number, `Served` which flags it lets through: none, or 256
-- too; a request with that flag has no object and no offset
abbrev pub form_lines : {A : Type 0} → (ℕ → A) → (ℕ → Type 0) → Request → RefusalTable A → RefusalTable A
form_lines refuse Served r rest = line (refuse 13) (r.op < 2) (line (refuse 14) (Served r.flags × (r.pad ≡ 0)) rest)

abbrev pub NoFlag : ℕ → Type 0
NoFlag flags = flags ≡ 0

abbrev pub SparseToo : ℕ → Type 0
SparseToo flags = (flags ≡ 0) ⊎ (flags ≡ 256)

abbrev pub NoObject : Request → Type 0
NoObject r = (r.object ≡ 0) × (r.offset ≡ 0)

abbrev pub request_lines : {A : Type 0} → (ℕ → A) → Space → Request → RefusalTable A → RefusalTable A
request_lines refuse s r rest =
    line (refuse 6) (Multiple r.address × Multiple r.size × Multiple r.offset × (0 < r.size))
    (line (refuse 7) (Inside r.address (stop r) s.start (s.start + s.size))
    (line (refuse 8) (ShareByte r.address (stop r) s.reserved.start (s.reserved.start + s.reserved.size) → ⊥)
    (line (refuse 9) ((r.op ≡ 0 → r.flags ≡ 0 → (1 ≤ r.object) × (r.object < 2 ^ 32)) × (r.op ≡ 1 → NoObject r) × (r.flags ≡ 256 → NoObject r))
    (line (refuse 10) (r.op ≡ 0 → r.offset + r.size ≤ 2 ^ 48) rest))))

abbrev pub check_refusals : List ℕ → Space → RefusalTable ℕ
check_refusals bs s =
    line 12 (length bs ≡ 40) (form_lines (λ n. n) SparseToo (request_of bs) (line 1 (SpaceRules s) (request_lines (λ n. n) s (request_of bs) (otherwise 0))))

-- a refusal at place 0
abbrev pub refusal : {A : Type 0} → ℕ → Reply A
refusal n = refused n 0

-- a request without the sparse flag
abbrev pub Unflagged : Request → Type 0
Unflagged r = r.flags ≡ 256 → ⊥

-- number 12: a record is 40 bytes long
abbrev pub WellFormed : Asking → Type 0
WellFormed (numbers op address size object offset) = Unit {0}
WellFormed (bytes bs) = length bs ≡ 40

-- document 02: every word behind the last mapping is zero
abbrev pub ZerosBehind : Table → Type 0
ZerosBehind t = (i : ℕ) → 4 * t.count ≤ i → i < length t.words → get_or t.words i 0 ≡ 0

-- 1, 2, what the call has between, 4, 5, 17: the lines of every call on a table
abbrev pub content_lines : {A : Type 0} → Space → Table → RefusalTable (Reply A) → RefusalTable (Reply A)
content_lines s t rest =
    line (refusal 4) (t.count ≤ length t.words / 4)
    (line (refused 5 (bad_place s 0 (mappings t))) (TableRules s (mappings t))
    (line (refusal 17) (ZerosBehind t) rest))

abbrev pub table_lines : {A : Type 0} → Space → (RefusalTable (Reply A) → RefusalTable (Reply A)) → Table
    → RefusalTable (Reply A) → RefusalTable (Reply A)
table_lines s between t rest =
    line (refusal 1) (SpaceRules s)
    (line (refusal 2) ((0 < length t.words) × (length t.words % 4 ≡ 0) × (length t.words ≤ 4 * most_mappings))
    (between (content_lines s t rest)))

-- and 18: the lines of every call on what is lent
abbrev pub lent_lines : {A : Type 0} → Space → (RefusalTable (Reply A) → RefusalTable (Reply A)) → Lent
    → RefusalTable (Reply A) → RefusalTable (Reply A)
lent_lines s between l rest = table_lines s between l.table (line (refusal 18) (ListRules s l.ranges) rest)

-- 3, with n words lent for operations
abbrev pub operations_line : {A : Type 0} → ℕ → Table → RefusalTable (Reply A) → RefusalTable (Reply A)
operations_line n t rest = line (refusal 3) ((length t.words / 4 + 1) * 14 ≤ n) rest

-- 11: count - hit + lower rests + upper rests + (1 for a map) is within capacity, the mappings being ms
pub record RoomRule (r : Request) (capacity : ℕ) (ms : List Mapping) : Type 0 where
  pub for_map : r.op ≡ 0 → length ms + length (flat_map rests (operations r ms)) + 1 ≤ capacity + length (flat_map old (operations r ms))
  pub for_unmap : r.op ≡ 1 → length ms + length (flat_map rests (operations r ms)) ≤ capacity + length (flat_map old (operations r ms))

-- 19: a map with the flag shares no byte with a range. 20: an unmap with the flag names a range, exactly, and no mapping
-- shares a byte with it. 11: the table has room, for a request without the flag; the list, for a map with it
abbrev pub OverlapRule : Request → Lent → Type 0
OverlapRule r l = r.flags ≡ 256 → r.op ≡ 0
    → Each (λ x. ShareByte x.start (range_end x) r.address (stop r) → ⊥) (ranges l.ranges)

abbrev pub RemovalRule : Request → Lent → Type 0
RemovalRule r l = r.flags ≡ 256 → r.op ≡ 1
    → (range_of r ∈ ranges l.ranges) × Each (λ m. ShareByte m.address (end m) r.address (stop r) → ⊥) (mappings l.table)

abbrev pub RoomRules : Request → Lent → Type 0
RoomRules r l = (r.flags ≡ 0 → RoomRule r (length l.table.words / 4) (mappings l.table))
    × (r.flags ≡ 256 → r.op ≡ 0 → l.ranges.count < length l.ranges.words / 2)

abbrev pub last_lines : {A : Type 0} → Request → Lent → RefusalTable (Reply A) → RefusalTable (Reply A)
last_lines r l rest = line (refusal 19) (OverlapRule r l) (line (refusal 20) (RemovalRule r l) (line (refusal 11) (RoomRules r l) rest))

abbrev pub bind_refusals : Space → Lent → ℕ → Asking → RefusalTable (Reply Grant)
bind_refusals s l n q =
    line (refusal 12) (WellFormed q)
    (form_lines refusal SparseToo (asked q)
    (lent_lines s (operations_line n l.table) l
    (request_lines refusal s (asked q)
    (last_lines (asked q) l
    (otherwise (answered (grant_for (purpose (asked q)) (asked q) l)))))))

abbrev pub lookup_refusals : Space → Lent → ℕ → RefusalTable (Reply Seen)
lookup_refusals s l x = lent_lines s (λ rest. rest) l (otherwise (answered (see_in s l x)))

-- an answer is a exactly if the table gives a
pub record Exactly : Type 0 where
  pub of_check : (bs : List ℕ) (s : Space) (n : ℕ) → (check_request bs s ≡ n) ↔ Gives (check_refusals bs s) n
  pub of_bind : (s : Space) (l : Lent) (os : List ℕ) (q : Asking) (a : Reply Grant) → ((bind s l os q).answer ≡ a) ↔ Gives (bind_refusals s l (length os) q) a
  pub of_lookup : (s : Space) (l : Lent) (x : ℕ) (a : Reply Seen) → (lookup s l x ≡ a) ↔ Gives (lookup_refusals s l x) a
  -- the place of number 5 is the lowest: the mappings before it keep the rules, and with it no more
  pub lowest : (s : Space) (ms : List Mapping) (p : ℕ) → (TableRules s ms → ⊥) → bad_place s 0 ms ≡ p
      → (p < length ms) × TableRules s (take p ms) × (TableRules s (take (suc p) ms) → ⊥)
  -- a refusal changes no lent word
  pub unchanged : (s : Space) (l : Lent) (os : List ℕ) (q : Asking) (n p : ℕ) → (bind s l os q).answer ≡ refused n p
      → ((bind s l os q).table ≡ l.table.words) × ((bind s l os q).ranges ≡ l.ranges.words) × ((bind s l os q).operations ≡ os)
  pub lookup_only : (s : Space) (l : Lent) (x n p : ℕ) → lookup s l x ≡ refused n p → n ∈ (1 ∷ 2 ∷ 4 ∷ 5 ∷ 17 ∷ 18 ∷ [])

-- a call takes what is lent: a look-up in it is answered, or a request on it granted
pub data Taken (l : Lent) : Type 0 where
  seen : (s : Space) (x : ℕ) (v : Seen) → lookup s l x ≡ answered v → Taken l
  granted : (s : Space) (os : List ℕ) (q : Asking) (g : Grant) → (bind s l os q).answer ≡ answered g → Taken l

-- document 02: what 17 is for, and the zeros behind a list. A table that is taken has its mappings and zeros behind
-- them, to the last word; an empty one is zeros; and its words are taken with this count alone, so that no half of a
-- table is served. So it is with a list
pub record Whole {A : Type 0} (words : List ℕ) (count : ℕ) (held : List A) (write : ℕ → List A → List ℕ) : Type 0 where
  pub all : words ≡ write (length words) held
  pub empty : count ≡ 0 → words ≡ replicate (length words) 0

pub record TakesWhole : Type 0 where
  pub table : (l : Lent) → Taken l → Whole l.table.words l.table.count (mappings l.table) written
  pub list : (l : Lent) → Taken l → Whole l.ranges.words l.ranges.count (ranges l.ranges) list_written
  pub one_table : (l k : Lent) → Taken l → Taken k → l.table.words ≡ k.table.words → l.table.count ≡ k.table.count
  pub one_list : (l k : Lent) → Taken l → Taken k → l.ranges.words ≡ k.ranges.words → l.ranges.count ≡ k.ranges.count

-- what comes is what was asked: a request whose numbers fit a record's fields as 40 bytes; one whose flags and pad are
-- 0 by numbers
abbrev pub ReadsBack : Type 0
ReadsBack = (r : Request) → (Each (λ x. x < 2 ^ 32) (r.op ∷ r.flags ∷ r.object ∷ r.pad ∷ [])
    → Each (λ x. x < 2 ^ 64) (r.address ∷ r.offset ∷ r.size ∷ []) → (length (record_of r) ≡ 40) × (asked (bytes (record_of r)) ≡ r))
    × (r.flags ≡ 0 → r.pad ≡ 0 → asked (numbers r.op r.address r.size r.object r.offset) ≡ r)

-- the places of the fields, and the order of their bytes
abbrev pub RecordLayout : Type 0
RecordLayout =
    request_of (1 ∷ 2 ∷ 3 ∷ 4 ∷ 5 ∷ 6 ∷ 7 ∷ 8 ∷ 9 ∷ 10 ∷ 11 ∷ 12 ∷ 13 ∷ 14 ∷ 15 ∷ 16 ∷ 17 ∷ 18 ∷ 19 ∷ 20 ∷ 21 ∷ 22 ∷ 23 ∷ 24 ∷ 25 ∷ 26 ∷ 27 ∷ 28 ∷ 29 ∷ 30 ∷ 31 ∷ 32 ∷ 33 ∷ 34 ∷ 35 ∷ 36 ∷ 37 ∷ 38 ∷ 39 ∷ 40 ∷ [])
    ≡ record { op = 67305985; flags = 134678021; object = 202050057; pad = 269422093; address = 1735880461161533969; offset = 2314601843866147353; size = 2893323226570760737 }

-- no two values of an answer read alike, so that a promise about the reading pins the value
abbrev pub Pins : {A B : Type 0} → (A → B) → Type 0
Pins {A} read = (a b : A) → read a ≡ read b → a ≡ b

abbrev pub Pinned : (A : Type 0) → Type 0
Pinned A = Pins {A = Result A Refusal} {B = Reply A} reply_of
