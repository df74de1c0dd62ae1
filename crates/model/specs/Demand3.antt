-- Demand 3: a request in pieces, and a series of calls for them (document 01: A request in pieces).
use Rattle.std.specs.Prelude.{◌≡◌, ◌⊎◌, List, [], ◌∷◌, ◌++◌, map, ℕ, zero, suc, ◌+◌, ◌-◌, ◌≤◌, ◌<◌, length}
use Rattle.model.specs.Prelude.{Space, Mapping, Request, Grant}
use Rattle.model.specs.Calls.{Reply, answered, stop, Table, written, mapping_of, Asking, asked, Lent, bind, lent_after}
use Rattle.model.specs.Exactly.{Each, ◌∈◌, ◌⊆◌, Ordered, Multiple, Inside, Unflagged, WellFormed, refusal}

-- document 01: Pieces. A map piece's offset moves along; an unmap piece's is the request's own
abbrev pub piece_offset : ℕ → Request → ℕ → ℕ
piece_offset zero r x = r.offset + (x - r.address)
piece_offset (suc n) r x = r.offset

-- the part [x, y) of a request
abbrev pub piece : Request → ℕ → ℕ → Request
piece r x y =
    record { op = r.op; flags = r.flags; object = r.object; pad = r.pad; address = x; offset = piece_offset r.op r x; size = y - x }

-- ps are pieces of r, in any order; a request of size 0 has none. Numbers are not bounded: a piece with one that 64
-- bits can't hold is covered, no code can ask it
pub record Pieces (r : Request) (ps : List Request) : Type 0 where
  pub one_or_more : 0 < length ps
  pub not_empty : (p : Request) → p ∈ ps → 0 < p.size
  pub part : (p : Request) → p ∈ ps → p ≡ piece r p.address (stop p)
  pub apart : Ordered (λ p q. (stop p ≤ q.address) ⊎ (stop q ≤ p.address)) ps
  pub inside : (p : Request) → p ∈ ps → Inside p.address (stop p) r.address (stop r)
  pub whole : (x : ℕ) → r.address ≤ x → x < stop r → (p : Request) × p ∈ ps × (p.address ≤ x) × (x < stop p)
  pub meet : (p q : Request) → p ∈ ps → q ∈ ps → stop p ≡ q.address → Multiple q.address

-- document 01: Series. `next` is what a call leaves to the one behind it, granted or refused
unfoldable pub final : {S C : Type 0} → (S → C → S) → S → List C → S
final next s [] = s
final next s (c ∷ cs) = final next (next s c) cs

-- at some call; at every call
abbrev pub Somewhere : {S C : Type 0} → (S → C → S) → (S → C → Type 0) → S → List C → Type 0
Somewhere next P s [] = ⊥
Somewhere next P s (c ∷ cs) = P s c ⊎ Somewhere next P (next s c) cs

abbrev pub Everywhere : {S C : Type 0} → (S → C → S) → (S → C → Type 0) → S → List C → Type 0
Everywhere next P s [] = Unit {0}
Everywhere next P s (c ∷ cs) = P s c × Everywhere next P (next s c) cs

-- a call by numbers or by record, with an operation slice that holds any words
pub record Call : Type 0 where
  pub asking : Asking
  pub operations : List ℕ

-- c asks for p, with n words lent for operations
abbrev pub Asks : ℕ → Request → Call → Type 0
Asks n p c = WellFormed c.asking × (asked c.asking ≡ p) × (length c.operations ≡ n)

abbrev pub answer_to : Space → Lent → Call → Reply Grant
answer_to s l c = (bind s l c.operations c.asking).answer

abbrev pub left_of : Space → Lent → Call → Lent
left_of s l c = lent_after l (bind s l c.operations c.asking)

abbrev pub IsGrant : Reply Grant → Type 0
IsGrant a = (g : Grant) × (a ≡ answered g)

-- u holds the mappings ms in a slice as long as t's, zeros behind them
pub record Holds (t : Table) (ms : List Mapping) (u : Table) : Type 0 where
  pub words : u.words ≡ written (length t.words) ms
  pub length_kept : length u.words ≡ length t.words
  pub count : u.count ≡ length ms

-- document 01: What is equal. The pieces, ascending, stand in place of the uncut map's one new record
pub record Replaced (l : Lent) (r : Request) (ps : List Request) (uncut series : Lent) : Type 0 where
  pub before : List Mapping
  pub behind : List Mapping
  pub sorted : List Request
  pub ascending : Ordered (λ p q. stop p ≤ q.address) sorted
  pub members : sorted ⊆ ps × ps ⊆ sorted
  pub uncut_table : Holds l.table (before ++ (mapping_of r ∷ behind)) uncut.table
  pub series_table : Holds l.table (before ++ (map mapping_of sorted ++ behind)) series.table
  pub lists : (uncut.ranges ≡ l.ranges) × (series.ranges ≡ l.ranges)
  pub counts : series.table.count + 1 ≡ uncut.table.count + length ps

-- any table and list l; a request r without the sparse flag, cut into ps; c, which asks for r on l; a series, each call
-- of it for one of the pieces
abbrev pub Demand3 : Type 0
Demand3 = (s : Space) (l : Lent) (r : Request) (ps : List Request) (c : Call) (series : List Call)
    → Unflagged r
    → Pieces r ps
    → Asks (length c.operations) r c
    → Each (λ d. (p : Request) × p ∈ ps × Asks (length c.operations) p d) series
    -- if every piece is granted at least once, the uncut request is granted, and the series leaves the same table and
    -- list
    → (Each (λ p. Somewhere (left_of s) (λ k d. (asked d.asking ≡ p) × IsGrant (answer_to s k d)) l series) ps
    → IsGrant (answer_to s l c)
    × (r.op ≡ 0 → Replaced l r ps (left_of s l c) (final (left_of s) l series))
    × (r.op ≡ 1 → final (left_of s) l series ≡ left_of s l c))
    -- if the uncut request is granted, each answer is a grant or want of table room
    × (IsGrant (answer_to s l c) → Everywhere (left_of s) (λ k d. IsGrant (answer_to s k d) ⊎ (answer_to s k d ≡ refusal 11)) l series)
