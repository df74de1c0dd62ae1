-- Demand 3 with batches (document 02, Item 2): in a series, batches of pieces may stand beside or instead of single
-- requests. With single requests alone it is `model`'s claim.
use Rattle.std.specs.Prelude.{◌≡◌, ◌⊎◌, List, [], ◌∷◌, ℕ, ◌*◌, ◌%◌, ◌<◌, leb, eqb, length}
use Rattle.model.specs.Calls.{all, choose, Reply, refused, record_bytes, asked, Lent}
use Rattle.model.specs.Exactly.{Each, ◌∈◌, ◌⊆◌, Unflagged, WellFormed, refusal}
use Rattle.model.specs.Demand3.{Pieces, final, Somewhere, Everywhere, Call, Asks, answer_to, left_of, IsGrant, Replaced}
use Rattle.batches.specs.Prelude.{Space, Request, Grant}
use Rattle.batches.specs.Batch.{most_records, requests_in}
use Rattle.batches.specs.Grants.{Batch, answer_to_batch, left_by_batch}

pub data AnyCall : Type 0 where
  single : Call → AnyCall
  batch : Batch → AnyCall

abbrev pub answer_to_any : Space → Lent → AnyCall → Reply Grant
answer_to_any s l (single c) = answer_to s l c
answer_to_any s l (batch b) = answer_to_batch s l b

abbrev pub left_by_any : Space → Lent → AnyCall → Lent
left_by_any s l (single c) = left_of s l c
left_by_any s l (batch b) = left_by_batch s l b

-- n words are lent for operations; a single request is well formed
abbrev pub Lends : ℕ → AnyCall → Type 0
Lends n (single c) = WellFormed c.asking × (length c.operations ≡ n)
Lends n (batch b) = length b.operations ≡ n

-- the requests that a batch asks for, on a table of n words: none where it is answered with its own 12 or 15, that is,
-- unless it has whole records, at most 64, and a work table of n words
abbrev pub asks_batch : ℕ → Batch → List Request
asks_batch n b =
    choose (all (eqb (length b.records % record_bytes) 0 ∷ leb (length b.records) (most_records * record_bytes) ∷ eqb (length b.work) n ∷ []))
    (requests_in b.records) []

abbrev pub asks : ℕ → AnyCall → List Request
asks n (single c) = asked c.asking ∷ []
asks n (batch b) = asks_batch n b

-- want of room: 11; in a batch 11 or 16 at a request's place, or its own 12 or 15 where it asks for none
abbrev pub Wants : ℕ → AnyCall → Reply Grant → Type 0
Wants n (single c) a = a ≡ refusal 11
Wants n (batch b) a =
    ((p : ℕ) × (p < length (asks_batch n b)) × ((a ≡ refused 11 p) ⊎ (a ≡ refused 16 p)))
    ⊎ ((asks_batch n b ≡ []) × ((a ≡ refusal 12) ⊎ (a ≡ refusal 15)))

-- any table and list l; a request r without the sparse flag, cut into ps; c, a single call that asks for r on l; a series
-- of single calls and batches, each for some of the pieces. None in a refused batch counts as granted
abbrev pub Demand3 : Type 0
Demand3 = (s : Space) (l : Lent) (r : Request) (ps : List Request) (c : Call) (series : List AnyCall)
    → Unflagged r
    → Pieces r ps
    → Asks (length c.operations) r c
    → Each (λ d. Lends (length c.operations) d × asks (length l.table.words) d ⊆ ps) series
    -- if every piece is granted at least once, the uncut request is granted, and the series leaves the same table and
    -- list
    → (Each (λ p. Somewhere (left_by_any s) (λ k d. p ∈ asks (length l.table.words) d × IsGrant (answer_to_any s k d)) l series) ps
    → IsGrant (answer_to s l c)
    × (r.op ≡ 0 → Replaced l r ps (left_of s l c) (final (left_by_any s) l series))
    × (r.op ≡ 1 → final (left_by_any s) l series ≡ left_of s l c))
    -- if the uncut request is granted, each answer is a grant or want of room
    × (IsGrant (answer_to s l c)
    → Everywhere (left_by_any s) (λ k d. IsGrant (answer_to_any s k d) ⊎ Wants (length l.table.words) d (answer_to_any s k d)) l series)
