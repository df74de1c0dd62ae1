-- What a granted batch does: what its requests do one by one, and shorter batches in the same order; demand 2 and the
-- operations replayed, of the whole.
use Rattle.std.specs.Prelude.{◌≡◌, List, [], ◌∷◌, ◌++◌, map, ℕ, ◌+◌, ◌-◌, ◌*◌, ◌/◌, ◌≤◌, ◌<◌, eqb, length, take, drop, replicate}
use Rattle.std.specs.Prelude.{Some}
use mathlib.Core.List.{flat_map}
use Rattle.model.specs.Calls.{choose, Reply, refused, answered, stop, Table, mappings, old, rests, words_of_operation, record_bytes, bytes, Lent, bind, see_in, lookup}
use Rattle.model.specs.Exactly.{Each, TableRules}
use Rattle.model.specs.Grants.{off_mappings, shows, replay}
use Rattle.model.specs.Demand3.{final, Everywhere, Call, answer_to, left_of, IsGrant}
use Rattle.batches.specs.Prelude.{Space, Request, Operation, Object, Grant}
use Rattle.batches.specs.Batch.{records_in, requests_in, operations_all, BatchOutcome, bind_batch, lent_after_batch}

-- ── one by one ──

-- the records of a batch as single calls, each lent the operation words os
abbrev pub singles : List ℕ → List ℕ → List Call
singles os bs = map (λ b. record { asking = bytes b; operations = os }) (records_in (length bs / record_bytes) bs)

-- the operation words that a single call writes: 14 for each operation that its answer tells
abbrev pub told : Reply Grant → ℕ
told (refused n p) = 0
told (answered g) = g.operations

abbrev pub wrote_by : Space → Lent → Call → List ℕ
wrote_by s l c = take (14 * told (answer_to s l c)) (bind s l c.operations c.asking).operations

unfoldable pub wrote_all : Space → Lent → List Call → List ℕ
wrote_all s l [] = []
wrote_all s l (c ∷ cs) = wrote_by s l c ++ wrote_all s (left_of s l c) cs

-- a granted batch: each of its requests is granted by itself on what those before it leave; the table, word for word,
-- and the counts are what the last of them leaves; the operations are theirs, one's behind those of the one before, and
-- words behind them are as they were; the work table is zeros
pub record OneByOne (s : Space) (l : Lent) (ws os bs : List ℕ) (g : Grant) : Type 0 where
  pub each_granted : Everywhere (left_of s) (λ k c. IsGrant (answer_to s k c)) l (singles os bs)
  pub left : lent_after_batch l (bind_batch s l ws os bs) ≡ final (left_of s) l (singles os bs)
  pub ranges : g.ranges ≡ (final (left_of s) l (singles os bs)).ranges.count
  pub number : 14 * g.operations ≡ length (wrote_all s l (singles os bs))
  pub operations : (bind_batch s l ws os bs).operations ≡ wrote_all s l (singles os bs) ++ drop (14 * g.operations) os
  pub work : (bind_batch s l ws os bs).work ≡ replicate (length ws) 0

-- ── in shorter batches ──

-- a batch as it comes: words to work in, words for operations, the records' bytes
pub record Batch : Type 0 where
  pub work : List ℕ
  pub operations : List ℕ
  pub records : List ℕ

abbrev pub answer_to_batch : Space → Lent → Batch → Reply Grant
answer_to_batch s l b = (bind_batch s l b.work b.operations b.records).answer

abbrev pub left_by_batch : Space → Lent → Batch → Lent
left_by_batch s l b = lent_after_batch l (bind_batch s l b.work b.operations b.records)

-- batches whose records, put in a row, are those of b leave what b leaves, wherever all are granted
abbrev pub Shorter : Type 0
Shorter = (s : Space) (l : Lent) (b : Batch) (parts : List Batch) → flat_map (λ c. c.records) parts ≡ b.records
    → IsGrant (answer_to_batch s l b) → Everywhere (left_by_batch s) (λ k c. IsGrant (answer_to_batch s k c)) l parts
    → final (left_by_batch s) l parts ≡ left_by_batch s l b

-- ── demand 2 ──

-- the byte address x lies in the request's range
abbrev pub Names : Request → ℕ → Type 0
Names r x = (r.address ≤ x) × (x < stop r)

abbrev pub NoneNames : List Request → ℕ → Type 0
NoneNames rs x = Each (λ r. Names r x → ⊥) rs

-- k is what the granted requests rs leave of l: the last of them that names a byte says what it shows; a valid table,
-- zeros behind it; the list as it was; look-ups are answered
pub record EffectAll (s : Space) (rs : List Request) (l k : Lent) : Type 0 where
  pub maps : (before behind : List Request) (r : Request) → rs ≡ before ++ (r ∷ behind) → r.op ≡ 0 → (x : ℕ) → Names r x → NoneNames behind x
      → shows k x ≡ Object r.object (r.offset + (x - r.address))
  pub unmaps : (before behind : List Request) (r : Request) → rs ≡ before ++ (r ∷ behind) → r.op ≡ 1 → (x : ℕ) → Names r x → NoneNames behind x
      → shows k x ≡ off_mappings l x
  pub elsewhere : (x : ℕ) → NoneNames rs x → shows k x ≡ shows l x
  pub valid : TableRules s (mappings k.table)
  pub zeros : (drop (4 * k.table.count) k.table.words ≡ replicate (length l.table.words - 4 * k.table.count) 0)
      × (length k.table.words ≡ length l.table.words)
  pub list : k.ranges ≡ l.ranges
  pub answers : (x : ℕ) → lookup s k x ≡ answered (see_in s k x)

-- ── the operations ──

-- how many of the requests are maps
unfoldable pub maps_among : List Request → ℕ
maps_among [] = 0
maps_among (r ∷ rs) = choose (eqb r.op 0) 1 0 + maps_among rs

-- g is the grant, os the operations of all requests rs, lent and written what the operation slice holds before the call
-- and after it
pub record ReplaysAll (rs : List Request) (t u : Table) (os : List Operation) (lent written : List ℕ) (g : Grant) : Type 0 where
  pub replayed : replay os (mappings t) ≡ Some (mappings u)
  pub number : g.operations ≡ length os
  -- count afterwards = count - hit + lower rests + upper rests + (1 for each map)
  pub count : g.count + length (flat_map old os) ≡ t.count + length (flat_map rests os) + maps_among rs
  pub words : (written ≡ flat_map words_of_operation os ++ drop (14 * g.operations) lent) × (length written ≡ length lent)

-- ── of every granted batch ──

pub record GrantedBatch (s : Space) (l : Lent) (ws os bs : List ℕ) (g : Grant) (o : BatchOutcome) : Type 0 where
  pub one_by_one : OneByOne s l ws os bs g
  pub demand_2 : EffectAll s (requests_in bs) l (lent_after_batch l o)
  pub replay : ReplaysAll (requests_in bs) l.table (lent_after_batch l o).table (operations_all (requests_in bs) (mappings l.table)) os o.operations g

abbrev pub BatchGrants : Type 0
BatchGrants = (s : Space) (l : Lent) (ws os bs : List ℕ) (g : Grant) → (bind_batch s l ws os bs).answer ≡ answered g
    → GrantedBatch s l ws os bs g (bind_batch s l ws os bs)
