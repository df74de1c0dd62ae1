-- The refusals of a batch, in words: a line's answer is given exactly if its rule is broken and no line's above it. What
-- each kind of answer leaves.
use Rattle.std.specs.Prelude.{◌≡◌, ◌⊎◌, ◌↔◌, List, [], ◌∷◌, map, ℕ, suc, ◌+◌, ◌-◌, ◌*◌, ◌/◌, ◌%◌, ◌≤◌, ◌<◌, length, replicate, Result}
use mathlib.Core.List.{flat_map}
use Rattle.model.specs.Calls.{Reply, refused, answered, mappings, after, operations, request_of, Lent, lookup}
use Rattle.model.specs.Exactly.{Each, ◌∈◌, RefusalTable, line, otherwise, Gives, NoFlag, form_lines, request_lines, refusal, lent_lines}
use Rattle.model.specs.Exactly.{operations_line, RoomRule, Pins}
use Rattle.model.specs.declared.Seen.{Seen}
use Rattle.batches.specs.Prelude.{Space, Mapping, Request, Grant}
use Rattle.batches.specs.declared.BatchRefusal.{BatchRefusal}
use Rattle.batches.specs.Batch.{records_in, requests_in, batch_grant, BatchOutcome, bind_batch, batch_reply}

-- of the requests from the place p on, each on the mappings that the one before leaves, and with the words that are left
-- for operations: 13, 14, 6 to 10, 11, 16
unfoldable pub turn_lines : {A : Type 0} → Space → ℕ → ℕ → ℕ → List Request → List Mapping → A → RefusalTable (Reply A)
turn_lines s capacity left p [] ms a = otherwise (answered a)
turn_lines s capacity left p (r ∷ rs) ms a =
    form_lines (λ n. refused n p) NoFlag r
    (request_lines (λ n. refused n p) s r
    (line (refused 11 p) (RoomRule r capacity ms)
    (line (refused 16 p) (14 * length (operations r ms) ≤ left)
    (turn_lines s capacity (left - 14 * length (operations r ms)) (suc p) rs (after r ms) a))))

-- 12, 1, 2, 3, 15, 4, 5, 17, 18, with w words lent to work in and n for operations; then the requests
abbrev pub batch_refusals : Space → Lent → ℕ → ℕ → List ℕ → RefusalTable (Reply Grant)
batch_refusals s l w n bs =
    line (refusal 12) ((length bs % 40 ≡ 0) × (length bs ≤ 2560))
    (lent_lines s (λ rest. operations_line n l.table (line (refusal 15) (w ≡ length l.table.words) rest)) l
    (turn_lines s (length l.table.words / 4) n 0 (requests_in bs) (mappings l.table) (batch_grant (requests_in bs) l)))

-- the numbers of the batch itself, and those of its requests: none is in both
abbrev pub own_numbers : List ℕ
own_numbers = 12 ∷ 1 ∷ 2 ∷ 3 ∷ 15 ∷ 4 ∷ 5 ∷ 17 ∷ 18 ∷ []

abbrev pub turn_numbers : List ℕ
turn_numbers = 13 ∷ 14 ∷ 6 ∷ 7 ∷ 8 ∷ 9 ∷ 10 ∷ 11 ∷ 16 ∷ []

-- its own refusal has the place 0, but 5 its mapping's; no lent word has changed
pub record Untouched (l : Lent) (ws os : List ℕ) (n p : ℕ) (o : BatchOutcome) : Type 0 where
  pub number : n ∈ own_numbers
  pub place : (n ≡ 5 → ⊥) → p ≡ 0
  pub table : o.table ≡ l.table.words
  pub work : o.work ≡ ws
  pub operations : o.operations ≡ os

-- one in turn has its request's place; the table has not changed, and every other word is zero
pub record Emptied (l : Lent) (ws os : List ℕ) (rs : List Request) (n p : ℕ) (o : BatchOutcome) : Type 0 where
  pub number : n ∈ turn_numbers
  pub place : p < length rs
  pub table : o.table ≡ l.table.words
  pub work : o.work ≡ replicate (length ws) 0
  pub operations : o.operations ≡ replicate (length os) 0

pub record BatchExactly : Type 0 where
  pub of_batch : (s : Space) (l : Lent) (ws os bs : List ℕ) (a : Reply Grant)
      → ((bind_batch s l ws os bs).answer ≡ a) ↔ Gives (batch_refusals s l (length ws) (length os) bs) a
  pub refuses : (s : Space) (l : Lent) (ws os bs : List ℕ) (n p : ℕ) → (bind_batch s l ws os bs).answer ≡ refused n p
      → Untouched l ws os n p (bind_batch s l ws os bs) ⊎ Emptied l ws os (requests_in bs) n p (bind_batch s l ws os bs)
  -- an empty batch on what a look-up takes, with enough words: granted, with no operations, and only the work table changes
  pub empty : (s : Space) (l : Lent) (ws os : List ℕ) (x : ℕ) (v : Seen) → lookup s l x ≡ answered v
      → (length l.table.words / 4 + 1) * 14 ≤ length os → length ws ≡ length l.table.words
      → bind_batch s l ws os [] ≡ record {
        answer = answered (record { operations = 0; count = l.table.count; ranges = l.ranges.count });
        table = l.table.words;
        work = replicate (length ws) 0;
        operations = os;
      }
  -- with words for as many operations as there are mappings, and for four more a request, no request gets 16
  pub never_short : (s : Space) (l : Lent) (ws os bs : List ℕ) (p : ℕ) → 14 * (l.table.count + 4 * length (requests_in bs)) ≤ length os
      → (bind_batch s l ws os bs).answer ≡ refused 16 p → ⊥
  -- records of 40 bytes, put in a row, are read back in that order, and their requests
  pub records : (recs : List (List ℕ)) → Each (λ b. length b ≡ 40) recs
      → (records_in (length recs) (flat_map (λ b. b) recs) ≡ recs) × (requests_in (flat_map (λ b. b) recs) ≡ map request_of recs)
  -- no two answers of the code read alike
  pub pinned : Pins {A = Result Grant BatchRefusal} batch_reply
