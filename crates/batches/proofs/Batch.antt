-- What a granted batch says of its rows, what it leaves, and that it leaves what is lent where it refuses.
-- Assumes nothing.
use mathlib.Core.Path.{◌≡◌, refl, sym, ap, subst, ◌∙◌}
use mathlib.Core.Logic.{◌⊎◌, inl, inr}
use mathlib.Core.Bool.{Bool, true, false}
use mathlib.Core.List.{List, [], ◌∷◌, ◌++◌}
use Prim.Native.Nat.{ℕ, ◌*◌, ◌≤◌, ◌<◌, ◌%◌}
use native.Mathlib.Omega.{arith}
use lib.Dec.{leb, eqb}
use lib.ListN.{length}
use Rattle.model.specs.Rows.{all, choose, Row, Reply, refused, answered, verdict}
use Rattle.model.specs.Rules.{space_row}
use Rattle.model.specs.Table.{capacity, mappings, length_row, operations_row, content_rows, table_rows}
use Rattle.model.specs.Ranges.{list_row}
use Rattle.model.specs.Calls.{record_bytes, Lent, lent_rows}
use Rattle.model.specs.Exactly.{Each, refusal}
use Rattle.model.specs.Demand3.{IsGrant}
use Rattle.model.proofs.Tests.{Alls, tests, all_facts, not_facts}
use Rattle.model.proofs.Rows.{and_then, Passed, past, passes, answered_passed, not_both}
use Rattle.model.proofs.Store.{length-mappings, holds_rewritten}
use Rattle.model.proofs.Groups.{lent_passed, passed_lent, other_between}
use Rattle.model.proofs.Ask.{Asked}
use Rattle.model.proofs.Granted.{Good, table_chain, relent, good_relent}
use Rattle.model.proofs.Demand3.{HoldsLent}
use Rattle.batches.specs.Prelude.{Space, Mapping, Request, Grant}
use Rattle.batches.specs.Batch.{most_records, requests_in, batch_row, work_row, batch_rows, turns_rows, after_all, operations_all, batch_grant, batch_outcome, turns, bind_batch, lent_after_batch}
use Rattle.batches.specs.Grants.{Batch}
use Rattle.batches.specs.Demand3.{batch, asks_batch, Wants}
use Rattle.batches.proofs.Turns.{after-all_chain, Turns, turns_passed, open_row, Served, turns_serve}

-- the answer: its own refusal, else what its requests answer
pub batch_answer : (u : Reply (Unit {0})) (d : Reply Grant) (rs : List Request) (l : Lent) (ws os : List ℕ) → (batch_outcome u d rs l ws os).answer ≡ and_then u d
batch_answer (refused n p) d rs l ws os = refl
batch_answer (answered u) (refused n p) rs l ws os = refl
batch_answer (answered u) (answered g) rs l ws os = refl

module _ (s : Space) (l : Lent) (ws os bs : List ℕ) where
  abbrev rs : List Request
  rs = requests_in bs

  abbrev ms : List Mapping
  ms = mappings l.table

  abbrev between : List Row
  between = operations_row (length os) l.table ∷ work_row (length ws) l.table ∷ []

  abbrev own : List Row
  own = batch_rows s l (length ws) (length os) bs

  -- ── a grant, or what is lent is left ──

  -- what a grant says
  pub record Granting (g : Grant) : Type 0 where
    pub whole : Alls (batch_row bs).tests
    pub work : length ws ≡ length l.table.words
    pub good : Good s (length os) l
    pub rows : Passed (turns_rows s (capacity l.table) (length os) 0 (requests_in bs) (mappings l.table))
    pub grant : g ≡ batch_grant (requests_in bs) l
    pub outcome : bind_batch s l ws os bs ≡ batch_outcome (answered tt) (answered (batch_grant (requests_in bs) l)) (requests_in bs) l ws os

  granted_by : (u : Reply (Unit {0})) (d : Reply Grant) (g : Grant) → (batch_outcome u d rs l ws os).answer ≡ answered g
      → (u ≡ answered tt) × (d ≡ answered g)
  granted_by (refused n p) d g e = absurd (not_both e)
  granted_by (answered u) (refused n p) g e = absurd (not_both e)
  granted_by (answered u) (answered h) g e = (refl, e)

  pub granting : (g : Grant) → (bind_batch s l ws os bs).answer ≡ answered g → Granting g
  unfolding bind_batch batch_rows
  granting g e =
      let k = granted_by (verdict own) (turns s l (length os) rs) g e in
      let p = (answered_passed own tt tt k.0).0 in
      let q = answered_passed (turns_rows s (capacity l.table) (length os) 0 rs ms) (batch_grant rs l) g k.1 in
      let w = lent_passed s between l p.1 in
      record {
        whole = p.0;
        work = omega (tests, w.table.others);
        good = other_between w (w.table.others.0, tt);
        rows = q.0;
        grant = q.1;
        outcome = λ i. batch_outcome (k.0 i) ((k.1 ∙ ap answered q.1) i) rs l ws os;
      }

  left_by : (u : Reply (Unit {0})) (d : Reply Grant)
      → IsGrant (batch_outcome u d rs l ws os).answer
      ⊎ ((IsGrant (batch_outcome u d rs l ws os).answer → ⊥) × (lent_after_batch l (batch_outcome u d rs l ws os) ≡ l))
  left_by (refused n p) d = inr (λ g. not_both g.1, refl)
  left_by (answered u) (refused n p) = inr (λ g. not_both g.1, refl)
  left_by (answered u) (answered g) = inl (g, refl)

  pub left : IsGrant (bind_batch s l ws os bs).answer
      ⊎ ((IsGrant (bind_batch s l ws os bs).answer → ⊥) × (lent_after_batch l (bind_batch s l ws os bs) ≡ l))
  unfolding bind_batch
  left = left_by (verdict own) (turns s l (length os) rs)

  -- ── what a grant leaves ──

  module _ (g : Grant) (k : Granting g) where
    turned : Turns s (capacity l.table) (length os) rs ms
    turned = turns_passed s (capacity l.table) (length os) 0 rs ms k.rows

    pub may : Each (Asked s) (requests_in bs)
    may = turned.may

    pub fits : 14 * length (operations_all (requests_in bs) (mappings l.table)) ≤ length os
    fits = turned.fits

    pub room : length (after_all (requests_in bs) (mappings l.table)) ≤ capacity l.table
    room = turned.room (omega (tests, k.good.table.count, length-mappings l.table.count l.table.words))

    pub leaves : lent_after_batch l (bind_batch s l ws os bs) ≡ relent l (after_all (requests_in bs) (mappings l.table))
    leaves = ap (lent_after_batch l) k.outcome

    pub kept : Good s (length os) (lent_after_batch l (bind_batch s l ws os bs))
    kept = subst (Good s (length os)) (sym leaves)
        (good_relent s (length os) l (after_all rs ms) k.good (after-all_chain s rs ms may (table_chain s (length os) l k.good)) room)

    pub holds : HoldsLent l (after_all (requests_in bs) (mappings l.table)) (lent_after_batch l (bind_batch s l ws os bs))
    holds = subst (HoldsLent l (after_all rs ms)) (sym leaves) (record { table = holds_rewritten l.table (after_all rs ms) room; list = refl })

  -- ── where what is lent is good ──

  -- whole records and a work table as long as the table
  abbrev Formed : Type 0
  Formed = Alls (batch_row bs).tests × (length ws ≡ length l.table.words)

  own_passes : Good s (length os) l → Formed → Passed own
  unfolding batch_rows
  own_passes g f = (f.0, passed_lent (other_between {others = between} g (g.table.others.0, (omega (tests, f.1), tt))))

  -- the batch's own answer: 12 where it is not whole, 15 where the work table is of another length
  own_refuses : Good s (length os) l → (Formed → ⊥) → (verdict own ≡ refusal 12) ⊎ (verdict own ≡ refusal 15)
  unfolding batch_rows lent_rows table_rows
  own_refuses g f = go (open_row (batch_row bs) (front ++ last) tt) (open_row (work_row (length ws) l.table) behind tt)
    where
      front : List Row
      front = space_row s ∷ length_row l.table ∷ operations_row (length os) l.table ∷ []

      behind : List Row
      behind = content_rows s l.table ++ list_row s l.ranges ∷ []

      last : List Row
      last = work_row (length ws) l.table ∷ behind

      through : verdict (front ++ last) ≡ verdict last
      through = past front last tt (g.table.space, (g.table.length_right, (g.table.others.0, tt)))

      go : (Alls (batch_row bs).tests × (verdict own ≡ verdict (front ++ last))) ⊎ (verdict own ≡ refusal 12)
          → (Alls (work_row (length ws) l.table).tests × (verdict last ≡ verdict behind)) ⊎ (verdict last ≡ refusal 15)
          → (verdict own ≡ refusal 12) ⊎ (verdict own ≡ refusal 15)
      go (inr e) w = inl e
      go (inl e) (inr w) = inr (e.1 ∙ through ∙ w)
      go (inl e) (inl w) = absurd (f (e.0, omega (tests, w.0)))

  abbrev this : Batch
  this = record { work = ws; operations = os; records = bs }

  -- a batch of requests that may be asked is granted, or room is wanting
  pub serves : (n : ℕ) → length l.table.words ≡ n → Good s (length os) l → Each (Asked s) (asks_batch n this)
      → IsGrant (bind_batch s l ws os bs).answer ⊎ Wants n (batch this) (bind_batch s l ws os bs).answer
  unfolding bind_batch
  serves n len g a = go (all asking) refl a
    where
      asking : List Bool
      asking = eqb (length bs % record_bytes) 0 ∷ leb (length bs) (most_records * record_bytes) ∷ eqb (length ws) n ∷ []

      u : Reply (Unit {0})
      u = verdict own

      d : Reply Grant
      d = turns s l (length os) rs

      answer : Reply Grant
      answer = (batch_outcome u d rs l ws os).answer

      -- answers by what the rows say
      answer_is : (x : Reply (Unit {0})) (y : Reply Grant) → u ≡ x → d ≡ y → answer ≡ and_then x y
      answer_is x y e f = batch_answer u d rs l ws os ∙ (λ i. and_then (e i) (f i))

      Wanting : List Request → Type 0
      Wanting qs = ((p : ℕ) × (p < length qs) × ((answer ≡ refused 11 p) ⊎ (answer ≡ refused 16 p)))
          ⊎ ((qs ≡ []) × ((answer ≡ refusal 12) ⊎ (answer ≡ refusal 15)))

      served : u ≡ answered tt → Served 0 rs (batch_grant rs l) d → IsGrant answer ⊎ Wanting rs
      served h (inl e) = inl (batch_grant rs l, answer_is _ _ h e)
      served h (inr (p, k, inl e)) = inr (inl (p, k, inl (answer_is _ _ h (e ∙ ap (refused 11) (omega arith)))))
      served h (inr (p, k, inr e)) = inr (inl (p, k, inr (answer_is _ _ h (e ∙ ap (refused 16) (omega arith)))))

      refuses : (u ≡ refusal 12) ⊎ (u ≡ refusal 15) → IsGrant answer ⊎ Wanting []
      refuses (inl e) = inr (inr (refl, inl (answer_is _ d e refl)))
      refuses (inr e) = inr (inr (refl, inr (answer_is _ d e refl)))

      go : (b : Bool) → all asking ≡ b → Each (Asked s) (choose b rs []) → IsGrant answer ⊎ Wanting (choose b rs [])
      go true e a =
          let k = all_facts asking e in
          let f : Formed = ((k.0, (k.1.0, tt)), omega (tests, len, k.1.1.0)) in
          served (passes own tt (own_passes g f)) (turns_serve s (capacity l.table) (length os) 0 rs ms (batch_grant rs l) a)
      go false e a = refuses (own_refuses g (λ f. not_facts asking e (f.0.0, (f.0.1.0, (omega (tests, len, f.1), tt)))))
