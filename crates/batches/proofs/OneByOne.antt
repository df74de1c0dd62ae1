-- A granted batch does what its requests do one by one.
-- Assumes nothing.
use mathlib.Core.Path.{◌≡◌, refl, sym, ap, ap₂, subst, ◌∙◌}
use mathlib.Core.List.{List, [], ◌∷◌, ◌++◌, map, flat_map}
use Prim.Native.Nat.{ℕ, suc, ◌-◌, ◌*◌, ◌/◌, ◌≤◌}
use native.Mathlib.Omega.{arith}
use lib.ListN.{length, take, drop}
use lib.Seq.{take_at}
use Rattle.model.specs.Table.{capacity, mappings}
use Rattle.model.specs.Cut.{after, operations}
use Rattle.model.specs.Layout.{words_of_operation}
use Rattle.model.specs.Calls.{record_bytes, request_of, bytes, asked, Lent, cut_grant, Outcome, cut, bind, lent_after}
use Rattle.model.specs.Exactly.{Each, Unflagged, WellFormed}
use Rattle.model.specs.Demand3.{final, Everywhere, Call, answer_to, left_of, IsGrant}
use Rattle.model.proofs.Rows.{Passed}
use Rattle.model.proofs.Store.{holds_rewritten, holds_capacity}
use Rattle.model.proofs.Operations.{flat_map-append, operations-words}
use Rattle.model.proofs.Ask.{Asked}
use Rattle.model.proofs.Granted.{Good, granting as granting-one, table_chain, after_chain, relent, good_relent}
use Rattle.model.proofs.Demand3.{calls}
use Rattle.batches.specs.Prelude.{Space, Mapping, Request, Grant}
use Rattle.batches.specs.Batch.{records_in, requests_in, turns_rows, after_all, operations_all, BatchOutcome}
use Rattle.batches.specs.Grants.{told, wrote_by, wrote_all, OneByOne}
use Rattle.batches.proofs.Records.{records_length}
use Rattle.batches.proofs.Turns.{Turn, turn_passed}
use Rattle.batches.proofs.Batch.{Granting, leaves}
use Rattle.batches.proofs.Relent.{relent_same, relent_again, relent_mappings}

-- ── one request ──

-- where it may be asked and there is room, the call cuts the table
one : (s : Space) (l : Lent) (c : Call) → WellFormed c.asking → Good s (length c.operations) l → Asked s (asked c.asking)
    → length (after (asked c.asking) (mappings l.table)) ≤ capacity l.table
    → bind s l c.operations c.asking ≡ cut (cut_grant (asked c.asking) l) (asked c.asking) l c.operations
one s l c w g a h =
    let off : Unflagged (asked c.asking) = λ e. omega (arith, e, a.form) in
    let k = (calls s (length c.operations)).single l c (asked c.asking) ((off, w, refl), tt, refl) g a h in
    let o = granting-one s l c.operations c.asking k.0 off k.1 in
    o.outcome ∙ ap (λ (g : Grant). cut g (asked c.asking) l c.operations) o.grant

-- ── all of them ──

abbrev call : List ℕ → List ℕ → Call
call os b = record { asking = bytes b; operations = os }

-- records, each by itself on what those before it leave
record Ones (s : Space) (l : Lent) (os : List ℕ) (recs : List (List ℕ)) : Type 0 where
  granted : Everywhere (left_of s) (λ k c. IsGrant (answer_to s k c)) l (map (call os) recs)
  left : relent l (after_all (map request_of recs) (mappings l.table)) ≡ final (left_of s) l (map (call os) recs)
  wrote : wrote_all s l (map (call os) recs) ≡ flat_map words_of_operation (operations_all (map request_of recs) (mappings l.table))

abbrev Pass : Space → List ℕ → List (List ℕ) → Type 0
Pass s os recs = (l : Lent) (left p : ℕ) → Good s (length os) l
    → Passed (turns_rows s (capacity l.table) left p (map request_of recs) (mappings l.table)) → Ones s l os recs

ones_more : (s : Space) (os b : List ℕ) (recs : List (List ℕ)) → length b ≡ 40 → Pass s os recs → Pass s os (b ∷ recs)
unfolding final wrote_all after_all operations_all
ones_more s os b recs e rest l left p g h = record {
  granted = (
    (cut_grant r l, ap (λ (o : Outcome). o.answer) out),
    subst (λ (k : Lent). Everywhere (left_of s) (λ k c. IsGrant (answer_to s k c)) k (map (call os) recs)) (sym there) ih.granted,
  );
  left = sym (relent_again l (after r ms) _ room)
      ∙ ap (λ (ns : List Mapping). relent v (after_all (map request_of recs) ns)) (sym in_v)
      ∙ ih.left
      ∙ ap (λ (k : Lent). final (left_of s) k (map (call os) recs)) (sym there);
  wrote = ap₂ ◌++◌ mine (ap (λ (k : Lent). wrote_all s k (map (call os) recs)) there ∙ ih.wrote
      ∙ ap (λ (ns : List Mapping). flat_map words_of_operation (operations_all (map request_of recs) ns)) in_v)
      ∙ sym (flat_map-append words_of_operation (operations r ms) (operations_all (map request_of recs) (after r ms)));
}
  where
    r : Request
    r = request_of b

    ms : List Mapping
    ms = mappings l.table

    more : ℕ
    more = left - 14 * length (operations r ms)

    k : Turn s (capacity l.table) left r ms × Passed (turns_rows s (capacity l.table) more (suc p) (map request_of recs) (after r ms))
    k = turn_passed s (capacity l.table) left p r (map request_of recs) ms h

    room : length (after r ms) ≤ capacity l.table
    room = k.0.room

    out : bind s l os (bytes b) ≡ cut (cut_grant r l) r l os
    out = one s l (call os b) e g k.0.may room

    v : Lent
    v = relent l (after r ms)

    there : left_of s l (call os b) ≡ v
    there = ap (lent_after l) out

    in_v : mappings v.table ≡ after r ms
    in_v = relent_mappings l (after r ms) room

    ih : Ones s v os recs
    ih = rest v more (suc p) (good_relent s (length os) l (after r ms) g (after_chain s r ms k.0.may (table_chain s (length os) l g)) room)
        (subst (λ (ns : List Mapping). Passed (turns_rows s (capacity v.table) more (suc p) (map request_of recs) ns)) (sym in_v)
        (subst (λ (n : ℕ). Passed (turns_rows s n more (suc p) (map request_of recs) (after r ms)))
        (sym (holds_capacity l.table v.table (after r ms) (holds_rewritten l.table (after r ms) room))) k.1))

    mine : wrote_by s l (call os b) ≡ flat_map words_of_operation (operations r ms)
    mine = ap (λ (o : Outcome). take (14 * told o.answer) o.operations) out
        ∙ take_at (flat_map words_of_operation (operations r ms)) _ (14 * length (operations r ms)) (operations-words (operations r ms))

ones : (s : Space) (os : List ℕ) (recs : List (List ℕ)) → Each (λ b. length b ≡ 40) recs → Pass s os recs
unfolding final wrote_all after_all operations_all flat_map
ones s os [] e l left p g h = record { granted = tt; left = relent_same s (length os) l g; wrote = refl }
ones s os (b ∷ recs) e l left p g h = ones_more s os b recs e.0 (ones s os recs e.1) l left p g h

pub one_by_one : (s : Space) (l : Lent) (ws os bs : List ℕ) (g : Grant) → Granting s l ws os bs g → OneByOne s l ws os bs g
unfolding requests_in
one_by_one s l ws os bs g k = record {
  each_granted = w.granted;
  left = leaves s l ws os bs g k ∙ w.left;
  ranges = ap (λ (g : Grant). g.ranges) k.grant ∙ ap (λ (k : Lent). k.ranges.count) w.left;
  number = ap (λ (g : Grant). 14 * g.operations) k.grant ∙ sym (operations-words (operations_all rs ms)) ∙ ap length (sym w.wrote);
  operations = ap (λ (o : BatchOutcome). o.operations) k.outcome
      ∙ ap₂ (λ (vs : List ℕ) (n : ℕ). vs ++ drop (14 * n) os) (sym w.wrote) (sym (ap (λ (g : Grant). g.operations) k.grant));
  work = ap (λ (o : BatchOutcome). o.work) k.outcome;
}
  where
    rs : List Request
    rs = map request_of (records_in (length bs / record_bytes) bs)

    ms : List Mapping
    ms = mappings l.table

    w : Ones s l os (records_in (length bs / record_bytes) bs)
    w = ones s os (records_in (length bs / record_bytes) bs) (records_length (length bs / record_bytes) bs (omega arith)) l (length os) 0 k.good k.rows
