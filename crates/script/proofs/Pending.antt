-- The operations that a granted request wrote are read as they were written, and their lines are to come.
-- Assumes nothing.
use mathlib.Core.Path.{◌≡◌, refl, sym, ap, subst, ◌∙◌}
use mathlib.Core.Logic.{◌⊎◌, ⊎_elim, ⊎_map}
use Rattle.std.specs.Prelude.{Some}
use mathlib.Core.List.{List, [], ◌∷◌, ◌++◌, append_assoc, flat_map}
use Prim.Native.Nat.{ℕ, suc, ◌*◌}
use native.Mathlib.Omega.{arith}
use lib.Dec.{eqb, eqb→eq}
use lib.ListN.{length, take, drop, length-append, length-drop}
use lib.Seq.{take_at, drop_at}
use Rattle.model.specs.declared.Request.{Request}
use Rattle.model.specs.declared.Operation.{Operation}
use Rattle.model.specs.declared.Grant.{Grant}
use Rattle.program.specs.declared.ScriptRecord.{ScriptRecord}
use Rattle.program.specs.declared.ScriptRecord.TheVariants.{SetSpace, Bind, LookUp, OtherMark, Cut, End}
use Rattle.model.specs.Rows.{Reply, refused, answered}
use Rattle.model.specs.Table.{mappings}
use Rattle.model.specs.Layout.{words_of_operation, operation_in}
use Rattle.model.specs.Calls.{bytes, request_of, operations, lookup}
use Rattle.model.specs.Exactly.{Each}
use Rattle.program.specs.Text.{operation_lines}
use Rattle.program.specs.Script.{State, granted, emptied, shows, told_by, set_space, bind_in, request_in, step_on, step, record_at, operations_in}
use Rattle.model.proofs.Tests.{or_cases}
use Rattle.model.proofs.Granted.{granted_rows, fronts}
use Rattle.model.proofs.Sparse.{sparse_ranges}
use Rattle.model.proofs.Operations.{operations-words}
use Rattle.model.proofs.Replays.{replay_claim}
use Rattle.model.proofs.OperationWords.{operation_length, Own, own_operations}
use Rattle.program.proofs.Order.{runs_in_order}
use Rattle.script.specs.Progress.{listed_lines, operation_at, pending, Known, Outstanding}

-- the i-th, behind what was written before
written_at : (front : List ℕ) (i : ℕ) (o : Operation) (rest : List ℕ) → length front ≡ 14 * i → Own o
    → operation_at (front ++ (words_of_operation o ++ rest)) i ≡ Some o
written_at front i o rest h own =
    ap operation_in (ap (take 14) (drop_at front (words_of_operation o ++ rest) (14 * i) h) ∙ take_at (words_of_operation o) rest 14 (operation_length o)) ∙ own

-- and those from it on
written_from : (front : List ℕ) (i : ℕ) (ops : List Operation) (tail : List ℕ) → length front ≡ 14 * i → Each Own ops
    → (pending (front ++ (flat_map words_of_operation ops ++ tail)) i (length ops) ≡ flat_map operation_lines ops)
    × Known (front ++ (flat_map words_of_operation ops ++ tail)) i (length ops)
unfolding pending Known flat_map
written_from front i [] tail h own = (refl, tt)
written_from front i (o ∷ ops) tail h own =
    let rest : List ℕ = flat_map words_of_operation ops ++ tail in
    let n : length (front ++ words_of_operation o) ≡ 14 * suc i = simp length-append (omega (arith, operation_length o)) in
    let d : front ++ ((words_of_operation o ++ flat_map words_of_operation ops) ++ tail) ≡ front ++ (words_of_operation o ++ rest) = simp append_assoc in
    let e : front ++ (words_of_operation o ++ rest) ≡ (front ++ words_of_operation o) ++ rest = simp append_assoc in
    let at : operation_at ((front ++ words_of_operation o) ++ rest) i ≡ Some o =
    ap (λ (ws : List ℕ). operation_at ws i) (sym e) ∙ written_at front i o rest h own.0 in
    let behind = written_from (front ++ words_of_operation o) (suc i) ops tail n own.1 in
    subst
    (λ (ws : List ℕ). (listed_lines (operation_at ws i) ++ pending ws (suc i) (length ops) ≡ operation_lines o ++ flat_map operation_lines ops)
    × (((x : Operation) × (operation_at ws i ≡ Some x)) × Known ws (suc i) (length ops)))
    (sym (d ∙ e))
    (rw at (ap (◌++◌ (operation_lines o)) behind.0, ((o, refl), behind.1)))

-- what a step that grants leaves in the operation slice
pub record Wrote (st : State) (bs : List ℕ) (os : List ℕ) (g : Grant) : Type 0 where
  pub lines : pending os 0 g.operations ≡ flat_map operation_lines (operations_in st bs)
  pub there : Outstanding os 0 g.operations

module _ (st : State) (bs : List ℕ) (g : Grant) where
  abbrev request : Request
  request = request_of (request_in bs)

  -- a granted request has no flag, or the sparse one
  flags_known : (bind_in st bs).answer ≡ answered g → (request.flags ≡ 0) ⊎ (request.flags ≡ 256)
  flags_known e =
      let f = fronts st.space st.lent (length st.operations) (bytes (request_in bs)) (granted_rows st.space st.lent st.operations (bytes (request_in bs)) g e).1 in
      ⊎_map (λ k. eqb→eq _ 0 k) (λ k. eqb→eq _ 256 k) (or_cases (eqb request.flags 0) (eqb request.flags 256) f.form.flags.0)

  wrote_plain : (bind_in st bs).answer ≡ answered g → request.flags ≡ 0 → Wrote st bs (bind_in st bs).operations g
  wrote_plain e z =
      let ops : List Operation = operations request (mappings st.lent.table) in
      let r = replay_claim st.space st.lent st.operations (bytes (request_in bs)) g (λ f. omega (arith, z, f)) e in
      let w = written_from [] 0 ops (drop (14 * length ops) st.operations) refl (own_operations request (mappings st.lent.table)) in
      record {
        lines = rw ((runs_in_order.hands_over st bs).plain z, r.words.0, r.number) w.0;
        there = record {
          within = omega (arith, operations-words ops, r.number, r.words.1, simp (length-append, length-drop) at (ap length r.words.0));
          known = rw (r.words.0, r.number) w.1;
        };
      }

  -- with the flag there is none
  wrote_flagged : (bind_in st bs).answer ≡ answered g → request.flags ≡ 256 → Wrote st bs (bind_in st bs).operations g
  unfolding pending Known flat_map
  wrote_flagged e z =
      let k : g.operations ≡ 0 = (sparse_ranges.flagged st.space st.lent st.operations (bytes (request_in bs)) g e z).operations.1 in
      record {
        lines = rw ((runs_in_order.hands_over st bs).flagged z, k);
        there = record { within = omega (arith, k); known = rw k tt };
      }

  wrote_request : (bind_in st bs).answer ≡ answered g → Wrote st bs (bind_in st bs).operations g
  wrote_request e = ⊎_elim (wrote_plain e) (wrote_flagged e) (flags_known e)

  wrote_on : (e : ScriptRecord) → (step_on e st bs).told ≡ granted g → Wrote st bs (step_on e st bs).state.operations g
  wrote_on (SetSpace s) h = absurd (never (set_space s st) h)
    where
      never : (a : Reply ℕ) → told_by emptied a ≡ granted g → ⊥
      never (refused n p) q = cc
      never (answered n) q = cc
  wrote_on Bind h = wrote_request (go (bind_in st bs).answer h)
    where
      go : (a : Reply Grant) → told_by granted a ≡ granted g → a ≡ answered g
      go (refused n p) q = cc
      go (answered k) q = cc
  wrote_on (LookUp x) h = absurd (never (lookup st.space st.lent x) h)
    where
      never : (a : Reply _) → told_by (shows x) a ≡ granted g → ⊥
      never (refused n p) q = cc
      never (answered n) q = cc
  wrote_on OtherMark h = cc
  wrote_on Cut h = cc
  wrote_on End h = cc

  pub wrote : (step st bs).told ≡ granted g → Wrote st bs (step st bs).state.operations g
  unfolding step
  wrote h = wrote_on (record_at bs) h
