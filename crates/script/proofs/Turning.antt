-- The kinds of turn: nothing, an operation, a record.
-- Assumes nothing.
use mathlib.Core.Path.{◌≡◌, refl, sym, ap, ◌∙◌}
use mathlib.Core.Logic.{inl, inr, ⊎_elim}
use mathlib.Core.Bool.{Bool, true, false}
use Rattle.std.specs.Prelude.{Option, Some}
use mathlib.Core.List.{List, [], ◌++◌, append_assoc}
use Prim.Native.Nat.{ℕ, zero, suc, ◌+◌, ◌-◌, ◌<◌}
use native.Mathlib.Numerals.{add-one}
use native.Mathlib.Omega.{arith}
use lib.ListN.{length, drop}
use Rattle.model.specs.declared.Operation.{Operation}
use Rattle.program.specs.Script.{State, Told, emptied, granted, shows, refusal, other_mark, cut, ended, record_at, record_size, Step, step, lines, leaves, response_told}
use Rattle.program.proofs.Records.{record_fits}
use Rattle.program.proofs.Leaves.{leaves-step}
use Rattle.words.proofs.Stored.{stored_none}
use Rattle.text.specs.declared.Lines.{Lines}
use Rattle.text.specs.Lines.{Adds}
use Rattle.script.specs.declared.Progress.{Progress}
use Rattle.program.specs.declared.Response.{Response}
use Rattle.script.specs.declared.Program.{Program}
use Rattle.script.specs.Program.{held, SameLent, Does, TurnsFrom}
use Rattle.script.specs.Progress.{operation_at, listed_lines, pending, Known, Outstanding, to_come, is_short, waits, stops, operation_count, Idle, Goes}
use Rattle.script.proofs.Pending.{wrote}
use Rattle.script.proofs.Coming.{short, progress_of, same_place, answered_on}
use Rattle.script.proofs.Printing.{operation_some, lines_some}

module _ (rs ws os bs : List ℕ) (last : Bool) {out : List ℕ} {at : ℕ} where
  pub goes_nowhere : (p : Progress) {p' : Progress} {rs' ws' os' : List ℕ} → p' ≡ p → rs' ≡ rs → ws' ≡ ws → os' ≡ os → Outstanding os p.next p.left
      → Goes p rs ws os bs last out at (record { progress = p'; taken = 0; end = at }) rs' ws' os' out
  goes_nowhere p q r w o held = record {
    text = [];
    bytes = sym (stored_none out at);
    behind = omega arith;
    goes_on = λ more ends. rw (q, r, w, o);
    state = λ more. rw (q, r, w, o);
    within = omega arith;
    place = rw q (omega arith);
    held = rw (q, o) held;
  }

pub same_lent : {b : Program} → SameLent b b
same_lent = record { ranges = refl; table = refl; operations = refl }

-- the next operation, and those behind it
record Following (os : List ℕ) (i n : ℕ) : Type 0 where
  operation : Operation
  is : operation_at os i ≡ Some operation
  lines : pending os i n ≡ listed_lines (operation_at os i) ++ pending os (i + 1) (n - 1)
  rest : Outstanding os (i + 1) (n - 1)

following : (os : List ℕ) (i n : ℕ) → 0 < n → Outstanding os i n → Following os i n
unfolding pending Known
following os i zero h k = absurd (omega arith)
following os i (suc n) h k =
    let e : suc n - 1 ≡ n = omega arith in
    record {
      operation = k.known.0.0;
      is = k.known.0.1;
      lines = rw (add-one i, e);
      rest = record { within = omega (arith, k.within); known = rw (add-one i, e) k.known.1 };
    }

pub operation_turns : (b : Program) {l m : Lines} → 0 < b.progress.left → Outstanding b.operations.now b.progress.next b.progress.left
    → Adds l (listed_lines (operation_at b.operations.now b.progress.next)) 320 m → (bs : List ℕ) (last : Bool)
    → TurnsFrom b bs last l 0 (record b { progress = record b.progress { next = b.progress.next + 1; left = b.progress.left - 1 } }) m
unfolding to_come
operation_turns b some_left held put bs last =
    let p : Progress = b.progress in
    let os : List ℕ = b.operations.now in
    let f = following os p.next p.left some_left held in
    let text : List ℕ = listed_lines (operation_at os p.next) in
    record {
      turn = record {
        goes = record {
          text = text;
          bytes = put.bytes;
          behind = put.behind;
          goes_on = λ more ends. rw f.lines (append_assoc text (pending os (p.next + 1) (p.left - 1)) _);
          state = λ more. refl;
          within = omega arith;
          place = omega arith;
          held = f.rest;
        };
        most = omega (arith, put.behind, put.within);
        idle = λ e. absurd (omega (arith, put.behind, ap (λ (o : Option Operation). length (listed_lines o)) f.is, operation_some f.operation));
      };
      lent = record { ranges = refl; table = refl; operations = refl };
      same_slice = put.same_slice;
      same_length = put.same_length;
    }

-- after a record
pub none_outstanding : {os : List ℕ} → Outstanding os 0 0
unfolding Known
none_outstanding = record { within = omega arith; known = tt }

outstanding : (st : State) (bs : List ℕ) → Outstanding (step st bs).state.operations 0 (operation_count (step st bs).told)
outstanding st bs = go (step st bs).told refl
  where
    go : (t : Told) → (step st bs).told ≡ t → Outstanding (step st bs).state.operations 0 (operation_count t)
    go (emptied n) e = none_outstanding
    go (granted g) e = (wrote st bs g e).there
    go (shows x v) e = none_outstanding
    go (refusal n q) e = none_outstanding
    go other_mark e = none_outstanding
    go cut e = none_outstanding
    go ended e = none_outstanding

module _ (b : Program) (bs : List ℕ) (last : Bool) {l : Lines} {r : Response} {q : Program} (none : b.progress.left ≡ 0)
    (did : Does (step (held b) bs) b r q) where
  pub answered_turns : {taken : ℕ} {m : Lines} → b.progress.stopped ≡ false → taken ≡ record_size (record_at bs) → waits last (response_told r) ≡ false
      → Adds l (lines q.progress.place [] (response_told r)) 128 m
      → TurnsFrom b bs last l taken (record q { progress = progress_of q.progress r taken }) m
  answered_turns {taken} going takes goes put = record {
    turn = record {
      goes = record {
        text = lines b.progress.place [] (response_told r);
        bytes = rw (← same_place b bs did) put.bytes;
        behind = rw (← same_place b bs did) put.behind;
        goes_on = answered_on b bs did last none going takes goes;
        state = λ more. rw takes (leaves-step (held b) bs more ∙ ap (λ (d : Step). leaves d.state more) did.leaves);
        within = omega (arith, takes, record_fits bs);
        place = rw (same_place b bs did);
        held = rw did.leaves at (outstanding (held b) bs);
      };
      most = omega (arith, put.behind, put.within);
      idle = λ e. ⊎_elim (λ (t : response_told r ≡ ended). silent t) (λ h. absurd (omega (arith, put.behind))) (lines_some q.progress.place (response_told r));
    };
    lent = record { ranges = did.lent.ranges; table = did.lent.table; operations = did.lent.operations };
    same_slice = put.same_slice;
    same_length = put.same_length;
  }
    where
      silent : response_told r ≡ ended → Idle (progress_of q.progress r taken) (drop taken bs) last
      silent t = record { none_left = ap operation_count t; because = inl (ap stops t) }

  pub waiting_turns : Outstanding b.operations.now b.progress.next b.progress.left → waits last (response_told r) ≡ true → TurnsFrom b bs last l 0 q l
  waiting_turns outstanding h =
      let k = waiting last (response_told r) h in
      let s = short (held b) bs (rw did.leaves k.1) in
      let same : held q ≡ held b = sym (ap (λ (d : Step). d.state) did.leaves) ∙ s.1 in
      let stays : q.progress ≡ b.progress =
      did.stays ∙ λ i. record b.progress { space = (same i).space; ranges = (same i).lent.ranges.count; count = (same i).lent.table.count } in
      record {
        turn = record {
          goes = goes_nowhere b.ranges.now b.table.now b.operations.now bs last b.progress stays (ap (λ (st : State). st.lent.ranges.words) same)
              (ap (λ (st : State). st.lent.table.words) same) (ap (λ (st : State). st.operations) same) outstanding;
          most = omega arith;
          idle = λ e. record { none_left = rw stays none; because = inr (k.0, s.0) };
        };
        lent = did.lent;
        same_slice = refl;
        same_length = refl;
      }
    where
      waiting : (last : Bool) (t : Told) → waits last t ≡ true → (last ≡ false) × (is_short t ≡ true)
      waiting true t e = cc
      waiting false t e = (refl, e)

pub stopped_turns : (b : Program) (bs : List ℕ) (last : Bool) {l : Lines} → b.progress.left ≡ 0 → b.progress.stopped ≡ true
    → Outstanding b.operations.now b.progress.next b.progress.left → TurnsFrom b bs last l 0 b l
stopped_turns b bs last none stopped held = record {
  turn = record {
    goes = goes_nowhere b.ranges.now b.table.now b.operations.now bs last b.progress refl refl refl refl held;
    most = omega arith;
    idle = λ e. record { none_left = none; because = inl stopped };
  };
  lent = same_lent;
  same_slice = refl;
  same_length = refl;
}
