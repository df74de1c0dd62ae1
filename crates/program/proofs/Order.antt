-- What stands where no record does; records are taken one behind the other, and each does what its call does.
-- Assumes nothing.
use mathlib.Core.Path.{◌≡◌, refl, sym, ap, ap₂, subst, ◌∙◌}
use mathlib.Core.Bool.{Bool, true, false, ◌&&◌}
use mathlib.Core.List.{List, [], ◌∷◌, ◌++◌, append-nil}
use Prim.Native.Nat.{ℕ, zero, suc, ◌+◌, ◌<◌}
use native.Mathlib.Omega.{arith}
use lib.Dec.{eqb}
use lib.ListN.{length, take, drop, length-drop}
use borrow.Author.Tests.{lt-leb, eqb-true, ne_eqb}
use Rattle.model.specs.Rows.{Reply}
use Rattle.model.specs.Calls.{request_of, bytes, Lent, purpose_for, count_after, ranges_count_after, lookup}
use Rattle.model.proofs.Exactly.{exactly}
use Rattle.program.specs.Prelude.{Request, Seen, Grant}
use Rattle.program.specs.Text.{ascii}
use Rattle.program.specs.Script.{has_mark, record_at, record_size, State, granted, shows, refusal, other_mark, cut, told_by, bind_in, request_in, step_on, step, lines, operations_for, operations_in, run, output}
use Rattle.program.specs.Claims.{Fronts, Takes, InOrder, HandsOver, RunsInOrder, DoesCalls}
use Rattle.program.specs.declared.ScriptRecord.{ScriptRecord}
use Rattle.program.specs.declared.ScriptRecord.TheVariants.{SetSpace, Bind, LookUp, OtherMark, Cut, End}
use Rattle.program.proofs.Lines.{line_texts}
use Rattle.program.proofs.Records.{run_fuel}

-- ── where no record stands ──

no_mark : (a b x y : ℕ) → (a ∷ b ∷ [] ≡ x ∷ y ∷ [] → ⊥) → (bs : List ℕ) → has_mark x y (a ∷ b ∷ bs) ≡ false
no_mark a b x y n bs = go (eqb a x) (eqb b y) refl refl
  where
    go : (s t : Bool) → eqb a x ≡ s → eqb b y ≡ t → (s && t) ≡ false
    go true true p q = absurd (n (ap₂ (λ (u v : ℕ). u ∷ v ∷ []) (eqb-true a x p) (eqb-true b y q)))
    go true false p q = refl
    go false t p q = refl

-- two bytes and more are neither none nor one
longer : (cs : List ℕ) (k : ℕ) → k < 2 → eqb (suc (suc (length cs))) k ≡ false
longer cs k h = ne_eqb (suc (suc (length cs))) k (λ e. omega arith)

pub fronts : Fronts
unfolding record_at ascii
fronts = record {
  nothing = refl;
  one_byte = λ a. refl;
  cut_space = λ bs h. rw (longer bs 0 (omega arith), longer bs 1 (omega arith), lt-leb 34 (suc (suc (length bs))) (omega arith));
  cut_request = λ bs h. rw (longer bs 0 (omega arith), longer bs 1 (omega arith), lt-leb 42 (suc (suc (length bs))) (omega arith));
  cut_address = λ bs h. rw (longer bs 0 (omega arith), longer bs 1 (omega arith), lt-leb 10 (suc (suc (length bs))) (omega arith));
  other = λ a b bs h. rw (
    longer bs 0 (omega arith),
    longer bs 1 (omega arith),
    no_mark a b 83 80 h.0 bs,
    no_mark a b 82 81 h.1.0 bs,
    no_mark a b 76 75 h.1.1.0 bs,
  );
}

-- ── in order ──

takes_size : (r : ScriptRecord) (n : ℕ) → Takes r n → (record_size r ≡ n) × (0 < n)
takes_size (SetSpace s) n h = (sym h, omega arith)
takes_size Bind n h = (sym h, omega arith)
takes_size (LookUp x) n h = (sym h, omega arith)
takes_size OtherMark n h = absurd h
takes_size Cut n h = absurd h
takes_size End n h = absurd h

abbrev IsEnd : ScriptRecord → Type 0
IsEnd (SetSpace s) = ⊥
IsEnd Bind = ⊥
IsEnd (LookUp x) = ⊥
IsEnd OtherMark = ⊥
IsEnd Cut = ⊥
IsEnd End = Unit {0}

in_order : (st : State) (p : ℕ) (bs : List ℕ) → InOrder st p bs
unfolding run step record_at
in_order st p [] = record {
  goes_on = λ n h. absurd h;
  stops_mark = λ e. absurd (subst IsEnd e tt);
  stops_cut = λ e. absurd (subst IsEnd e tt);
  stops_end = λ e. refl;
}
in_order st p (b ∷ bs) = record {
  goes_on = λ n h.
      let s = takes_size (record_at (b ∷ bs)) n h in
      ap (λ (text : List ℕ). lines p (operations_in st (b ∷ bs)) (step st (b ∷ bs)).told ++ text) (rw (s.0, ne_eqb n 0 (λ z. omega (arith, s.1)))
      (run_fuel (length bs) (length (drop n (b ∷ bs))) (step st (b ∷ bs)).state (p + n) (drop n (b ∷ bs)) (simp length-drop (omega (arith, s.1))) (omega arith)));
  stops_mark = λ e. rw e (append-nil (lines p (operations_in st (b ∷ bs)) other_mark) ∙ (line_texts p (operations_in st (b ∷ bs))).of_mark);
  stops_cut = λ e. rw e (append-nil (lines p (operations_in st (b ∷ bs)) cut) ∙ (line_texts p (operations_in st (b ∷ bs))).of_cut);
  stops_end = λ e. rw e;
}

-- with the flag a request makes no operation, whatever its op
none_flagged : (n op : ℕ) (r : Request) (l : Lent) → n ≡ 256 → operations_for (purpose_for n op) r l ≡ []
none_flagged n zero r l e = ap (λ (f : ℕ). operations_for (purpose_for f zero) r l) e
none_flagged n (suc k) r l e = ap (λ (f : ℕ). operations_for (purpose_for f (suc k)) r l) e

hands_over : (st : State) (bs : List ℕ) → HandsOver st bs
hands_over st bs =
    let r : Request = request_of (request_in bs) in
    record {
      plain = λ e. ap (λ (f : ℕ). operations_for (purpose_for f r.op) r st.lent) e;
      flagged = λ e. none_flagged r.flags r.op r st.lent e;
    }

pub runs_in_order : RunsInOrder
unfolding output
runs_in_order = record { from = λ bs. refl; on = in_order; hands_over = hands_over }

-- ── what a record does ──

module _ (st : State) (bs : List ℕ) where
  step_is : {r : ScriptRecord} → record_at bs ≡ r → step st bs ≡ step_on r st bs
  unfolding step
  step_is e = ap (λ (r : ScriptRecord). step_on r st bs) e

  -- a request, by what it is answered
  bind_does : {u : Reply Grant} → (bind_in st bs).answer ≡ u → step_on Bind st bs ≡ record {
    told = told_by granted u;
    state = record {
      space = st.space;
      lent = record {
        table = record { words = (bind_in st bs).table; count = count_after u st.lent.table.count };
        ranges = record { words = (bind_in st bs).ranges; count = ranges_count_after u st.lent.ranges.count };
      };
      operations = (bind_in st bs).operations;
    };
  }
  bind_does e = λ i. record {
    told = told_by granted (e i);
    state = record {
      space = st.space;
      lent = record {
        table = record { words = (bind_in st bs).table; count = count_after (e i) st.lent.table.count };
        ranges = record { words = (bind_in st bs).ranges; count = ranges_count_after (e i) st.lent.ranges.count };
      };
      operations = (bind_in st bs).operations;
    };
  }

  look_does : (x : ℕ) {u : Reply Seen} → lookup st.space st.lent x ≡ u → step_on (LookUp x) st bs ≡ record { told = told_by (shows x) u; state = st }
  look_does x e = λ i. record { told = told_by (shows x) (e i); state = st }

pub does_calls : DoesCalls
does_calls st bs = record {
  binds = λ g r e. step_is st bs r ∙ bind_does st bs e;
  refuses = λ n p r e.
      let k = exactly.unchanged st.space st.lent st.operations (bytes (take 40 (drop 2 bs))) n p e in
      step_is st bs r ∙ bind_does st bs e ∙ λ i. record {
        told = refusal n p;
        state = record {
          space = st.space;
          lent = record {
            table = record { words = k.0 i; count = st.lent.table.count };
            ranges = record { words = k.1 i; count = st.lent.ranges.count };
          };
          operations = k.2 i;
        };
      };
  looks = λ x v r e. step_is st bs r ∙ look_does st bs x e;
  looks_refused = λ x n p r e. step_is st bs r ∙ look_does st bs x e;
}
