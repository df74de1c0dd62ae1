-- A state that the program comes to passes the rows 2, 3, 4, 5, 17 and 18, and a request's part is 40 bytes long: none
-- of these refuses.
-- Assumes nothing.
use mathlib.Core.Path.{◌≡◌, refl, sym, ap, subst}
use mathlib.Core.Logic.{◌⊎◌, inl, inr, ⊎_elim}
use mathlib.Core.Bool.{Bool, true, false}
use mathlib.Core.List.Memᴰ
use mathlib.Core.List.{List, [], ◌∷◌}
use Prim.Native.Nat.{ℕ, ◌*◌, ◌≤◌}
use lib.Dec.{T, eqb}
use lib.ListN.{length, length-replicate}
use borrow.Author.Tests.{eqb-true, eqb-false}
use Rattle.program.specs.Prelude.{Space, Request, Seen, Grant}
use Rattle.model.specs.Rows.{choose, Row, Reply, refused, answered, decide}
use Rattle.model.specs.Rules.{sparse_flag, space_row, form_rows, request_rows}
use Rattle.model.specs.Table.{Table, capacity, mappings_in, bad_place, length_row, operations_row, count_row, mappings_row, stale_row}
use Rattle.model.specs.Ranges.{ranges_in, list_tests, list_row}
use Rattle.model.specs.Calls.{request_of, bytes, Lent, lent_rows, purpose, last_rows, bind_rows, grant_for, count_after, ranges_count_after, lent_after, bind, lookup}
use Rattle.model.specs.Exactly.{◌∈◌, Each}
use Rattle.program.specs.Script.{record_at, record_size, State, Told, emptied, granted, shows, refusal, other_mark, cut, ended, told_by, after_bind, request_in, bind_in, step_on, step, program_mappings, program_ranges, start}
use Rattle.program.specs.Claims.{Reached, started, stepped, NeverBroken}
use Rattle.program.specs.declared.ScriptRecord.{ScriptRecord}
use Rattle.program.specs.declared.ScriptRecord.TheVariants.{SetSpace, Bind, LookUp, OtherMark, Cut, End}
use Rattle.model.proofs.Tests.{tests, Alls}
use Rattle.model.proofs.Actions.{each_append}
use Rattle.model.proofs.Rows.{answered_passed, decide_holds, last_row}
use Rattle.model.proofs.Zeros.{zeros_tests}
use Rattle.model.proofs.Groups.{LentPassed, lent_passed, each_lent, each_form, each_request}
use Rattle.model.proofs.Rules.{space_says}
use Rattle.model.proofs.Exactly.{exactly, answer_is}
use Rattle.model.proofs.Demand2.{demand_2}
use Rattle.model.proofs.Replays.{replay_claim}
use Rattle.model.proofs.Sparse.{sparse_ranges}
use Rattle.program.proofs.Records.{record_fits, request_length}
use Rattle.program.proofs.Spaces.{sets_space}

-- ── the states that the program comes to ──

-- the rows that look at what is lent pass, whatever the space
record Sound (st : State) : Type 0 where
  length_right : Alls (length_row st.lent.table).tests
  operations_fit : Alls (operations_row (length st.operations) st.lent.table).tests
  count : Alls (count_row st.lent.table).tests
  places : Alls (mappings_row st.space st.lent.table).tests
  behind : Alls (stale_row st.lent.table).tests
  list : Alls (list_row st.space st.lent.ranges).tests

sound_start : Sound start
unfolding mappings_in bad_place ranges_in list_tests
sound_start = record {
  length_right = (tt, (tt, (tt, tt)));
  operations_fit = (tt, tt);
  count = (tt, tt);
  places = (tt, tt);
  behind = zeros_tests (4 * program_mappings);
  list = (tt, (tt, (tt, zeros_tests (2 * program_ranges))));
}

sound_space : (st : State) (bs : List ℕ) (s : Space) → record_at bs ≡ SetSpace s → Sound st → Sound (step st bs).state
unfolding mappings_in bad_place ranges_in list_tests
sound_space st bs s e h =
    let l = length-replicate {A = ℕ} (length st.lent.table.words) 0 in
    let k = length-replicate {A = ℕ} (length st.lent.ranges.words) 0 in
    ⊎_elim
    (λ y. rw ((sets_space st bs s e).granted ((space_says s).0 y.0)) (record {
      length_right = omega (tests, l, h.length_right);
      operations_fit = omega (tests, l, h.operations_fit);
      count = omega (tests, l);
      places = (tt, tt);
      behind = zeros_tests (length st.lent.table.words);
      list = (omega (tests, k, h.list.0), (omega (tests, k, h.list.1.0), (omega (tests, k), zeros_tests (length st.lent.ranges.words))));
    }))
    (λ n. rw ((sets_space st bs s e).refused (λ r. n.0 ((space_says s).1 r))) h) (last_row [] (space_row s) (capacity st.lent.table) tt)

-- what a look-up answers of passes
answers_passed : (s : Space) (l : Lent) (x : ℕ) (v : Seen) → lookup s l x ≡ answered v → LentPassed s [] l
unfolding lookup
answers_passed s l x v e = lent_passed s [] l (answered_passed (lent_rows s [] l) _ v e).0

sound_lent : (s : Space) (l : Lent) (os : List ℕ) → LentPassed s [] l → Alls (operations_row (length os) l.table).tests
    → Sound (record { space = s; lent = l; operations = os })
sound_lent s l os p o = record {
  length_right = p.table.length_right;
  operations_fit = o;
  count = p.table.count;
  places = p.table.places;
  behind = p.table.behind;
  list = p.list;
}

sound_bind : (st : State) (bs : List ℕ) → Sound st → Sound (after_bind st (bind_in st bs))
sound_bind st bs h = go (bind_in st bs).answer refl
  where
    l : Lent
    l = st.lent

    r : Request
    r = request_of (request_in bs)

    -- by its flag
    grant : (g : Grant) → (bind_in st bs).answer ≡ answered g → (b : Bool) → eqb r.flags 256 ≡ b → Sound (after_bind st (bind_in st bs))
    grant g e true f =
        let k = sparse_ranges.flagged st.space l st.operations (bytes (request_in bs)) g e (eqb-true r.flags 256 f) in
        sound_lent st.space (lent_after l (bind_in st bs)) (bind_in st bs).operations (answers_passed st.space _ 0 _ (k.answers 0))
        (omega (tests, h.operations_fit, ap (λ (t : Table). length t.words) k.table, ap (λ (ws : List ℕ). length ws) k.operations.0))
    grant g e false f =
        let k = demand_2 st.space l st.operations (bytes (request_in bs)) g (eqb-false r.flags 256 f) e in
        let w = replay_claim st.space l st.operations (bytes (request_in bs)) g (eqb-false r.flags 256 f) e in
        sound_lent st.space (lent_after l (bind_in st bs)) (bind_in st bs).operations (answers_passed st.space _ 0 _ (k.answers 0))
        (omega (tests, h.operations_fit, k.zeros.1, w.words.1))

    go : (u : Reply Grant) → (bind_in st bs).answer ≡ u → Sound (after_bind st (bind_in st bs))
    go (refused n p) e =
        let k = exactly.unchanged st.space l st.operations (bytes (request_in bs)) n p e in
        subst Sound (sym (λ i. record {
          space = st.space;
          lent = record {
            table = record { words = k.0 i; count = count_after (e i) l.table.count };
            ranges = record { words = k.1 i; count = ranges_count_after (e i) l.ranges.count };
          };
          operations = k.2 i;
        })) h
    go (answered g) e = grant g e (eqb r.flags 256) refl

sound_step : (r : ScriptRecord) (st : State) (bs : List ℕ) → record_at bs ≡ r → Sound st → Sound (step st bs).state
unfolding step
sound_step (SetSpace s) st bs e h = sound_space st bs s e h
sound_step Bind st bs e h = rw e (sound_bind st bs h)
sound_step (LookUp x) st bs e h = rw e h
sound_step OtherMark st bs e h = rw e h
sound_step Cut st bs e h = rw e h
sound_step End st bs e h = rw e h

sound : {st : State} → Reached st → Sound st
sound started = sound_start
sound (stepped {st = st} r bs) = sound_step (record_at bs) st bs refl (sound r)

-- ── what may be told ──

abbrev numbers : List ℕ
numbers = 1 ∷ 6 ∷ 7 ∷ 8 ∷ 9 ∷ 10 ∷ 11 ∷ 13 ∷ 14 ∷ 19 ∷ 20 ∷ []

abbrev among : ℕ → List ℕ → Bool
among n [] = false
among n (m ∷ ms) = choose (eqb n m) true (among n ms)

among_mem : (n : ℕ) (ms : List ℕ) → T (among n ms) → n ∈ ms
among_mem n [] h = absurd h
among_mem n (m ∷ ms) h = go (eqb n m) refl (among_mem n ms) h
  where
    go : (b : Bool) → eqb n m ≡ b → (T (among n ms) → n ∈ ms) → T (choose b true (among n ms)) → n ∈ (m ∷ ms)
    go true e ih h = Memᴰ.head (eqb-true n m e)
    go false e ih h = Memᴰ.tail (ih h)

-- a refusal has one of the numbers
abbrev Allowed : Told → Type 0
Allowed (emptied n) = Unit {0}
Allowed (granted g) = Unit {0}
Allowed (shows x v) = Unit {0}
Allowed (refusal n p) = T (among n numbers)
Allowed other_mark = Unit {0}
Allowed cut = Unit {0}
Allowed ended = Unit {0}

-- a row passes, or its number may be told
abbrev Tellable : Row → Type 0
Tellable w = Alls w.tests ⊎ T (among w.number numbers)

lent_tellable : (st : State) (between : List Row) → Sound st → Each Tellable between → Each Tellable (lent_rows st.space between st.lent)
lent_tellable st between h k =
    each_lent Tellable st.space between st.lent (inr tt) (inl h.length_right) k (inl h.count) (inl h.places) (inl h.behind) (inl h.list)

bind_allowed : (st : State) (bs : List ℕ) → Sound st → length bs ≡ 40
    → Allowed (told_by granted (bind st.space st.lent st.operations (bytes bs)).answer)
unfolding bind bind_rows
bind_allowed st bs h e = subst (λ (u : Reply Grant). Allowed (told_by granted u)) (sym (answer_is (decide rows grant) (purpose r) r l st.operations))
    (decide_holds (λ u. Allowed (told_by granted u)) rows grant (
      inl (omega tests),
      each_append Tellable (form_rows sparse_flag r) _ (each_form Tellable sparse_flag r (inr tt) (inr tt))
          (each_append Tellable (lent_rows st.space between l) _ (lent_tellable st between h (inl h.operations_fit, tt))
          (each_append Tellable (request_rows st.space r) (last_rows (purpose r) r l)
          (each_request Tellable st.space r (inr tt) (inr tt) (inr tt) (inr tt) (inr tt)) (inr tt, (inr tt, (inr tt, tt))))),
    ) tt)
  where
    r : Request
    r = request_of bs

    l : Lent
    l = st.lent

    between : List Row
    between = operations_row (length st.operations) l.table ∷ []

    rows : List Row
    rows = bind_rows st.space l (length st.operations) (bytes bs)

    grant : Grant
    grant = grant_for (purpose r) r l

told_allowed : (r : ScriptRecord) (st : State) (bs : List ℕ) → Sound st → record_size r ≤ length bs → Allowed (step_on r st bs).told
unfolding lookup
told_allowed (SetSpace s) st bs h k = decide_holds (λ u. Allowed (told_by emptied u)) (space_row s ∷ []) (capacity st.lent.table) (inr tt, tt) tt
told_allowed Bind st bs h k = bind_allowed st (request_in bs) h (request_length bs k)
told_allowed (LookUp x) st bs h k =
    decide_holds (λ u. Allowed (told_by (shows x) u)) (lent_rows st.space [] st.lent) _ (lent_tellable st [] h tt) tt
told_allowed OtherMark st bs h k = tt
told_allowed Cut st bs h k = tt
told_allowed End st bs h k = tt

pub never_broken : NeverBroken
unfolding step
never_broken st r bs n p e = among_mem n numbers (subst Allowed e (told_allowed (record_at bs) st bs (sound r) (record_fits bs)))
