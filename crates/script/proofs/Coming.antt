-- What a record gives, and what is to come after it.
-- Assumes nothing.
use mathlib.Core.Path.{◌≡◌, refl, sym, ap, ◌∙◌}
use mathlib.Core.Logic.{◌⊎◌, inl, inr}
use mathlib.Core.Bool.{Bool, true, false}
use mathlib.Core.List.{List, [], ◌∷◌, ◌++◌, append_assoc, append-nil, flat_map}
use Prim.Native.Nat.{ℕ, ◌+◌}
use native.Mathlib.Omega.{arith}
use lib.Dec.{eqb}
use lib.ListN.{length, drop, length-drop}
use lib.Seq.{drop-append-le}
use Rattle.model.specs.declared.Grant.{Grant}
use Rattle.model.specs.declared.Seen.{Seen}
use Rattle.program.specs.declared.ScriptRecord.{ScriptRecord}
use Rattle.program.specs.declared.ScriptRecord.TheVariants.{SetSpace, Bind, LookUp, OtherMark, Cut, End}
use Rattle.model.specs.Rows.{choose, Reply, refused, answered}
use Rattle.model.specs.Calls.{lookup}
use Rattle.program.specs.Script.{State, Told, emptied, granted, shows, refusal, other_mark, cut, ended, record_at, record_size, told_by, set_space, bind_in, Step, step_on, step, lines, operations_in, run, response_told}
use Rattle.program.proofs.Records.{record_fits, prefix, where_some, run_fuel}
use Rattle.script.specs.declared.Progress.{Progress}
use Rattle.program.specs.declared.Response.{Response}
use Rattle.script.specs.declared.Program.{Program}
use Rattle.script.specs.Program.{held, Does}
use Rattle.script.specs.Progress.{pending, to_come, is_short, waits, stops, operation_count}
use Rattle.script.proofs.Pending.{wrote}

-- ── a record: its lines, and what the rest gives ──

run_step : (st : State) (p : ℕ) (bs : List ℕ) → run (length bs) st p bs
    ≡ lines p (operations_in st bs) (step st bs).told ++ choose (eqb (record_size (record_at bs)) 0) []
    (run (length (drop (record_size (record_at bs)) bs)) (step st bs).state (p + record_size (record_at bs)) (drop (record_size (record_at bs)) bs))
unfolding run step record_at
run_step st p [] = refl
run_step st p (b ∷ bs) =
    let n : ℕ = record_size (record_at (b ∷ bs)) in
    ap (◌++◌ (lines p (operations_in st (b ∷ bs)) (step st (b ∷ bs)).told)) (where_some n [] (λ some.
    run_fuel (length bs) (length (drop n (b ∷ bs))) _ _ (drop n (b ∷ bs)) (simp length-drop (omega (arith, some))) (omega arith)))

-- the lines are the answer's own, and those of the operations that it hands over
lines_split : (p : ℕ) (st : State) (bs : List ℕ) → lines p (operations_in st bs) (step st bs).told
    ≡ lines p [] (step st bs).told ++ pending (step st bs).state.operations 0 (operation_count (step st bs).told)
unfolding pending flat_map
lines_split p st bs = go (step st bs).told refl
  where
    os : List ℕ
    os = (step st bs).state.operations

    go : (t : Told) → (step st bs).told ≡ t → lines p (operations_in st bs) t ≡ lines p [] t ++ pending os 0 (operation_count t)
    go (emptied n) e = sym (append-nil _)
    go (granted g) e = rw ((wrote st bs g e).lines, append-nil)
    go (shows x v) e = sym (append-nil _)
    go (refusal n q) e = sym (append-nil _)
    go other_mark e = sym (append-nil _)
    go cut e = sym (append-nil _)
    go ended e = sym (append-nil _)

-- ── a record that waits for more bytes, and one that does not ──

module _ (st : State) (bs : List ℕ) where
  -- it is cut or there is none, and nothing has changed
  Short : ScriptRecord → Type 0
  Short e = ((e ≡ Cut) ⊎ (e ≡ End)) × ((step_on e st bs).state ≡ st)

  short_on : (e : ScriptRecord) → is_short (step_on e st bs).told ≡ true → Short e
  unfolding Short
  short_on (SetSpace s) h = go (set_space s st) h
    where
      go : (u : Reply ℕ) → is_short (told_by emptied u) ≡ true → Short (SetSpace s)
      go (refused n q) k = cc
      go (answered n) k = cc
  short_on Bind h = go (bind_in st bs).answer h
    where
      go : (u : Reply Grant) → is_short (told_by granted u) ≡ true → Short Bind
      go (refused n q) k = cc
      go (answered n) k = cc
  short_on (LookUp x) h = go (lookup st.space st.lent x) h
    where
      go : (u : Reply Seen) → is_short (told_by (shows x) u) ≡ true → Short (LookUp x)
      go (refused n q) k = cc
      go (answered n) k = cc
  short_on OtherMark h = cc
  short_on Cut h = (inl refl, refl)
  short_on End h = (inr refl, refl)

  pub short : is_short (step st bs).told ≡ true → ((record_at bs ≡ Cut) ⊎ (record_at bs ≡ End)) × ((step st bs).state ≡ st)
  unfolding step Short
  short h = short_on (record_at bs) h

  -- the record is that of the whole script
  same : (more : List ℕ) (last : Bool) → (last ≡ true → more ≡ []) → waits last (step st bs).told ≡ false
      → (record_at (bs ++ more) ≡ record_at bs) × (step st (bs ++ more) ≡ step st bs)
  unfolding step
  same more true none h = rw (none refl, append-nil) (refl, refl)
  same more false none h = go (prefix bs more)
    where
      go : (record_at bs ≡ Cut) ⊎ ((record_at bs ≡ End) ⊎ ((record_at (bs ++ more) ≡ record_at bs) × ((st : State) → step st (bs ++ more) ≡ step st bs)))
          → (record_at (bs ++ more) ≡ record_at bs) × (step st (bs ++ more) ≡ step st bs)
      go (inl e) = let k = ap (λ (r : ScriptRecord). is_short (step_on r st bs).told) e in cc
      go (inr (inl e)) = let k = ap (λ (r : ScriptRecord). is_short (step_on r st bs).told) e in cc
      go (inr (inr k)) = (k.0, k.1 st)

-- ── what an answered record leaves to come ──

abbrev pub progress_of : Progress → Response → ℕ → Progress
progress_of q r taken = record q { place = q.place + taken; next = 0; left = operation_count (response_told r); stopped = stops (response_told r) }

-- what a step tells and leaves, having taken n bytes, and what the rest gives
coming : ℕ → Step → ℕ → List ℕ → List ℕ
coming p d n rest = lines p [] d.told ++ (pending d.state.operations 0 (operation_count d.told) ++ choose (eqb n 0) [] (run (length rest) d.state (p + n) rest))

run_coming : (st : State) (p : ℕ) (bs : List ℕ) → run (length bs) st p bs ≡ coming p (step st bs) (record_size (record_at bs)) (drop (record_size (record_at bs)) bs)
unfolding coming
run_coming st p bs =
    let n : ℕ = record_size (record_at bs) in
    let rest : List ℕ = choose (eqb n 0) [] (run (length (drop n bs)) (step st bs).state (p + n) (drop n bs)) in
    run_step st p bs ∙ ap (λ (l : List ℕ). l ++ rest) (lines_split p st bs)
    ∙ append_assoc (lines p [] (step st bs).told) (pending (step st bs).state.operations 0 (operation_count (step st bs).told)) rest

-- it stops where a record takes nothing
stops_size : (st : State) (bs : List ℕ) → eqb (record_size (record_at bs)) 0 ≡ stops (step st bs).told
unfolding step
stops_size st bs = go (record_at bs)
  where
    told : {A : Type 0} (f : A → Told) → ((a : A) → stops (f a) ≡ false) → (a : Reply A) → false ≡ stops (told_by f a)
    told f h (refused n p) = refl
    told f h (answered a) = sym (h a)

    go : (e : ScriptRecord) → eqb (record_size e) 0 ≡ stops (step_on e st bs).told
    go (SetSpace s) = told emptied (λ a. refl) (set_space s st)
    go Bind = told granted (λ a. refl) (bind_in st bs).answer
    go (LookUp x) = told (shows x) (λ a. refl) (lookup st.space st.lent x)
    go OtherMark = refl
    go Cut = refl
    go End = refl

module _ (b : Program) (bs : List ℕ) {r : Response} {q : Program} (did : Does (step (held b) bs) b r q) where
  pub same_place : q.progress.place ≡ b.progress.place
  same_place = ap (λ (p : Progress). p.place) did.stays

  pub answered_on : (last : Bool) {taken : ℕ} → b.progress.left ≡ 0 → b.progress.stopped ≡ false → taken ≡ record_size (record_at bs)
      → waits last (response_told r) ≡ false → (more : List ℕ) → (last ≡ true → more ≡ [])
      → to_come b.progress b.ranges.now b.table.now b.operations.now (bs ++ more) ≡ lines b.progress.place [] (response_told r)
      ++ to_come (progress_of q.progress r taken) q.ranges.now q.table.now q.operations.now (drop taken bs ++ more)
  unfolding to_come pending coming
  answered_on last {taken} none going takes goes more ends =
      let all : List ℕ = bs ++ more in
      let k = same (held b) bs more last ends (rw did.leaves goes) in
      let n : record_size (record_at all) ≡ taken = ap record_size k.0 ∙ sym takes in
      let rest : drop (record_size (record_at all)) all ≡ drop taken bs ++ more =
      ap (λ (m : ℕ). drop m all) n ∙ drop-append-le taken bs more (omega (arith, takes, record_fits bs)) in
      let d = k.1 ∙ did.leaves in
      let s : eqb taken 0 ≡ stops (response_told r) = ap (λ (m : ℕ). eqb m 0) takes ∙ stops_size (held b) bs ∙ ap (λ (d : Step). stops d.told) did.leaves in
      rw (none, going, same_place, ← s) (run_coming (held b) b.progress.place all ∙ λ i. coming b.progress.place (d i) (n i) (rest i))
