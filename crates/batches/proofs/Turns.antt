-- The requests of a batch in their turn: what rows that pass say of all of them, and which row can refuse.
-- Assumes nothing.
use mathlib.Core.Path.{◌≡◌, refl, sym, ap, ◌∙◌}
use mathlib.Core.Logic.{◌⊎◌, inl, inr}
use mathlib.Core.Bool.{Bool, true, false}
use mathlib.Core.List.{List, [], ◌∷◌, ◌++◌}
use Prim.Native.Nat.{ℕ, suc, ◌+◌, ◌-◌, ◌*◌, ◌≤◌, ◌<◌}
use native.Mathlib.Omega.{arith}
use lib.Dec.{T, leb, eqb}
use lib.ListN.{length, length-append}
use Rattle.model.specs.Rows.{all, Row, Reply, refused, answered, placed, choose, decide, verdict, number_of}
use Rattle.model.specs.Rules.{form_rows, request_rows}
use Rattle.model.specs.Cut.{after, operations}
use Rattle.model.specs.Exactly.{Each}
use Rattle.model.proofs.Actions.{run}
use Rattle.model.proofs.Tests.{Alls, tests, eq→eqb, all_facts}
use Rattle.model.proofs.Rows.{and_then, decide-append, Passed, passed_split, not_both, past, passed_or_refused, decide_holds}
use Rattle.model.proofs.Chain.{Chain}
use Rattle.model.proofs.Run.{Run, run-after}
use Rattle.model.proofs.Table.{top}
use Rattle.model.proofs.Operations.{operations_most}
use Rattle.model.proofs.Counts.{operations-after_most}
use Rattle.model.proofs.Ask.{Asked, asked_by, by_asked}
use Rattle.model.proofs.Granted.{after_chain}
use Rattle.batches.specs.Prelude.{Space, Mapping, Request}
use Rattle.batches.specs.Batch.{room_row, fit_row, turn_rows, turns_rows, after_all, operations_all}

-- ── all of them, one after another ──

pub after-all-run : (rs : List Request) (ms : List Mapping) → after_all rs ms ≡ run after rs ms
unfolding after_all
after-all-run [] ms = refl
after-all-run (r ∷ rs) ms = after-all-run rs (after r ms)

pub after-all-append : (rs qs : List Request) (ms : List Mapping) → after_all (rs ++ qs) ms ≡ after_all qs (after_all rs ms)
unfolding after_all
after-all-append [] qs ms = refl
after-all-append (r ∷ rs) qs ms = after-all-append rs qs (after r ms)

pub after-all_chain : (s : Space) (rs : List Request) (ms : List Mapping) → Each (Asked s) rs → Chain s 0 (top s) ms → Chain s 0 (top s) (after_all rs ms)
unfolding after_all
after-all_chain s [] ms a c = c
after-all_chain s (r ∷ rs) ms a c = after-all_chain s rs (after r ms) a.1 (after_chain s r ms a.0 c)

-- ── rows that pass ──

-- what the rows of one request say
pub record Turn (s : Space) (capacity left : ℕ) (r : Request) (ms : List Mapping) : Type 0 where
  pub may : Asked s r
  pub room : length (after r ms) ≤ capacity
  pub fits : 14 * length (operations r ms) ≤ left

-- at the place p
turn-rows : (s : Space) (room left p : ℕ) (r : Request) (ms : List Mapping) → Passed (placed p (turn_rows s room left r ms)) → Turn s room left r ms
unfolding form_rows request_rows
turn-rows s room left p r ms (thirteen, (fourteen, (six, (seven, (eight, (nine, (ten, (eleven, (sixteen, _))))))))) = record {
  may = asked_by (λ e. e) (record { op = thirteen; flags = fourteen })
      (record { alignment = six; range = seven; reservation = eight; object = nine; offset = ten });
  room = omega (tests, eleven);
  fits = omega (tests, sixteen);
}

pub turn_passed : (s : Space) (room left p : ℕ) (r : Request) (rs : List Request) (ms : List Mapping)
    → Passed (turns_rows s room left p (r ∷ rs) ms)
    → Turn s room left r ms × Passed (turns_rows s room (left - 14 * length (operations r ms)) (suc p) rs (after r ms))
unfolding turns_rows
turn_passed s room left p r rs ms h =
    let k = passed_split (placed p (turn_rows s room left r ms)) _ h in
    (turn-rows s room left p r ms k.0, k.1)

-- what the rows of all requests say
pub record Turns (s : Space) (capacity left : ℕ) (rs : List Request) (ms : List Mapping) : Type 0 where
  pub may : Each (Asked s) rs
  pub room : length ms ≤ capacity → length (after_all rs ms) ≤ capacity
  pub fits : 14 * length (operations_all rs ms) ≤ left

pub turns_passed : (s : Space) (room left p : ℕ) (rs : List Request) (ms : List Mapping) → Passed (turns_rows s room left p rs ms) → Turns s room left rs ms
unfolding after_all operations_all
turns_passed s room left p [] ms h = record { may = tt; room = λ k. k; fits = omega arith }
turns_passed s room left p (r ∷ rs) ms h =
    let k = turn_passed s room left p r rs ms h in
    let w = turns_passed s room (left - 14 * length (operations r ms)) (suc p) rs (after r ms) k.1 in
    let n : length (operations r ms ++ operations_all rs (after r ms)) ≡ length (operations r ms) + length (operations_all rs (after r ms)) =
    length-append (operations r ms) (operations_all rs (after r ms)) in
    record { may = (k.0.may, w.may); room = λ z. w.room k.0.room; fits = omega (arith, k.0.fits, w.fits, n) }

-- ── where each request may be asked, room for mappings or for operations is wanting at most ──

-- a row lets those behind it decide, or refuses
pub open_row : {A : Type 0} (w : Row) (vs : List Row) (a : A)
    → (Alls w.tests × (decide (w ∷ vs) a ≡ decide vs a)) ⊎ (decide (w ∷ vs) a ≡ refused w.number w.place)
unfolding decide
open_row w vs a = go (all w.tests) refl
  where
    go : (b : Bool) → all w.tests ≡ b
        → (Alls w.tests × (choose b (decide vs a) (refused w.number w.place) ≡ decide vs a))
        ⊎ (choose b (decide vs a) (refused w.number w.place) ≡ refused w.number w.place)
    go true e = inl (all_facts w.tests e, refl)
    go false e = inr refl

front_passes : {A : Type 0} (s : Space) (room left p : ℕ) (r : Request) (rs : List Request) (ms : List Mapping) (a : A) → Asked s r
    → decide (turns_rows s room left p (r ∷ rs) ms) a
    ≡ decide (placed p (room_row room r ms ∷ fit_row left r ms ∷ []) ++ turns_rows s room (left - 14 * length (operations r ms)) (suc p) rs (after r ms)) a
unfolding turns_rows form_rows request_rows
front_passes s room left p r rs ms a h =
    let k = by_asked h 0 in
    past (placed p (form_rows 0 r ++ request_rows s r)) _ a (
      k.0.op,
      (k.0.flags, (k.1.alignment, (k.1.range, (k.1.reservation, (k.1.object, (k.1.offset, tt)))))),
    )

-- the answer of requests from the place p on: a, or 11 or 16 at one of the places
abbrev pub Served : {A : Type 0} → ℕ → List Request → A → Reply A → Type 0
Served p rs a d = (d ≡ answered a) ⊎ ((k : ℕ) × (k < length rs) × ((d ≡ refused 11 (p + k)) ⊎ (d ≡ refused 16 (p + k))))

pub turns_serve : {A : Type 0} (s : Space) (room left p : ℕ) (rs : List Request) (ms : List Mapping) (a : A) → Each (Asked s) rs
    → Served p rs a (decide (turns_rows s room left p rs ms) a)
unfolding turns_rows decide
turns_serve s room left p [] ms a h = inl refl
turns_serve {A} s room left p (r ∷ rs) ms a h =
    go (open_row room_at (fit_at ∷ rest) a) (open_row fit_at rest a) (turns_serve s room (left - 14 * length (operations r ms)) (suc p) rs (after r ms) a h.1)
  where
    rest : List Row
    rest = turns_rows s room (left - 14 * length (operations r ms)) (suc p) rs (after r ms)

    room_at : Row
    room_at = record { number = 11; place = p; tests = (room_row room r ms).tests }

    fit_at : Row
    fit_at = record { number = 16; place = p; tests = (fit_row left r ms).tests }

    front : decide (turns_rows s room left p (r ∷ rs) ms) a ≡ decide (room_at ∷ fit_at ∷ rest) a
    front = front_passes s room left p r rs ms a h.0

    here : {d : Reply A} (n : ℕ) → d ≡ refused n p → d ≡ refused n (p + 0)
    here n e = e ∙ ap (refused n) (omega arith)

    go : (Alls room_at.tests × (decide (room_at ∷ fit_at ∷ rest) a ≡ decide (fit_at ∷ rest) a)) ⊎ (decide (room_at ∷ fit_at ∷ rest) a ≡ refused 11 p)
        → (Alls fit_at.tests × (decide (fit_at ∷ rest) a ≡ decide rest a)) ⊎ (decide (fit_at ∷ rest) a ≡ refused 16 p)
        → Served (suc p) rs a (decide rest a)
        → Served p (r ∷ rs) a (decide (turns_rows s room left p (r ∷ rs) ms) a)
    go (inr e) f k = inr (0, omega arith, inl (here 11 (front ∙ e)))
    go (inl e) (inr f) k = inr (0, omega arith, inr (here 16 (front ∙ e.1 ∙ f)))
    go (inl e) (inl f) (inl k) = inl (front ∙ e.1 ∙ f.1 ∙ k)
    go (inl e) (inl f) (inr (k, n, inl g)) = inr (suc k, omega arith, inl (front ∙ e.1 ∙ f.1 ∙ g ∙ ap (refused 11) (omega arith)))
    go (inl e) (inl f) (inr (k, n, inr g)) = inr (suc k, omega arith, inr (front ∙ e.1 ∙ f.1 ∙ g ∙ ap (refused 16) (omega arith)))

-- ── with words enough, none is short of them ──

-- the rows of one request, with words for one operation more than there are mappings
turn_fits : (s : Space) (room left p : ℕ) (r : Request) (ms : List Mapping) → 14 * (length ms + 1) ≤ left
    → number_of (verdict (placed p (turn_rows s room left r ms))) ≡ 16 → ⊥
unfolding form_rows request_rows
turn_fits s room left p r ms h e =
    let fits : T (leb (14 * length (operations r ms)) left) = omega (tests, operations_most r ms) in
    decide_holds (λ u. T (eqb (number_of u) 16) → ⊥) (placed p (turn_rows s room left r ms)) (tt {0})
    (inr (λ t. t), (inr (λ t. t), (inr (λ t. t), (inr (λ t. t), (inr (λ t. t), (inr (λ t. t), (inr (λ t. t), (inr (λ t. t), (inl (fits, tt), tt)))))))))
    (λ t. t) (eq→eqb _ 16 e)

pub turns_fit : {A : Type 0} (s : Space) (room left p q : ℕ) (rs : List Request) (ms : List Mapping) (a : A) → Run 0 ms
    → 14 * (length ms + 4 * length rs) ≤ left → decide (turns_rows s room left p rs ms) a ≡ refused 16 q → ⊥
unfolding turns_rows decide
turns_fit s room left p q [] ms a run h e = not_both (sym e)
turns_fit {A} s room left p q (r ∷ rs) ms a run h e =
    go (passed_or_refused mine (tt {0})) (turns_fit s room (left - 14 * length (operations r ms)) (suc p) q rs (after r ms) a)
  where
    mine : List Row
    mine = placed p (turn_rows s room left r ms)

    rest : List Row
    rest = turns_rows s room (left - 14 * length (operations r ms)) (suc p) rs (after r ms)

    go : (Passed mine × (verdict mine ≡ answered tt)) ⊎ ((n : ℕ) × (k : ℕ) × (verdict mine ≡ refused n k))
        → (Run 0 (after r ms) → 14 * (length (after r ms) + 4 * length rs) ≤ left - 14 * length (operations r ms) → decide rest a ≡ refused 16 q → ⊥)
        → ⊥
    go (inl k) ih =
        let z : 0 < r.size = (turn-rows s room left p r ms k.0).may.not_empty in
        ih (run-after r ms run z) (omega (arith, operations-after_most r ms run z)) (sym (past mine rest a k.0) ∙ e)
    go (inr (n, k, d)) ih = turn_fits s room left p r ms (omega arith) (ap number_of d ∙ sixteen)
      where
        sixteen : n ≡ 16
        sixteen = ap number_of (sym (decide-append mine rest a ∙ ap (λ (u : Reply (Unit {0})). and_then u (decide rest a)) d) ∙ e)
