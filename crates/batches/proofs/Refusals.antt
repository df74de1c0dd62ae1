-- Which rows of a batch refuse, and where; what a refusal leaves; when 16 can't come.
-- Assumes nothing.
use mathlib.Core.Path.{◌≡◌, refl, sym, ap, subst, ◌∙◌}
use mathlib.Core.Logic.{◌⊎◌, inl, inr}
use mathlib.Core.List.Memᴰ
use mathlib.Core.List.{List, [], ◌∷◌}
use Prim.Native.Nat.{ℕ, zero, suc, ◌+◌, ◌-◌, ◌*◌, ◌≤◌, ◌<◌}
use native.Mathlib.Omega.{arith}
use lib.Dec.{T, eqb, ltb}
use lib.ListN.{length, get_or}
use Rattle.model.specs.Rows.{Row, Reply, refused, answered, placed, decide, verdict, number_of}
use Rattle.model.specs.Rules.{form_rows, request_rows}
use Rattle.model.specs.Table.{capacity, mappings, operations_row}
use Rattle.model.specs.Cut.{after, operations}
use Rattle.model.specs.Calls.{Lent}
use Rattle.model.specs.Exactly.{◌∈◌, Each}
use Rattle.model.proofs.Actions.{each_mem, each_map, each_append}
use Rattle.model.proofs.Tests.{tests, Alls}
use Rattle.model.proofs.Rows.{and_then, answered_passed, not_both, decide_holds}
use Rattle.model.proofs.Table.{rules_run, table_says}
use Rattle.model.proofs.Groups.{lent_passed, each_lent}
use Rattle.model.proofs.Store.{length-mappings}
use Rattle.batches.specs.Prelude.{Space, Mapping, Request, Grant}
use Rattle.batches.specs.Batch.{requests_in, work_row, batch_rows, turn_rows, turns_rows, batch_grant, batch_outcome, turns, bind_batch}
use Rattle.batches.specs.Exactly.{own_numbers, turn_numbers, Untouched, Emptied}
use Rattle.batches.proofs.Turns.{turns_fit}
use Rattle.batches.proofs.Batch.{batch_answer}

-- ── which rows refuse, and where ──

abbrev place_of : {A : Type 0} → Reply A → ℕ
place_of (refused n p) = p
place_of (answered a) = 0

-- what holds of each row's number and place holds of a refusal's
pub refusal_of : {A : Type 0} (P : ℕ → ℕ → Type 0) (ws : List Row) (a : A) (n p : ℕ) → Each (λ w. P w.number w.place) ws
    → decide ws a ≡ refused n p → P n p
refusal_of {A} P ws a n p h = decide_holds Holds ws a
    (each_map (λ w. P w.number w.place) (λ w. Alls w.tests ⊎ Holds (refused w.number w.place)) ws (λ w k. inr (of_row w.number w.place k)) h)
    (λ e. absurd (not_both (sym e)))
  where
    Holds : Reply A → Type 0
    Holds u = u ≡ refused n p → P n p

    of_row : (i j : ℕ) → P i j → Holds (refused i j)
    of_row i j k e = subst (λ (p : ℕ). P n p) (ap place_of e) (subst (λ (n : ℕ). P n j) (ap number_of e) k)

there : (i : ℕ) (ns : List ℕ) → T (ltb i (length ns)) → get_or ns i 0 ∈ ns
there i [] h = absurd (omega tests)
there zero (n ∷ ns) h = Memᴰ.head refl
there (suc i) (n ∷ ns) h = Memᴰ.tail (there i ns (omega tests))

-- of the batch's own rows, 5 alone has a place
abbrev Own : ℕ → ℕ → Type 0
Own n p = n ∈ own_numbers × ((n ≡ 5 → ⊥) → p ≡ 0)

own_refusal : (s : Space) (l : Lent) (w n : ℕ) (bs : List ℕ) (k p : ℕ) → verdict (batch_rows s l w n bs) ≡ refused k p → Own k p
unfolding batch_rows
own_refusal s l w n bs k p =
    refusal_of Own (batch_rows s l w n bs) (tt {0}) k p (
      own 0 tt,
      each_lent (λ w. Own w.number w.place) s (operations_row n l.table ∷ work_row w l.table ∷ []) l
          (own 1 tt) (own 2 tt) (own 3 tt, (own 4 tt, tt)) (own 5 tt) (there 6 own_numbers tt, λ h. absurd (h refl)) (own 7 tt) (own 8 tt),
    )
  where
    own : (i : ℕ) → T (ltb i (length own_numbers)) → Own (get_or own_numbers i 0) 0
    own i h = (there i own_numbers h, λ _. refl)

not_own : 16 ∈ own_numbers → ⊥
not_own m = each_mem (λ n. T (eqb n 16) → ⊥) own_numbers 16
    (λ t. t, (λ t. t, (λ t. t, (λ t. t, (λ t. t, (λ t. t, (λ t. t, (λ t. t, (λ t. t, tt))))))))) m tt

-- of the requests' rows, each has its request's place
module _ (k : ℕ) where
  abbrev Turned : ℕ → ℕ → Type 0
  Turned n p = n ∈ turn_numbers × (p < k)

  turn_refusals : (s : Space) (room left p : ℕ) (r : Request) (ms : List Mapping) → p < k
      → Each (λ w. Turned w.number w.place) (placed p (turn_rows s room left r ms))
  unfolding form_rows request_rows
  turn_refusals s room left p r ms h =
      (turn 0 tt, (turn 1 tt, (turn 2 tt, (turn 3 tt, (turn 4 tt, (turn 5 tt, (turn 6 tt, (turn 7 tt, (turn 8 tt, tt)))))))))
    where
      turn : (i : ℕ) → T (ltb i (length turn_numbers)) → Turned (get_or turn_numbers i 0) p
      turn i l = (there i turn_numbers l, h)

  turns_refusals : (s : Space) (room left p : ℕ) (rs : List Request) (ms : List Mapping) → p + length rs ≤ k
      → Each (λ w. Turned w.number w.place) (turns_rows s room left p rs ms)
  unfolding turns_rows
  turns_refusals s room left p [] ms h = tt
  turns_refusals s room left p (r ∷ rs) ms h = each_append (λ w. Turned w.number w.place) (placed p (turn_rows s room left r ms)) _
      (turn_refusals s room left p r ms (omega arith)) (turns_refusals s room (left - 14 * length (operations r ms)) (suc p) rs (after r ms) (omega arith))

-- ── what a refusal leaves ──

-- a refusal, read of another answer
refused_as : {A B : Type 0} {n p k q : ℕ} → ◌≡◌ {A = Reply A} (refused n p) (refused k q) → ◌≡◌ {A = Reply B} (refused n p) (refused k q)
refused_as e = λ i. refused (ap number_of e i) (ap place_of e i)

pub refuses : (s : Space) (l : Lent) (ws os bs : List ℕ) (n p : ℕ) → (bind_batch s l ws os bs).answer ≡ refused n p
    → Untouched l ws os n p (bind_batch s l ws os bs) ⊎ Emptied l ws os (requests_in bs) n p (bind_batch s l ws os bs)
unfolding bind_batch
refuses s l ws os bs n p e = go (verdict (batch_rows s l (length ws) (length os) bs)) refl (turns s l (length os) rs) refl e
  where
    rs : List Request
    rs = requests_in bs

    ms : List Mapping
    ms = mappings l.table

    go : (u : Reply (Unit {0})) → verdict (batch_rows s l (length ws) (length os) bs) ≡ u → (d : Reply Grant) → turns s l (length os) rs ≡ d
        → (batch_outcome u d rs l ws os).answer ≡ refused n p
        → Untouched l ws os n p (batch_outcome u d rs l ws os) ⊎ Emptied l ws os rs n p (batch_outcome u d rs l ws os)
    go (refused k q) h d j e =
        let w = own_refusal s l (length ws) (length os) bs n p (h ∙ refused_as e) in
        inl (record { number = w.0; place = w.1; table = refl; work = refl; operations = refl })
    go (answered u) h (refused k q) j e =
        let w = refusal_of (Turned (length rs)) (turns_rows s (capacity l.table) (length os) 0 rs ms) (batch_grant rs l) n p
        (turns_refusals (length rs) s (capacity l.table) (length os) 0 rs ms (omega arith)) (j ∙ e) in
        inr (record { number = w.0; place = w.1; table = refl; work = refl; operations = refl })
    go (answered u) h (answered g) j e = absurd (not_both (sym e))

-- ── with words enough, no request gets 16 ──

pub never_short : (s : Space) (l : Lent) (ws os bs : List ℕ) (p : ℕ) → 14 * (l.table.count + 4 * length (requests_in bs)) ≤ length os
    → (bind_batch s l ws os bs).answer ≡ refused 16 p → ⊥
unfolding bind_batch batch_rows
never_short s l ws os bs p h e = go (verdict own) refl (sym (batch_answer (verdict own) d rs l ws os) ∙ e)
  where
    rs : List Request
    rs = requests_in bs

    ms : List Mapping
    ms = mappings l.table

    own : List Row
    own = batch_rows s l (length ws) (length os) bs

    d : Reply Grant
    d = turns s l (length os) rs

    go : (u : Reply (Unit {0})) → verdict own ≡ u → and_then u d ≡ refused 16 p → ⊥
    go (refused k q) j e = not_own (own_refusal s l (length ws) (length os) bs 16 p (j ∙ refused_as e)).0
    go (answered u) j e =
        let w = lent_passed s (operations_row (length os) l.table ∷ work_row (length ws) l.table ∷ []) l (answered_passed own tt u j).0.1 in
        turns_fit s (capacity l.table) (length os) 0 p rs ms (batch_grant rs l)
        (rules_run s ms ((table_says s ms).0 w.table.places)) (omega (arith, h, length-mappings l.table.count l.table.words)) e
