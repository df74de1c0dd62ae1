-- A request without the sparse flag cuts the table, by the rows of document 01 and 18; it never touches the list.
-- Assumes nothing.
use mathlib.Core.Path.{◌≡◌, refl, sym, ap, ◌∙◌}
use mathlib.Core.Logic.{inl, inr}
use mathlib.Core.Bool.{Bool, true, false}
use mathlib.Core.List.{List, [], ◌∷◌, ◌++◌, append_assoc}
use Prim.Native.Nat.{ℕ, zero, suc}
use native.Mathlib.Omega.{arith}
use lib.Dec.{eqb, eqb→eq}
use lib.ListN.{length}
use Rattle.model.specs.Prelude.{Space, Request, Grant}
use Rattle.model.specs.Rows.{all, Row, row, Reply, refused, choose, decide}
use Rattle.model.specs.Rules.{sparse_flag, form_rows, request_rows}
use Rattle.model.specs.Table.{operations_row}
use Rattle.model.specs.Calls.{Asking, asked, record_row, Lent, lent_rows, cuts, purpose_for, purpose, room_tests, last_rows, bind_rows, grant_for, outcome_for, bind}
use Rattle.model.specs.Exactly.{Unflagged}
use Rattle.model.proofs.Tests.{all_facts, or_cases}
use Rattle.model.proofs.Rows.{Passed, passed_split, decide-append}
use Rattle.model.proofs.Groups.{form_passed}

-- the rows in front of those that go by what a request is for
abbrev pub front : Space → Lent → ℕ → Asking → List Row
front s l n q = record_row q ∷ (form_rows sparse_flag (asked q) ++ (lent_rows s (operations_row n l.table ∷ []) l ++ request_rows s (asked q)))

pub rows_are : (s : Space) (l : Lent) (n : ℕ) (q : Asking) → bind_rows s l n q ≡ front s l n q ++ last_rows (purpose (asked q)) (asked q) l
unfolding bind_rows
rows_are s l n q = simp append_assoc

-- the table has room for what a request leaves
abbrev pub room_row : Lent → Request → Row
room_row l r = row 11 (room_tests cuts r l)

-- rows that don't all pass refuse, whatever comes behind them
stuck : (ws : List Row) → (Passed ws → ⊥) → (n : ℕ) × (p : ℕ) × ((vs : List Row) (a : Grant) → decide (ws ++ vs) a ≡ refused n p)
unfolding decide
stuck [] h = absurd (h tt)
stuck (w ∷ ws) h = go (all w.tests) refl (stuck ws)
  where
    go : (b : Bool) → all w.tests ≡ b
        → ((Passed ws → ⊥) → (n : ℕ) × (p : ℕ) × ((vs : List Row) (a : Grant) → decide (ws ++ vs) a ≡ refused n p))
        → (n : ℕ) × (p : ℕ) × ((vs : List Row) (a : Grant) → choose b (decide (ws ++ vs) a) (refused w.number w.place) ≡ refused n p)
    go true e ih = ih (λ k. h (all_facts w.tests e, k))
    go false e ih = (w.number, w.place, λ vs a. refl)

-- past row 14 a request without the flag has no flags
no_flags : (s : Space) (l : Lent) (n : ℕ) (q : Asking) → Unflagged (asked q) → Passed (front s l n q) → (asked q).flags ≡ 0
no_flags s l n q off h =
    let k = form_passed sparse_flag (asked q) (passed_split (form_rows sparse_flag (asked q)) _ h.1).0 in
    elim (or_cases (eqb (asked q).flags 0) (eqb (asked q).flags 256) k.flags.0) [ inl e ↦ eqb→eq _ 0 e | inr e ↦ absurd (off (eqb→eq _ 256 e)) ]

pub plain : (s : Space) (l : Lent) (os : List ℕ) (q : Asking) → Unflagged (asked q)
    → bind s l os q ≡ outcome_for (decide (front s l (length os) q ++ room_row l (asked q) ∷ []) (grant_for cuts (asked q) l)) cuts (asked q) l os
unfolding bind decide
plain s l os q off = ap (λ (ws : List Row). outcome_for (decide ws (grant_for (purpose r) r l)) (purpose r) r l os) (rows_are s l (length os) q) ∙ go r.flags refl
  where
    r : Request
    r = asked q

    rows : List Row
    rows = front s l (length os) q

    go : (f : ℕ) → r.flags ≡ f → outcome_for (decide (rows ++ last_rows (purpose r) r l) (grant_for (purpose r) r l)) (purpose r) r l os
        ≡ outcome_for (decide (rows ++ room_row l r ∷ []) (grant_for cuts r l)) cuts r l os
    go zero e = ap (λ (f : ℕ). let for = purpose_for f r.op in outcome_for (decide (rows ++ last_rows for r l) (grant_for for r l)) for r l os) e
        ∙ ap (λ (a : Reply Grant). outcome_for a cuts r l os)
        (decide-append rows (last_rows cuts r l) (grant_for cuts r l) ∙ sym (decide-append rows (room_row l r ∷ []) (grant_for cuts r l)))
    go (suc f) e =
        let w = stuck rows (λ h. omega (arith, e, no_flags s l (length os) q off h)) in
        ap (λ (a : Reply Grant). outcome_for a (purpose r) r l os) (w.2 (last_rows (purpose r) r l) (grant_for (purpose r) r l))
        ∙ sym (ap (λ (a : Reply Grant). outcome_for a cuts r l os) (w.2 (room_row l r ∷ []) (grant_for cuts r l)))
