-- What a grant says of what is lent; and a table that passes still does after a request without the flag was written.
-- Assumes nothing.
use mathlib.Core.Path.{◌≡◌, sym, ap, subst, ◌∙◌}
use mathlib.Core.List.{List, [], ◌∷◌, ◌++◌}
use Prim.Native.Nat.{ℕ, zero, suc, ◌-◌, ◌*◌, ◌≤◌}
use native.Mathlib.Omega.{arith}
use lib.Dec.{T, eqb, eqb→eq}
use lib.ListN.{length}
use Rattle.model.specs.Prelude.{Space, Mapping, Request, Grant}
use Rattle.model.specs.Rows.{Row, Reply, answered, decide}
use Rattle.model.specs.Rules.{sparse_flag, stop, object_tests, offset_tests, form_rows, request_rows}
use Rattle.model.specs.Table.{Table, capacity, mappings, bad_place, operations_row}
use Rattle.model.specs.Cut.{mapping_of, new_for, new, after}
use Rattle.model.specs.Calls.{Asking, asked, Lent, lent_rows, cuts, purpose, last_rows, bind_rows, cut_grant, grant_for, Outcome, cut, outcome_for, bind}
use Rattle.model.specs.Exactly.{Unflagged}
use Rattle.model.proofs.Tests.{tests, Alls, eq→eqb}
use Rattle.model.proofs.Rows.{Passed, passed_split, answered_passed}
use Rattle.model.proofs.Chain.{Chain, chain_put}
use Rattle.model.proofs.Table.{top, chain_good, good_chain}
use Rattle.model.proofs.Store.{rewritten, holds_rewritten, holds_mappings, zeros_behind}
use Rattle.model.proofs.Zeros.{zeros_tests}
use Rattle.model.proofs.Groups.{LentPassed, lent_passed, FormPassed, form_passed, RequestPassed, request_passed}
use Rattle.model.proofs.Plain.{front, rows_are, room_row, plain}
use Rattle.model.proofs.Ask.{Asked, asked_by}
use Rattle.model.proofs.Exactly.{answer_is}

-- ── a request that may be asked leaves a chain ──

chain_new : (s : Space) (r : Request) → Asked s r → Chain s r.address (stop r) (new r)
chain_new s r a = go r.op a.object_fits a.offset_fits
  where
    go : (n : ℕ) → Alls (object_tests n r) → Alls (offset_tests n r) → Chain s r.address (stop r) (new_for n (mapping_of r))
    go zero h k = (omega (tests, a), omega arith)
    go (suc n) h k = omega arith

pub after_chain : (s : Space) (r : Request) (ms : List Mapping) → Asked s r → Chain s 0 (top s) ms → Chain s 0 (top s) (after r ms)
after_chain s r ms a h =
    chain_put s r.address (stop r) (top s) (new r) ms h (chain_new s r a)
    a.high a.address_multiple (omega (arith, a.address_multiple, a.size_multiple))

-- ── a table and list that pass 1 to 5, 17 and 18, n words being lent for operations ──

abbrev pub Good : Space → ℕ → Lent → Type 0
Good s n l = LentPassed s (operations_row n l.table ∷ []) l

pub table_chain : (s : Space) (n : ℕ) (l : Lent) → Good s n l → Chain s 0 (top s) (mappings l.table)
table_chain s n l g = good_chain s (mappings l.table) (eqb→eq _ _ g.table.places.0)

-- the table written, the list as it was
abbrev pub relent : Lent → List Mapping → Lent
relent l ms = record { table = rewritten l.table ms; ranges = l.ranges }

pub good_relent : (s : Space) (n : ℕ) (l : Lent) (ms : List Mapping) → Good s n l → Chain s 0 (top s) ms → length ms ≤ capacity l.table
    → Good s n (relent l ms)
good_relent s n l ms w c f =
    let t : Table = l.table in
    let g = w.table in
    let h = holds_rewritten t ms f in
    let e = h.length_kept in
    let p = subst (λ (ns : List Mapping). T (eqb (bad_place s 0 ns) (length ns))) (sym (holds_mappings t (rewritten t ms) ms h))
    (eq→eqb _ _ (chain_good s 0 (top s) ms c)) in
    record {
      table = record {
        space = g.space;
        length_right = omega (tests, e, g.length_right);
        others = omega (tests, e, g.others);
        count = (omega (tests, e, f), tt);
        places = (p, tt);
        behind = rw (zeros_behind (length t.words) ms) (zeros_tests (length t.words - 4 * length ms));
      };
      list = w.list;
    }

-- ── what a grant says ──

-- its rows passed, and it answers what they say
pub granted_rows : (s : Space) (l : Lent) (os : List ℕ) (q : Asking) (g : Grant) → (bind s l os q).answer ≡ answered g
    → (decide (bind_rows s l (length os) q) (grant_for (purpose (asked q)) (asked q) l) ≡ answered g)
    × Passed (front s l (length os) q) × Passed (last_rows (purpose (asked q)) (asked q) l) × (g ≡ grant_for (purpose (asked q)) (asked q) l)
unfolding bind
granted_rows s l os q g e =
    let r : Request = asked q in
    let w : decide (bind_rows s l (length os) q) (grant_for (purpose r) r l) ≡ answered g = sym (answer_is _ (purpose r) r l os) ∙ e in
    let p = answered_passed (bind_rows s l (length os) q) (grant_for (purpose r) r l) g w in
    let k = passed_split (front s l (length os) q) _ (subst Passed (rows_are s l (length os) q) p.0) in
    (w, k.0, k.1, p.1)

-- the rows in front, in their groups
pub record Fronts (s : Space) (l : Lent) (n : ℕ) (q : Asking) : Type 0 where
  pub form : FormPassed sparse_flag (asked q)
  pub good : Good s n l
  pub request : RequestPassed s (asked q)

pub fronts : (s : Space) (l : Lent) (n : ℕ) (q : Asking) → Passed (front s l n q) → Fronts s l n q
fronts s l n q h =
    let r : Request = asked q in
    let lent : List Row = lent_rows s (operations_row n l.table ∷ []) l in
    let a = passed_split (form_rows sparse_flag r) (lent ++ request_rows s r) h.1 in
    let b = passed_split lent (request_rows s r) a.1 in
    record {
      form = form_passed sparse_flag r a.0;
      good = lent_passed s (operations_row n l.table ∷ []) l b.0;
      request = request_passed s r b.1;
    }

-- whatever was asked, what is lent passed
pub granted_good : (s : Space) (l : Lent) (os : List ℕ) (q : Asking) (g : Grant) → (bind s l os q).answer ≡ answered g → Good s (length os) l
granted_good s l os q g e = (fronts s l (length os) q (granted_rows s l os q g e).1).good

-- without the flag
pub record Granting (s : Space) (l : Lent) (os : List ℕ) (q : Asking) (g : Grant) : Type 0 where
  pub good : Good s (length os) l
  pub may : Asked s (asked q)
  pub room : length (after (asked q) (mappings l.table)) ≤ capacity l.table
  pub grant : g ≡ cut_grant (asked q) l
  pub outcome : bind s l os q ≡ cut g (asked q) l os

pub granting : (s : Space) (l : Lent) (os : List ℕ) (q : Asking) (g : Grant) → Unflagged (asked q) → (bind s l os q).answer ≡ answered g → Granting s l os q g
granting s l os q g off e =
    let w : decide rows (grant_for cuts r l) ≡ answered g = sym (answer_is _ cuts r l os) ∙ sym (ap (λ (o : Outcome). o.answer) is) ∙ e in
    let p = answered_passed rows (grant_for cuts r l) g w in
    let k = passed_split (front s l (length os) q) _ p.0 in
    let f = fronts s l (length os) q k.0 in
    record {
      good = f.good;
      may = asked_by (λ z. absurd (off z)) f.form f.request;
      room = omega (tests, k.1);
      grant = p.1;
      outcome = is ∙ ap (λ (a : Reply Grant). outcome_for a cuts r l os) w;
    }
  where
    r : Request
    r = asked q

    rows : List Row
    rows = front s l (length os) q ++ room_row l r ∷ []

    is : bind s l os q ≡ outcome_for (decide rows (grant_for cuts r l)) cuts r l os
    is = plain s l os q off
