-- A request whose form is right, by what the rows in front of it say: on what is checked anew, and on a table that is
-- known to pass.
-- Assumes nothing.
use mathlib.Core.Path.{◌≡◌, sym, ap, ◌∙◌}
use mathlib.Core.List.{List}
use Prim.Native.Nat.{ℕ}
use lib.ListN.{length}
use Rattle.model.specs.declared.Request.{Request}
use Rattle.model.specs.declared.Space.{Space}
use Rattle.model.specs.Rows.{Reply, refused, answered, verdict, decide}
use Rattle.model.specs.Rules.{request_rows}
use Rattle.model.specs.Table.{Table}
use Rattle.model.specs.Calls.{Lent, purpose_for}
use Rattle.model.proofs.Rows.{and_then, decide-append}
use Rattle.change.specs.declared.Made.{Made}
use Rattle.change.specs.Change.{changed_for, made, room_rows, changed}
use Rattle.request.specs.Bound.{checked_rows, decided, bound_known, partly}
use Rattle.request.proofs.Checked.{fits}
use Rattle.request.proofs.Bound.{bound_by, partly_plain}
use Rattle.request.proofs.Lasts.{with_list, fits_settled, cuts_by}

-- where rows 6 to 10 pass, 11 and 16 decide
module _ (s : Space) (t : Table) (os : List ℕ) (r : Request) where
  known_by : {u : Reply (Unit {0})} → u ≡ verdict (request_rows s r)
      → bound_known s t os r ≡ changed_for (and_then u (decide (room_rows r t (length os)) (made r t))) r t os
  unfolding bound_known
  known_by e =
      ap (λ (a : Reply Made). changed_for a r t os) (decide-append (request_rows s r) (room_rows r t (length os)) (made r t))
      ∙ ap (λ (u : Reply (Unit {0})). changed_for (and_then u (decide (room_rows r t (length os)) (made r t))) r t os) (sym e)

  pub known_refused : {n p : ℕ} → refused n p ≡ verdict (request_rows s r) → bound_known s t os r ≡ record { reply = refused n p; table = t.words; operations = os }
  known_refused e = known_by e

  pub known_changed : answered tt ≡ verdict (request_rows s r) → bound_known s t os r ≡ changed r t os
  unfolding changed
  known_changed e = known_by e

-- without the flag, what was checked anew is cut
pub cut_there : (s : Space) (l : Lent) (os : List ℕ) (r : Request) {u : Reply Made} {ws vs : List ℕ} → r.flags ≡ 0 → answered tt ≡ verdict (checked_rows s l (length os) r)
    → changed r l.table os ≡ record { reply = u; table = ws; operations = vs }
    → partly s l os r ≡ record { answer = with_list u l.ranges.count; table = ws; ranges = l.ranges.words; operations = vs }
cut_there s l os r f e h =
    partly_plain s l os r f ∙ bound_by l os r s e ∙ ap (λ (f : ℕ). decided (purpose_for f r.op) r l os) f
    ∙ fits_settled r l os (fits s l (length os) r e) ∙ cuts_by r l os h
