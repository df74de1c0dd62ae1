-- The rows of a batch say what its lines in words say, row by row.
-- Assumes nothing.
use mathlib.Core.Path.{◌≡◌, refl}
use mathlib.Core.Logic.{inl, inr}
use mathlib.Core.List.{List, [], ◌∷◌, ◌++◌}
use Prim.Native.Nat.{ℕ, suc, ◌-◌, ◌*◌, ◌/◌, ◌≤◌}
use lib.Dec.{eqb, eqb→eq}
use lib.ListN.{length}
use Rattle.model.specs.Rows.{Row, Reply, refused, placed, decide}
use Rattle.model.specs.Rules.{flags_row, form_rows, request_rows}
use Rattle.model.specs.Table.{Table, capacity, mappings, operations_row}
use Rattle.model.specs.Cut.{after, operations}
use Rattle.model.specs.Calls.{Lent}
use Rattle.model.specs.Exactly.{RefusalTable, line, NoFlag, request_lines, refusal, operations_line, RoomRule}
use Rattle.model.proofs.Tests.{tests, Says, or_cases, or_left, eq→eqb}
use Rattle.model.proofs.Rows.{Match}
use Rattle.model.proofs.Run.{Run, run-after}
use Rattle.model.proofs.Table.{rules_run}
use Rattle.model.proofs.Groups.{form_match, request_match, lent_match, operations_match}
use Rattle.model.proofs.Exactly.{Answers, match_answers, room_says}
use Rattle.batches.specs.Prelude.{Space, Mapping, Request, Grant}
use Rattle.batches.specs.Batch.{requests_in, work_row, batch_rows, room_row, fit_row, turns_rows, batch_grant}
use Rattle.batches.specs.Exactly.{turn_lines, batch_refusals}

no_flag : (r : Request) → Says (flags_row 0 r).tests (NoFlag r.flags × (r.pad ≡ 0))
no_flag r = (
  λ h. (elim (or_cases (eqb r.flags 0) (eqb r.flags 0) h.0) [ inl e ↦ eqb→eq _ 0 e | inr e ↦ eqb→eq _ 0 e ], omega (tests, h.1)),
  λ h. (or_left (eqb r.flags 0) (eqb r.flags 0) (eq→eqb _ 0 h.0), (omega (tests, h.1), tt)),
)

module _ {A : Type 0} (a : A) where
  abbrev Matches : List Row → RefusalTable (Reply A) → Type 0
  Matches = Match (λ u. u) a

  turns_match : (s : Space) (capacity left p : ℕ) (rs : List Request) (ms : List Mapping) → Run 0 ms
      → Matches (turns_rows s capacity left p rs ms) (turn_lines s capacity left p rs ms a)
  unfolding turns_rows turn_lines form_rows request_rows
  turns_match s capacity left p [] ms run = refl
  turns_match s capacity left p (r ∷ rs) ms run =
      form_match (λ u. u) a p (λ n. refused n p) (λ n. refl) 0 NoFlag r (no_flag r)
      (placed p (request_rows s r) ++ room) (request_lines (λ n. refused n p) s r rooms)
      (λ op flags. request_match (λ u. u) a p (λ n. refused n p) (λ n. refl) s r room rooms op (inl flags)
      (λ size. (
        refl,
        room_says capacity r ms run op size,
        λ _. (
          refl,
          (λ h. omega (tests, h), λ h. omega (tests, h)),
          λ _.
              turns_match s capacity more (suc p) rs (after r ms) (run-after r ms run size),
        ),
      )))
    where
      more : ℕ
      more = left - 14 * length (operations r ms)

      room : List Row
      room = placed p (room_row capacity r ms ∷ fit_row left r ms ∷ []) ++ turns_rows s capacity more (suc p) rs (after r ms)

      rooms : RefusalTable (Reply A)
      rooms = line (refused 11 p) (RoomRule r capacity ms) (line (refused 16 p) (14 * length (operations r ms) ≤ left)
          (turn_lines s capacity more (suc p) rs (after r ms) a))

  work_match : (w n : ℕ) (t : Table) (vs : List Row) (u : RefusalTable (Reply A)) → Matches vs u
      → Matches (operations_row n t ∷ work_row w t ∷ vs) (operations_line n t (line (refusal 15) (w ≡ length t.words) u))
  work_match w n t vs u m =
      operations_match a n t (work_row w t ∷ vs) (line (refusal 15) (w ≡ length t.words) u) (refl, (λ h. omega tests, λ h. omega tests), λ _. m)

pub of_rows : (s : Space) (l : Lent) (w n : ℕ) (bs : List ℕ)
    → Answers (decide (batch_rows s l w n bs ++ turns_rows s (capacity l.table) n 0 (requests_in bs) (mappings l.table)) (batch_grant (requests_in bs) l))
    (batch_refusals s l w n bs)
unfolding batch_rows
of_rows s l w n bs =
    match_answers (λ u. u) g (batch_rows s l w n bs ++ rows) (batch_refusals s l w n bs) (
      refl,
      (λ h. omega tests, λ h. omega tests),
      λ _. lent_match g s l (operations_row n l.table ∷ work_row w l.table ∷ [])
          (λ rest. operations_line n l.table (line (refusal 15) (w ≡ length l.table.words) rest)) (work_match g w n l.table)
          rows (turn_lines s (length l.table.words / 4) n 0 (requests_in bs) ms g)
          (λ five. turns_match g s (capacity l.table) n 0 (requests_in bs) ms (rules_run s ms five)),
    )
  where
    g : Grant
    g = batch_grant (requests_in bs) l

    ms : List Mapping
    ms = mappings l.table

    rows : List Row
    rows = turns_rows s (capacity l.table) n 0 (requests_in bs) ms
