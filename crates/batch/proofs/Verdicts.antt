-- The batch's own rows, by what the checks answer.
-- Assumes nothing.
use mathlib.Core.Path.{◌≡◌}
use mathlib.Core.List.{List, ◌∷◌}
use Prim.Native.Nat.{ℕ}
use lib.ListN.{length}
use borrow.Author.Tests.{eq-eqb, ne_eqb}
use Rattle.model.specs.Rows.{Row, Reply, refused, verdict, decide}
use Rattle.model.specs.Table.{Table}
use Rattle.batches.specs.Batch.{work_row}

module _ (n : ℕ) (t : Table) (ws : List Row) where
  pub work_refused : (n ≡ length t.words → ⊥) → refused 15 0 ≡ verdict (work_row n t ∷ ws)
  unfolding decide
  work_refused h = simp (ne_eqb n (length t.words) h)

  pub work_passed : {u : Reply (Unit {0})} → n ≡ length t.words → u ≡ verdict ws → u ≡ verdict (work_row n t ∷ ws)
  unfolding decide
  work_passed h e = simp (eq-eqb n (length t.words) h) e
