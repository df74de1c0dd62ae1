-- A look-up by what its rows say: what the table alone shows, beside the list.
-- Assumes nothing.
use mathlib.Core.Path.{◌≡◌, sym, ap, ◌∙◌}
use mathlib.Core.List.{[]}
use Prim.Native.Nat.{ℕ}
use Rattle.model.specs.declared.Seen.{Seen}
use Rattle.model.specs.declared.Space.{Space}
use Rattle.model.specs.Rows.{refused, answered, verdict}
use Rattle.model.specs.Table.{mappings}
use Rattle.model.specs.Ranges.{ranges}
use Rattle.model.specs.Cut.{see}
use Rattle.model.specs.Calls.{Lent, lent_rows, see_in, lookup}
use Rattle.model.proofs.Rows.{and_then, decide-verdict}
use Rattle.ranges.specs.Beside.{beside}
use Rattle.ranges.proofs.Sees.{beside_sees}

module _ (s : Space) (l : Lent) (x : ℕ) where
  pub lookup_refused : {n p : ℕ} → refused n p ≡ verdict (lent_rows s [] l) → refused n p ≡ lookup s l x
  unfolding lookup
  lookup_refused e = ap (λ u. and_then u (answered (see_in s l x))) e ∙ sym (decide-verdict (lent_rows s [] l) (see_in s l x))

  pub lookup-shows : {v w : Seen} → answered tt ≡ verdict (lent_rows s [] l) → v ≡ see s [] (mappings l.table) x → w ≡ beside (ranges l.ranges) x v
      → answered w ≡ lookup s l x
  unfolding lookup
  lookup-shows e f g =
      ap answered (g ∙ ap (beside (ranges l.ranges) x) f ∙ beside_sees s (ranges l.ranges) (mappings l.table) x)
      ∙ ap (λ u. and_then u (answered (see_in s l x))) e ∙ sym (decide-verdict (lent_rows s [] l) (see_in s l x))
