-- The place of a search, told by the mapping there and by the one before it.
-- Assumes nothing.
use mathlib.Core.Path.{◌≡◌, sym, subst}
use mathlib.Core.Bool.{true, false}
use mathlib.Core.List.{List}
use Prim.Native.Nat.{ℕ, ◌≤◌, ◌<◌}
use native.Mathlib.Omega.{arith}
use lib.Dec.{ltb, leb}
use borrow.Author.Tests.{leb-true, ltb-false}
use Rattle.model.specs.declared.Mapping.{Mapping}
use Rattle.model.specs.Rules.{limit, end}
use Rattle.model.specs.Table.{mappings_in}
use Rattle.model.proofs.Store.{length-mappings}
use Rattle.table.specs.Halving.{at}
use Rattle.table.specs.Places.{first_where, ends_behind, Valid}
use Rattle.table.proofs.Places.{valid_ascends}
use Rattle.table.proofs.First.{first_least}
use Rattle.table.proofs.Ends.{ends_ascend}
use Rattle.table.proofs.Looks.{end-at, valid_order}

module _ {ws : List ℕ} {n : ℕ} (v : Valid ws n) (x i : ℕ) {m : Mapping} (h : i < n) (e : m ≡ at (mappings_in n ws) i) where
  abbrev first : ℕ
  first = first_where (ends_behind x) (mappings_in n ws)

  pub end_there : end m ≤ limit
  end_there = end-at (valid_order v) x i (omega (arith, h, length-mappings n ws)) (sym e)

  behind : end m ≤ x → i < first
  behind k = ends_ascend (mappings_in n ws) x i _ (valid_ascends v) (omega (arith, h, length-mappings n ws)) (subst (λ (m : Mapping). end m ≤ x) e k)

  pub passed : leb (end m) x ≡ true → i < first
  passed k = behind (leb-true (end m) x k)

  pub reached : ltb x (end m) ≡ true → first ≤ i
  reached k = first_least (ends_behind x) (mappings_in n ws) i _ (subst (λ (m : Mapping). ltb x (end m) ≡ true) e k)

  pub not_reached : ltb x (end m) ≡ false → i < first
  not_reached k = behind (ltb-false x (end m) k)
