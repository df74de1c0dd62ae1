-- The place that the search finds among ranges, each of which counts as a mapping.
-- Assumes nothing.
use mathlib.Core.Path.{◌≡◌, refl, ap}
use mathlib.Core.List.{List, [], ◌∷◌, map}
use Prim.Native.Nat.{ℕ, suc}
use lib.Dec.{ltb}
use Rattle.model.specs.declared.Range.{Range}
use Rattle.model.specs.Rows.{choose}
use Rattle.model.specs.Ranges.{range_end}
use Rattle.table.specs.Places.{first_where, ends_behind}
use Rattle.ranges.specs.Lists.{as_mapping, first_behind}

pub first_place : (x : ℕ) (ys : List Range) → first_where (ends_behind x) (map as_mapping ys) ≡ first_behind x ys
unfolding first_where first_behind
first_place x [] = refl
first_place x (y ∷ ys) = ap (λ (i : ℕ). choose (ltb x (range_end y)) 0 (suc i)) (first_place x ys)
