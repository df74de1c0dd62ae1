-- The operation that fourteen words say, by the parts that code reads of them.
-- Assumes nothing.
use mathlib.Core.Path.{◌≡◌, refl}
use mathlib.Core.Bool.{Bool, true, false}
use Rattle.std.specs.Prelude.{ℕ, Some, None}
use mathlib.Core.List.{List}
use lib.Dec.{eqb}
use lib.ListN.{get_or}
use Rattle.model.specs.declared.Mapping.{Mapping}
use Rattle.model.specs.Table.{mapping_from}
use Rattle.model.specs.Rows.{choose}
use Rattle.model.specs.Layout.{is_absent, rests_by, rests_in, operation_by, operation_in}
use Rattle.cut.specs.Operations.{rest_in, rests_for}

rests_read : (l u : Mapping) → rests_for (rest_in l) (rest_in u) ≡ rests_in l u
rests_read l u = go (is_absent l) (is_absent u)
  where
    go : (a b : Bool) → rests_for (choose a None (Some l)) (choose b None (Some u)) ≡ rests_by a b l u
    go true true = refl
    go true false = refl
    go false true = refl
    go false false = refl

pub operation_read : (ws : List ℕ) → operation_by (get_or ws 0 0) (eqb (get_or ws 1 0) 1) (mapping_from 2 ws) (rests_for (rest_in (mapping_from 6 ws)) (rest_in (mapping_from 10 ws))) ≡ operation_in ws
unfolding operation_in
operation_read ws = rw (rests_read (mapping_from 6 ws) (mapping_from 10 ws)) refl
