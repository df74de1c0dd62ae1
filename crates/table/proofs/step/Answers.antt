use mathlib.Core.Path.{sym, ap, ◌∙◌}
use Prim.Native.Nat.{◌<◌}
use native.Mathlib.Omega.{arith}
use Rattle.model.specs.declared.Mapping.{Mapping}
use Rattle.table.specs.Halving.{at, halved}
use Rattle.table.proofs.Halving.{step_some, step_none}
use Rattle.table.proofs.step.Goals as goal

pub returns-then-s-eq0 : goal.returns-then-s-eq0
returns-then-s-eq0 g c = let a = c.args in sym (step_none (g.R.Rows.rows a.all) a.x a.s (omega (arith, c.if-s-eq0.true)))

pub returns : goal.returns
returns g c =
    let a = c.args in
    let rows = g.R.Rows.rows a.all in
    let some : 0 < a.s.left = omega (arith, c.if-s-eq0.false) in
    c.halved.ensures ∙ ap (λ (m : Mapping). halved a.x m a.s) (c.row.ensures ∙ ap (at rows) c.middle.ensures) ∙ sym (step_some rows a.x a.s some)
