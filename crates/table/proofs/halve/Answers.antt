use Rattle.std.proofs.Common.{ℕ, subst, sym, ◌∙◌, arith}
use Rattle.table.specs.Halving.{whole}
use Rattle.table.proofs.Halving.{Left, left-start, left_end, step_some, halved_less}
use Rattle.table.proofs.Looks.{looks_step, looks_steppable}
use Rattle.table.proofs.halve.Goals as goal

pub loop-init : goal.loop-init
loop-init g c =
    let rows = g.R.Rows.rows c.args.all in
    (omega (arith, c.number.ensures), subst (λ (n : ℕ). Left rows c.args.x (whole n)) (sym c.number.ensures) (left-start rows c.args.x))

pub step-s-requires : goal.step-s-requires
step-s-requires g c = looks_steppable (g.met.R.Rows.in_order c.args.all) c.args.x c.loop.invariant.1 c.loop.invariant.0

pub loop-preserved : goal.loop-preserved
loop-preserved g c =
    (c.loop.invariant.0, looks_step (g.met.R.Rows.in_order c.args.all) c.args.x c.loop.invariant.1 c.step-s.ensures)

pub step-s-requires-in-loop-s : goal.step-s-requires-in-loop-s
step-s-requires-in-loop-s g c = looks_steppable (g.met.R.Rows.in_order c.args.all) c.args.x c.loop-s.invariant.1 c.loop-s.invariant.0

pub loop-s-smaller : goal.loop-s-smaller
loop-s-smaller g c =
    let a = c.args in
    let some = c.loop-s-test.true in
    rw (c.step-s-in-loop-s.ensures ∙ step_some (g.R.Rows.rows a.all) a.x c.loop-s.s some) (halved_less a.x _ c.loop-s.s some)

pub loop-s-preserved : goal.loop-s-preserved
loop-s-preserved g c =
    (c.loop-s.invariant.0, looks_step (g.met.R.Rows.in_order c.args.all) c.args.x c.loop-s.invariant.1 c.step-s-in-loop-s.ensures)

pub returns : goal.returns
returns g c =
    let left = c.loop-s.invariant.1 in
    (left_end (g.R.Rows.rows c.args.all) c.args.x left c.loop-s-test.false, omega (arith, left.within.digits))
