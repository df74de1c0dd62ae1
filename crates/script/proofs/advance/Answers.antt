use mathlib.Core.Path.{refl}
use native.Mathlib.Omega.{arith}
use Rattle.script.proofs.Advancing.{comes_back, over_as, far_start, far_ready, far_next, far_idle, far_full}
use borrow.Author.Rules.{rules}
use Rattle.script.proofs.advance.Goals as goal
use Rattle.script.proofs.advance.Goals.{else-loop-lines-test, then-loop-lines-test+then-lines-end}

pub loop-lines-init : goal.loop-lines-init
loop-lines-init c = far_start _ _ (omega arith) c.requires.held

pub overflow_add-lines : goal.overflow_add-lines
overflow_add-lines c = omega (arith, c.loop-lines.invariant.room, c.loop-lines.invariant.outputs)

pub slice_bounds-turn-count : goal.slice_bounds-turn-count
slice_bounds-turn-count c = omega (arith, c.loop-lines.invariant.goes.within)

pub slice_bounds-turn-start : goal.slice_bounds-turn-start
slice_bounds-turn-start c = omega (arith, c.loop-lines.invariant.goes.within)

pub turn-taken-requires : goal.turn-taken-requires
turn-taken-requires c = (far_ready c.loop-lines.invariant c.requires.places, omega arith)

pub loop-lines-preserved : goal.loop-lines-preserved
loop-lines-preserved c = far_next c.loop-lines.invariant c.turn-taken.ensures (omega arith) c.loop-lines-test.true

pub returns : goal.returns
returns c =
    comes_back {taken = c.loop-lines-test.taken} {a = c.loop-lines-test.program} {l = c.loop-lines-test.lines} refl (elim c.loop-lines-test.branch [
      | else-loop-lines-test w ↦ over_as w.program-is w.lines-is w.taken-is (far_full c.loop-lines.invariant refl w.loop-lines-test.false)
      | then-loop-lines-test+then-lines-end w ↦ over_as w.program-is w.lines-is w.taken-is
          (far_idle c.loop-lines.invariant w.turn-taken.ensures refl w.loop-lines-test.true w.if-lines-end.true)
    ]) (search rules) (search rules) (search rules) (search rules)
