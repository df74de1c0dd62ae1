use mathlib.Core.Path.{◌≡◌, sym, ◌∙◌}
use Prim.Native.Nat.{◌+◌, ◌*◌, ◌≤◌}
use native.Mathlib.Omega.{arith}
use Rattle.words.proofs.Moved.{moved_none, moved_down}
use borrow.Author.Rules.{rules}
use Rattle.words.proofs.down_by_blocks.Goals as goal

pub loop-i-init : goal.loop-i-init
loop-i-init g c =
    let e : g.row.N * 0 ≡ 0 = omega arith in
    rw e (sym (moved_none c.args.t.now c.args.from c.args.to))

pub loop-i-preserved : goal.loop-i-preserved
loop-i-preserved g c =
    let a = c.args in
    let l = c.loop-i in
    let n = g.row.N in
    let e : n * (l.i + 1) ≡ n * l.i + n = grind arith in
    let h : n * (l.i + 1) ≤ n * a.blocks = search rules in
    c.copy_block.ensures ∙ rw (l.invariant, e) (moved_down a.t.now a.from a.to (n * l.i) n (omega arith) (omega arith))
