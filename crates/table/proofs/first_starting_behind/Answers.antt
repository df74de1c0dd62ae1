use Rattle.std.proofs.Common.{refl, arith}
use borrow.Author.Tests.{lt-ltb, le-ltb}
use Rattle.table.proofs.First.{first_next, first_here, first_end}
use Rattle.table.proofs.first_starting_behind.Goals as goal

pub loop-i-init : goal.loop-i-init
loop-i-init c = record { is = refl }

pub returns-then-x-read_mapping : goal.returns-then-x-read_mapping
returns-then-x-read_mapping c =
    let x = c.args.x in
    first_here c.loop-i-test.true c.read_mapping.ensures c.loop-i.invariant (lt-ltb x c.read_mapping.result.address (omega (arith, c.if-x-read_mapping.true)))

pub loop-i-preserved : goal.loop-i-preserved
loop-i-preserved c =
    let x = c.args.x in
    first_next c.loop-i-test.true c.read_mapping.ensures c.loop-i.invariant (le-ltb x c.read_mapping.result.address (omega (arith, c.if-x-read_mapping.false)))

pub returns : goal.returns
returns c = omega (arith, first_end (omega arith) c.loop-i.invariant)
