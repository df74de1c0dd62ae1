use native.Mathlib.Omega.{arith}
use Rattle.program.proofs.Decimal.{decimal_most}
use Rattle.text.proofs.Numbers.{numbers_start, numbers_next}
use Rattle.text.proofs.Lines.numbers.Goals as goal

pub loop-n-init : goal.loop-n-init
loop-n-init c = numbers_start c.args.numbers.now

pub decimal-requires : goal.decimal-requires
decimal-requires c = omega (arith, decimal_most _ (c.type_inv.numbers c.loop-n.n-index).fits)

pub loop-n-preserved : goal.loop-n-preserved
loop-n-preserved c =
    numbers_next c.args.numbers.now c.loop-n.n-index c.loop-n-test.true c.requires (c.type_inv.numbers c.loop-n.n-index).fits c.loop-n.invariant c.bytes.ensures c.decimal.ensures
