use native.Mathlib.Omega.{arith}
use Rattle.program.proofs.Decimal.{decimal_small}
use Rattle.text.proofs.Digits.{length-one}
use Rattle.text.proofs.Lines.decimal.Goals as goal

pub bytes-requires : goal.bytes-requires
bytes-requires c = omega (arith, length-one c.args.n c.if-n-lt10.true)

pub returns-then-n-lt10 : goal.returns-then-n-lt10
returns-then-n-lt10 c = rw (decimal_small c.args.n c.if-n-lt10.true) c.bytes.ensures
