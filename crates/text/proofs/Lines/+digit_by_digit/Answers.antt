use native.Mathlib.Omega.{arith}
use Rattle.program.proofs.Decimal.{decimal_small, decimal_step}
use Rattle.text.proofs.Digits.{length-one, length_more}
use Rattle.text.proofs.Adding.{adds_exact, adds_behind}
use Rattle.text.proofs.Lines.+digit_by_digit.Goals as goal

pub bytes-requires : goal.bytes-requires
bytes-requires t c = omega (arith, length-one c.args.n c.if-n-lt10.true)

pub returns-then-n-lt10 : goal.returns-then-n-lt10
returns-then-n-lt10 t c = rw (decimal_small c.args.n c.if-n-lt10.true) c.bytes.ensures

pub digit_by_digit-requires : goal.digit_by_digit-requires
digit_by_digit-requires t c = omega (arith, length_more c.args.n c.if-n-lt10.false)

pub bytes-requires-2 : goal.bytes-requires-2
bytes-requires-2 t c = omega (arith, length_more c.args.n c.if-n-lt10.false, c.digit_by_digit.ensures.behind, c.digit_by_digit.ensures.same_length)

pub returns : goal.returns
returns t c = rw (decimal_step c.args.n c.if-n-lt10.false) (adds_exact (adds_behind (omega (arith, length_more c.args.n c.if-n-lt10.false)) c.digit_by_digit.ensures c.bytes-2.ensures))
