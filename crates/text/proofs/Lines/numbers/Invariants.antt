use Rattle.text.proofs.Numbers.{NumbersTo}
use Rattle.text.proofs.Lines.numbers.Given as goal

abbrev pub invariant-loop-n : goal.invariant-loop-n
invariant-loop-n l = NumbersTo l.initial.self l.numbers l.n-index l.self
