use Rattle.text.proofs.Lines.+digit_by_digit.Given as goal

abbrev pub decreases-digit_by_digit : goal.decreases-digit_by_digit
decreases-digit_by_digit l = l.n
