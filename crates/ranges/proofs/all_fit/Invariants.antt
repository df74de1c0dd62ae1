use Rattle.model.specs.Rows.{all}
use Rattle.model.specs.Ranges.{ranges_in, list_tests}
use Rattle.ranges.proofs.Fits.{FitFrom}
use Rattle.ranges.proofs.all_fit.Given as goal

abbrev pub invariant-loop-row : goal.invariant-loop-row
invariant-loop-row l = FitFrom l.s l.list l.count (all (list_tests l.s 0 (ranges_in l.count l.list))) l.row-index l.end
