use Rattle.std.proofs.Common.{◌≤◌}
use Rattle.model.specs.Rules.{most_mappings}
use Rattle.inspect.specs.Joined.{Clean}
use Rattle.inspect.proofs.Quick.{Passed}
use Rattle.inspect.proofs.all_fit.Given as goal

abbrev pub invariant-loop-row : goal.invariant-loop-row
invariant-loop-row l = l.count ≤ most_mappings → Clean l.seen → Passed l.t l.count l.from l.stop l.row-index l.end
