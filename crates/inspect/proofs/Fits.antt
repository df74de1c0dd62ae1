-- A mapping that fits in a space that keeps its rules.
-- Assumes nothing.
use Rattle.std.proofs.Common.{◌≡◌, ℕ, ◌+◌, ◌≤◌, true}
use Rattle.model.specs.declared.Mapping.{Mapping}
use Rattle.model.specs.declared.Space.{Space}
use Rattle.model.specs.Rows.{all}
use Rattle.model.specs.Rules.{limit, end}
use Rattle.model.specs.Table.{fit_tests}
use Rattle.model.proofs.Tests.{tests, all_facts}

-- it ends where no sum wraps
pub fits_end : (s : Space) (from : ℕ) (m : Mapping) → s.start + s.size ≤ limit → all (fit_tests s from m) ≡ true → end m ≤ limit
fits_end s from m l f = let k = all_facts (fit_tests s from m) f in omega tests
