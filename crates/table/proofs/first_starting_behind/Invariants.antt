use Rattle.std.proofs.Common.{◌+◌, drop}
use Rattle.model.specs.Table.{mappings_in}
use Rattle.table.specs.Places.{first_where, starts_behind}
use Rattle.table.proofs.First.{FirstFrom}
use Rattle.table.proofs.first_starting_behind.Given as goal

abbrev pub invariant-loop-i : goal.invariant-loop-i
invariant-loop-i l = FirstFrom (starts_behind l.x) l.t l.count (l.from + first_where (starts_behind l.x) (drop l.from (mappings_in l.count l.t))) l.i
