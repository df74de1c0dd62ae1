use Rattle.std.proofs.Common.{◌*◌, sym, arith}
use mathlib.Core.List.{flat_map}
use Rattle.words.proofs.Stored.{stored_none}
use Rattle.table.proofs.write_part.Goals as goal

pub returns-in_default : goal.returns-in_default
unfolding flat_map
returns-in_default c = rw c.in_default.is (sym (stored_none c.args.t.now (4 * c.args.i)), omega arith)

pub returns : goal.returns
unfolding flat_map
returns c = rw c.in-Some.is (c.write_mapping.ensures, omega arith)
