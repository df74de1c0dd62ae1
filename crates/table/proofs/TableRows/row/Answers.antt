use Rattle.std.proofs.Common.{sym, ◌∙◌, arith}
use Rattle.model.proofs.Store.{length-mappings}
use Rattle.table.proofs.Places.{at_place}
use Rattle.table.proofs.TableRows.row.Goals as goal

pub read_mapping-requires : goal.read_mapping-requires
read_mapping-requires c = let t = c.args.self in omega (arith, t.held, c.requires, length-mappings t.count t.words.now)

pub returns : goal.returns
returns c =
    let t = c.args.self in
    c.read_mapping.ensures ∙ sym (at_place t.count t.words.now c.args.i _ (omega (arith, c.requires, length-mappings t.count t.words.now)))
