use Rattle.std.proofs.Common.{sym}
use Rattle.model.proofs.Store.{length-mappings}
use Rattle.table.proofs.TableRows.number.Goals as goal

pub returns : goal.returns
returns c = let t = c.args.self in sym (length-mappings t.count t.words.now)
