use mathlib.Core.Path.{ap}
use Rattle.batches.specs.Batch.{requests_in, batch_reply}
use Rattle.batch.proofs.Commits.{none, every}
use borrow.Author.Rules.{rules}
use Rattle.batch.proofs.all_or_none.Goals as goal

pub returns-in-Err : goal.returns-in-Err
returns-in-Err c =
    let a = c.args in
    none a.ranges a.s (requests_in a.records.now) a.table.now a.work.now a.operations.now a.count c.requires.0 c.store.ensures c.requires.1
    c.turns.ensures (ap batch_reply c.in-Err.is) c.turns.auto.table c.store-in-Err.ensures c.clear.ensures
    (c.fill.ensures.after (search rules)) (c.fill-in-Err.ensures.after (search rules)) c.turns.auto.operations

pub returns-in-Ok : goal.returns-in-Ok
returns-in-Ok c =
    let a = c.args in
    every a.ranges a.s (requests_in a.records.now) a.table.now a.work.now a.operations.now a.count c.requires.0 c.store.ensures c.requires.1
    c.turns.ensures (ap batch_reply c.in-Ok.is) (c.fill-in-Ok.ensures.after (search rules))
