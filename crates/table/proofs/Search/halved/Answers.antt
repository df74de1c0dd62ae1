use Rattle.table.proofs.Halving.{halved-lower, halved-upper}
use Rattle.table.proofs.Search.halved.Goals as goal

pub returns-then-x-m : goal.returns-then-x-m
returns-then-x-m c = let a = c.args in halved-lower a.x a.m a.self c.if-x-m.true

pub returns : goal.returns
returns c =
    let a = c.args in
    halved-upper a.x a.m a.self c.if-x-m.false
