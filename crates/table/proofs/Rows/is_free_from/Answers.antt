use Rattle.std.proofs.Common.{◌∙◌, arith, le-leb}
use Rattle.table.proofs.Free.{free_all, free_first}
use Rattle.table.proofs.Rows.is_free_from.Goals as goal

pub returns-then-number-first-clause-free : goal.returns-then-number-first-clause-free
returns-then-number-first-clause-free g c =
    let t = c.if-number-first.true in
    λ from h e. le-leb _ _ t ∙ free_all (g.met.Self.Rows.in_order c.args.self) h e (omega (arith, c.number.ensures, t))

pub returns-else-number-first-clause-free : goal.returns-else-number-first-clause-free
returns-else-number-first-clause-free g c =
    λ from h e. free_first (g.met.Self.Rows.in_order c.args.self) h _ e (omega (arith, c.number.ensures, c.if-number-first.false)) c.row.ensures
