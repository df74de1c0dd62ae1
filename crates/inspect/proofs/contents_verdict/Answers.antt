use Rattle.std.proofs.Common.{T, not, ap, sym, ◌∙◌, subst, arith}
use borrow.Author.Tests.{not-true, not-false}
use Rattle.table.specs.Places.{lent}
use Rattle.inspect.proofs.Verdicts.{count_refused, mapping_refused, stale_refused, table_passed}
use Rattle.inspect.proofs.contents_verdict.Goals as goal

pub returns-then-t-count : goal.returns-then-t-count
returns-then-t-count c =
    let a = c.args in
    count_refused a.s.space (lent a.t.now a.count) c.if-t-count.true

pub returns-in-Some : goal.returns-in-Some
returns-in-Some c =
    let a = c.args in
    mapping_refused a.s.space (lent a.t.now a.count) (omega arith) _ c.in-Some.ensures.0 (λ q. omega (arith, q, c.in-Some.ensures.1))

pub returns-then-not-are_zero_from : goal.returns-then-not-are_zero_from
returns-then-not-are_zero_from c =
    let a = c.args in
    stale_refused a.s.space (lent a.t.now a.count) (omega arith) c.in_default.ensures
    (λ z. subst T (sym (c.are_zero_from.ensures.1 z) ∙ not-true _ (ap not c.if-not-are_zero_from.true)) tt)

pub returns : goal.returns
returns c =
    let a = c.args in
    table_passed a.s.space (lent a.t.now a.count) (omega arith) c.in_default.ensures
    (c.are_zero_from.ensures.0 (not-false _ (ap not c.if-not-are_zero_from.false)))
