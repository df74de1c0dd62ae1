use mathlib.Core.Path.{◌∙◌}
use Rattle.std.proofs.lemmas.Result.{err_from_is_err_and}
use Rattle.request.specs.Bound.{lent_words}
use Rattle.batch.proofs.Batched.{not_records, not_taken, checked, as_long, batch_is}
use Rattle.batch.proofs.bind_batch.Goals as goal

pub returns-then-not-are_records : goal.returns-then-not-are_records
returns-then-not-are_records c =
    let a = c.args in
    rw (c.from.ensures.0, c.from.ensures.1)
    (not_records a.s (lent_words a.ranges.now a.range_count a.table.now a.count) a.work.now a.operations.now a.records.now c.if-not-are_records.ensures)

pub returns-in_err-lent_verdict : goal.returns-in_err-lent_verdict
returns-in_err-lent_verdict c =
    let a = c.args in
    let l = lent_words a.ranges.now a.range_count a.table.now a.count in
    let p = err_from_is_err_and c.from_residual.result c.from_residual.ensures.1 in
    rw (p.1, p.2.0, p.2.1) (not_taken a.s l a.work.now a.operations.now a.records.now c.if-not-are_records.ensures c.in_err-lent_verdict.ensures)

pub all_or_none-requires : goal.all_or_none-requires
all_or_none-requires c =
    let a = c.args in
    let l = lent_words a.ranges.now a.range_count a.table.now a.count in
    let own = c.in_ok-lent_verdict.ensures in
    (checked a.s l a.work.now a.operations.now a.records.now c.if-not-are_records.ensures own, as_long a.s l a.work.now a.operations.now a.records.now c.if-not-are_records.ensures own)

pub returns : goal.returns
returns c =
    let a = c.args in
    let l = lent_words a.ranges.now a.range_count a.table.now a.count in
    batch_is a.s l a.work.now a.operations.now a.records.now c.if-not-are_records.ensures c.in_ok-lent_verdict.ensures ∙ c.all_or_none.ensures
