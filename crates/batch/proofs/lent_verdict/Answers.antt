use mathlib.Core.Path.{refl}
use mathlib.Core.List.{[], ◌∷◌}
use Rattle.batches.specs.Batch.{work_row}
use Rattle.rules.proofs.Laws.{refused_on}
use Rattle.request.specs.Bound.{lent_of, contents_rows}
use Rattle.request.proofs.Checked.{lengths_held, lent_by}
use Rattle.batch.proofs.Verdicts.{work_refused, work_passed}
use Rattle.batch.proofs.lent_verdict.Goals as goal

pub returns-in_err-lengths_verdict : goal.returns-in_err-lengths_verdict
returns-in_err-lengths_verdict c =
    let a = c.args in
    let l = lent_of a.l.now in
    rw (refused_on _ _ c.from_residual.ensures.1) (lent_by a.s l a.operation_words (work_row a.work_words l.table ∷ []) c.in_err-lengths_verdict.ensures refl)

pub returns-then-work_words-l : goal.returns-then-work_words-l
returns-then-work_words-l c =
    let a = c.args in
    let l = lent_of a.l.now in
    lent_by a.s l a.operation_words (work_row a.work_words l.table ∷ []) c.in_ok-lengths_verdict.ensures
    (work_refused a.work_words l.table (contents_rows a.s l) c.if-work_words-l.true)

pub new-requires : goal.new-requires
new-requires c =
    let a = c.args in
    lengths_held a.s (lent_of a.l.now) a.operation_words c.in_ok-lengths_verdict.ensures

pub returns : goal.returns
returns c =
    let a = c.args in
    let l = lent_of a.l.now in
    lent_by a.s l a.operation_words (work_row a.work_words l.table ∷ []) c.in_ok-lengths_verdict.ensures
    (work_passed a.work_words l.table (contents_rows a.s l) c.if-work_words-l.false (rw c.new.ensures at c.contents_verdict.ensures))
