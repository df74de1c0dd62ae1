use mathlib.Core.Path.{refl, sym, ◌∙◌}
use Rattle.rules.proofs.Laws.{refused_on}
use Rattle.request.specs.Bound.{lent_words}
use Rattle.request.proofs.Bound.{some, partly_plain, relistable_there, refused_there, bound_is}
use Rattle.bind.proofs.Binds.{bind_record_by}
use Rattle.bind.proofs.bind_record.Goals as goal

pub returns-in_err-r : goal.returns-in_err-r
returns-in_err-r c =
    let a = c.args in
    let l = lent_words a.ranges.now a.range_count a.table.now a.count in
    rw (refused_on _ _ c.from_residual.ensures.1)
    (bind_record_by a.s l a.operations.now a.«record».now c.in_err-r.ensures)

pub returns-in_err-grant : goal.returns-in_err-grant
returns-in_err-grant c =
    let a = c.args in
    let l = lent_words a.ranges.now a.range_count a.table.now a.count in
    rw (refused_on _ _ c.from_residual-in_err-grant.ensures.1)
    (bind_record_by a.s l a.operations.now a.«record».now c.in_ok-r.ensures
    ∙ refused_there a.s a.ranges.now a.range_count a.table.now a.count a.operations.now _ c.in_err-grant.ensures)

pub returns-then-r-eq0 : goal.returns-then-r-eq0
returns-then-r-eq0 c =
    let a = c.args in
    let l = lent_words a.ranges.now a.range_count a.table.now a.count in
    bind_record_by a.s l a.operations.now a.«record».now c.in_ok-r.ensures
    ∙ sym (partly_plain a.s l a.operations.now _ c.if-r-eq0.true)
    ∙ c.in_ok-grant.ensures

pub relist-requires : goal.relist-requires
relist-requires c =
    let a = c.args in
    let h = some _ c.if-r-eq0.false in
    (h, relistable_there a.s a.ranges.now a.range_count a.table.now a.count a.operations.now _ h c.in_ok-grant.ensures (_, refl))

pub returns : goal.returns
returns c =
    let a = c.args in
    let l = lent_words a.ranges.now a.range_count a.table.now a.count in
    bind_record_by a.s l a.operations.now a.«record».now c.in_ok-r.ensures
    ∙ bound_is a.s a.ranges.now a.range_count a.table.now a.count a.operations.now _ (some _ c.if-r-eq0.false) c.in_ok-grant.ensures
    (c.relist.ensures a.operations.now)
