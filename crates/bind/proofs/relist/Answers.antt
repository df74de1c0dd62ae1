use mathlib.Core.Path.{ap, ◌∙◌}
use Rattle.model.specs.Calls.{Purpose}
use Rattle.request.specs.Bound.{lent_words, decided}
use Rattle.request.proofs.Lasts.{for_adding, for_removing}
use Rattle.bind.proofs.relist.Goals as goal

pub returns-then-r-eq0 : goal.returns-then-r-eq0
returns-then-r-eq0 c =
    let a = c.args in
    let l = lent_words a.ranges.now a.range_count a.table.now a.count in
    λ os. ap (λ (for : Purpose). decided for a.r l os) (for_adding a.r c.requires.0 c.if-r-eq0.true)
    ∙ c.add_range.ensures os

pub returns-else-r-eq0 : goal.returns-else-r-eq0
returns-else-r-eq0 c =
    let a = c.args in
    let l = lent_words a.ranges.now a.range_count a.table.now a.count in
    λ os. ap (λ (for : Purpose). decided for a.r l os) (for_removing a.r c.requires.0 c.if-r-eq0.false)
    ∙ c.remove_range.ensures os
