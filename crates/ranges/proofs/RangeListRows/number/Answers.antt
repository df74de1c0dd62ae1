use Rattle.std.proofs.Common.{sym, ◌∙◌}
use Rattle.std.proofs.lemmas.List.{length-map}
use Rattle.model.specs.Ranges.{ranges_in}
use Rattle.model.proofs.Ranges.{length-ranges}
use Rattle.ranges.specs.Lists.{as_mapping}
use Rattle.ranges.proofs.RangeListRows.number.Goals as goal

pub returns : goal.returns
returns c =
    let l = c.args.self in
    sym (length-map (ranges_in l.count l.words.now) as_mapping ∙ length-ranges l.count l.words.now)
