use Rattle.std.proofs.Common.{◌<◌, ap, sym, ◌∙◌, arith}
use lib.ListN.{get_or-map}
use Rattle.std.proofs.lemmas.List.{length-map}
use Rattle.model.specs.Ranges.{ranges_in}
use Rattle.model.proofs.Ranges.{length-ranges}
use Rattle.ranges.specs.Lists.{as_mapping}
use Rattle.ranges.proofs.Kept.{kept_valid}
use Rattle.ranges.proofs.Places.{at_place, valid_held}
use Rattle.ranges.proofs.RangeListRows.row.Goals as goal

pub range_at-requires : goal.range_at-requires
range_at-requires c =
    let l = c.args.self in
    omega (arith, c.requires, valid_held (kept_valid l.kept), length-map (ranges_in l.count l.words.now) as_mapping, length-ranges l.count l.words.now)

pub returns : goal.returns
returns c =
    let l = c.args.self in
    let i : c.args.i < l.count = omega (arith, c.requires, length-map (ranges_in l.count l.words.now) as_mapping, length-ranges l.count l.words.now) in
    c.as_mapping.ensures
    ∙ ap as_mapping (c.range_at.ensures ∙ sym (at_place l.count l.words.now c.args.i (record { start = 0; size = 0 }) i))
    ∙ sym (get_or-map as_mapping (ranges_in l.count l.words.now) c.args.i (record { start = 0; size = 0 }))
