use Rattle.std.proofs.Common.{sym, ap, ◌∙◌, Some, arith}
use Rattle.std.proofs.lemmas.Option.{slice_get-get_or, slice_get_past}
use Rattle.model.specs.Ranges.{ranges_in}
use Rattle.model.proofs.Ranges.{length-ranges}
use Rattle.ranges.proofs.Kept.{kept_valid}
use Rattle.ranges.proofs.Places.{at_place, valid_held}
use Rattle.ranges.proofs.RangeList.get.Goals as goal

pub range_at-requires : goal.range_at-requires
range_at-requires c = let l = c.args.self.now in omega (arith, valid_held (kept_valid l.kept), c.if-i-self.true)

pub returns-then-i-self : goal.returns-then-i-self
returns-then-i-self c =
    let l = c.args.self.now in
    let i = c.args.i in
    let d = c.range_at.result in
    sym (slice_get-get_or (ranges_in l.count l.words.now) i d (omega (arith, c.if-i-self.true, length-ranges l.count l.words.now))
    ∙ ap Some (at_place l.count l.words.now i d c.if-i-self.true ∙ sym c.range_at.ensures))

pub returns : goal.returns
returns c =
    let l = c.args.self.now in
    sym (slice_get_past (ranges_in l.count l.words.now) c.args.i (omega (arith, c.if-i-self.false, length-ranges l.count l.words.now)))
