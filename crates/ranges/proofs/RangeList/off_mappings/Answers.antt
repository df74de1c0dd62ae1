use Rattle.std.proofs.Common.{sym, ◌∙◌, arith}
use Rattle.ranges.specs.Held.{ranges_held}
use Rattle.ranges.proofs.Edges.{off-end, ends-behind, off_next, off_here}
use Rattle.ranges.proofs.Found.{none_there}
use Rattle.ranges.proofs.Kept.{kept_valid}
use Rattle.ranges.proofs.Looks.{first_place}
use Rattle.ranges.proofs.Places.{valid_spaced, end-there}
use Rattle.ranges.proofs.RangeList.off_mappings.Goals as goal

pub returns-in_default : goal.returns-in_default
returns-in_default c =
    let l = c.args.self.now in
    let ys = ranges_held l in
    off-end ys (valid_spaced (kept_valid l.kept)) c.args.x c.args.bytes (c.first_ending_behind-i.ensures ∙ first_place c.args.x ys) (none_there ys _ (sym c.get.ensures ∙ c.in_default.is))

pub returns-then-x-y : goal.returns-then-x-y
returns-then-x-y c =
    let l = c.args.self.now in
    let ys = ranges_held l in
    off_next ys (valid_spaced (kept_valid l.kept)) c.args.x c.args.bytes (c.first_ending_behind-i.ensures ∙ first_place c.args.x ys) (sym c.get.ensures ∙ c.in-Some.is) c.if-x-y.true (omega (arith, c.min.ensures))

pub overflow_add-y : goal.overflow_add-y
overflow_add-y c =
    let l = c.args.self.now in
    omega (arith, end-there (kept_valid l.kept) _ (sym c.get.ensures ∙ c.in-Some.is))

pub overflow_sub-y-2 : goal.overflow_sub-y-2
overflow_sub-y-2 c =
    let l = c.args.self.now in
    let ys = ranges_held l in
    omega (arith, ends-behind ys (valid_spaced (kept_valid l.kept)) c.args.x c.args.bytes (c.first_ending_behind-i.ensures ∙ first_place c.args.x ys) (sym c.get.ensures ∙ c.in-Some.is))

pub returns : goal.returns
returns c =
    let l = c.args.self.now in
    let ys = ranges_held l in
    off_here ys (valid_spaced (kept_valid l.kept)) c.args.x c.args.bytes (c.first_ending_behind-i.ensures ∙ first_place c.args.x ys) (sym c.get.ensures ∙ c.in-Some.is) c.if-x-y.false (omega (arith, c.min-2.ensures))
