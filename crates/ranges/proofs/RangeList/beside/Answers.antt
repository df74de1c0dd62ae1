use Rattle.std.proofs.Common.{◌∙◌}
use Rattle.ranges.specs.Beside.{beside}
use Rattle.ranges.specs.Held.{ranges_held}
use Rattle.ranges.proofs.Edges.{beside_none, beside_other}
use Rattle.ranges.proofs.RangeList.beside.Goals as goal

pub returns-then-self-eq0 : goal.returns-then-self-eq0
returns-then-self-eq0 c =
    let l = c.args.self.now in
    beside_none l.words.now l.count c.args.x c.args.seen c.if-self-eq0.true

pub returns-in-Nothing : goal.returns-in-Nothing
unfolding beside
returns-in-Nothing c = c.off_mappings.ensures ∙ rw c.in-Nothing.is

pub returns-in_default : goal.returns-in_default
returns-in_default c = beside_other (ranges_held c.args.self.now) c.args.x c.args.seen c.in_default.not-Nothing
