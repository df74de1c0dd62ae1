use mathlib.Core.Path.{refl}
use Rattle.script.proofs.Stepping.{space_granted, space_refused}
use Rattle.script.proofs.Program.set_space.Goals as goal

pub returns-then-not-space_keeps_rules : goal.returns-then-not-space_keeps_rules
returns-then-not-space_keeps_rules c =
    let b = c.args.self.now in
    λ bs. record {
      leaves = space_refused b.progress.space b.ranges.now b.progress.ranges b.table.now b.progress.count b.operations.now bs c.args.new c.if-not-space_keeps_rules.ensures;
      stays = refl;
      lent = record { ranges = refl; table = refl; operations = refl };
    }

pub returns : goal.returns
returns c =
    let b = c.args.self.now in
    λ bs. record {
      leaves = space_granted b.progress.space b.ranges.now b.progress.ranges b.table.now b.progress.count b.operations.now bs c.args.new c.if-not-space_keeps_rules.ensures
          (c.fill.ensures.after (λ y e. e)) (c.fill-2.ensures.after (λ y e. e));
      stays = refl;
      lent = record { ranges = refl; table = refl; operations = refl };
    }
