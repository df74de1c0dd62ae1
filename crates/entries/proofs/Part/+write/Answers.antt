use mathlib.Core.Path.{subst}
use native.Mathlib.Omega.{arith}
use Rattle.entries.specs.Sizes.{Wrote}
use Rattle.entries.proofs.Written.{wrote_behind, wrote_left}
use Rattle.entries.proofs.Part.+write.Goals as goal

pub returns : goal.returns
returns t c =
    let all = c.in-Some-cut.ensures in
    let lower = c.write-words in
    subst (Wrote c.args.out.now _ 0 _) all.entries
    (wrote_behind (omega arith) lower.ensures
    (wrote_behind (omega (arith, all.number, c.requires, lower.ensures.last, lower.auto.out)) (wrote_left c.write_pages-words.ensures) (wrote_left c.write-words-2.ensures)))
