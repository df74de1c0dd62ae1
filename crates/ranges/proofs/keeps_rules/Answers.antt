use mathlib.Core.Bool.{true≢false}
use Rattle.std.proofs.Common.{◌∙◌, sym}
use Rattle.std.proofs.lemmas.Bool.{eqb-true}
use Rattle.ranges.specs.Lists.{lent_list}
use Rattle.ranges.proofs.Fits.{length_breaks, range_breaks, words-decide, empty_decides}
use Rattle.ranges.proofs.keeps_rules.Goals.{then-length_is_right, else-length_is_right}
use Rattle.ranges.proofs.keeps_rules.Goals as goal

pub returns-then-is_empty : goal.returns-then-is_empty
returns-then-is_empty c =
    let a = c.args in
    empty_decides a.s.space a.list.now a.count (eqb-true _ _ (sym c.if-is_empty.ensures))

pub returns-then-all_fit : goal.returns-then-all_fit
returns-then-all_fit c =
    let a = c.args in
    elim c.if-length_is_right.branch [
      | then-length_is_right w ↦
          words-decide a.s.space (lent_list a.list.now a.count) (sym c.length_is_right.ensures ∙ w.if-length_is_right.true)
          (sym w.all_fit.ensures ∙ sym w.value-is ∙ c.if-all_fit.true) c.are_zero_from.ensures
      | else-length_is_right w ↦ absurd (true≢false (sym c.if-all_fit.true ∙ w.value-is ∙ w.if-length_is_right.false))
    ]

pub returns-else-all_fit : goal.returns-else-all_fit
returns-else-all_fit c =
    let a = c.args in
    elim c.if-length_is_right.branch [
      | then-length_is_right w ↦ c.if-all_fit.false ∙ range_breaks a.s.space (lent_list a.list.now a.count) (sym w.all_fit.ensures ∙ sym w.value-is ∙ c.if-all_fit.false)
      | else-length_is_right w ↦ w.value-is ∙ w.if-length_is_right.false ∙ length_breaks a.s.space (lent_list a.list.now a.count) (sym c.length_is_right.ensures ∙ w.if-length_is_right.false)
    ]
