use mathlib.Core.Path.{◌≡◌, refl, ◌∙◌}
use mathlib.Core.Bool.{Bool, true, false}
use native.Mathlib.Omega.{arith}
use mir.Val.{bool_byte}
use Rattle.model.specs.Rows.{choose}
use Rattle.program.specs.Text.{ascii}
use Rattle.text.proofs.Adding.{adds_most, adds_behind}
use Rattle.text.proofs.Lines.keep.Goals as goal

keep_mark : (keep : Bool) → bool_byte keep ≡ choose keep 1 0
keep_mark true = refl
keep_mark false = refl

pub returns : goal.returns
unfolding ascii
returns c =
    adds_most (omega arith) (adds_behind (omega arith) (rw c.mapping_words.ensures at c.phrase.ensures) (rw (c.from.ensures ∙ keep_mark c.args.keep) at c.line.ensures))
