-- Laws of tests, and of what a `?` passes on.
-- Assumes nothing.
use mathlib.Core.Path.{◌≡◌, refl, sym, ◌∙◌}
use mathlib.Core.Bool.{Bool, true, false, not}
use Rattle.std.specs.Result.{IsErrAnd}
use Rattle.std.specs.Prelude.{Result}
use Rattle.std.proofs.lemmas.Result.{err_from_is_err_and}
use Rattle.model.specs.declared.Refusal.{Refusal}
use Rattle.model.specs.Calls.{reply_of, refusal_reply}
use borrow.Author.Tests.{not-true, not-false}

-- what the exit of a `?` answers: the refusal that came
pub refused_on : {A : Type 0} (r : Result A Refusal) (w : Refusal) → IsErrAnd r (λ v. v ≡ w) → reply_of r ≡ refusal_reply w
refused_on r w h = let p = err_from_is_err_and r h in rw (p.1, p.2) refl

-- what `if !t` tells of the definition that t equals: on the way past it, and in its branch
pub held : {t u : Bool} → t ≡ u → not t ≡ false → u ≡ true
held {t} e n = sym e ∙ not-false t n

pub failed : {t u : Bool} → t ≡ u → not t ≡ true → u ≡ false
failed {t} e n = sym e ∙ not-true t n
