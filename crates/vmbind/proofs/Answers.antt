-- The failure that a `?` passes on.
-- Assumes nothing.
use mathlib.Core.Path.{◌≡◌, ap, ◌∙◌}
use Rattle.std.specs.Prelude.{Result, Err, IsErrAnd}
use Rattle.std.proofs.lemmas.Result.{err_from_is_err_and}
use Rattle.vmbind.specs.declared.Failure.{Failure}

pub fails_by : {A : Type 0} {e : Result A Failure} {f g : Failure} → IsErrAnd e (λ x. x ≡ f) → f ≡ g → e ≡ Err g
fails_by {e = e} h k = let p = err_from_is_err_and e h in p.1 ∙ ap Err (p.2 ∙ k)
