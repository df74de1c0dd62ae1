-- The place that a batch's refusal tells.
use Rattle.std.specs.Prelude.{ℕ}
use Rattle.model.specs.declared.Refusal.{Refusal}
use Rattle.model.specs.declared.Refusal.TheVariants.{BadMapping}

-- p, or a bad mapping's own
abbrev pub place_in : Refusal → ℕ → ℕ
place_in (BadMapping q) p = q
place_in _ p = p
