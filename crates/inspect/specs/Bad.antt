-- The lowest place of a mapping that breaks a rule.
-- Assumes nothing.
use Rattle.std.specs.Prelude.{◌≡◌, ℕ, ◌<◌, Option, MatchOption}

-- none where that place is behind the last of n mappings; else it
abbrev pub FirstBad : ℕ → ℕ → Option ℕ → Type 0
FirstBad p n r = MatchOption r (p ≡ n) (λ i. (i ≡ p) × (i < n))
