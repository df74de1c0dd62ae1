-- What one look at the joined words of mappings tells.
-- Assumes nothing.
use Rattle.std.specs.Prelude.{◌≡◌, ℕ, ◌+◌, ◌%◌, ◌^◌, ◌<◌, ◌≤◌, true}
use Rattle.model.specs.declared.Mapping.{Mapping}
use Rattle.model.specs.Rows.{all}
use Rattle.model.specs.Rules.{page, limit, last_object, end}
use Rattle.model.specs.Table.{fit_tests}
use Rattle.inspect.specs.declared.Joined.{Joined}
use Rattle.inspect.specs.Part.{up_to}

-- no word that was joined is too large or off a page, and no difference was below zero or is too large
pub record Clean (j : Joined) : Type 0 where
  pub on_page : j.bits % page ≡ 0
  pub bits_most : j.bits ≤ limit
  pub objects_most : j.objects ≤ last_object
  pub differences_most : j.differences < limit

-- a place on a page, so low that two limits more do not wrap
pub record Floor (from : ℕ) : Type 0 where
  pub most : from ≤ 2 ^ 62
  pub on_page : from % page ≡ 0

-- the mapping fits wherever it ends in time; it ends on a page, at a sum that does not wrap
pub record Fits (from : ℕ) (m : Mapping) : Type 0 where
  pub ends : end m ≤ from + (limit + limit)
  pub on_page : end m % page ≡ 0
  pub fits : (stop : ℕ) → end m ≤ stop → all (fit_tests (up_to stop) from m) ≡ true
