-- A number in the bytes of a slice.
-- Assumes nothing.
use Rattle.std.specs.Prelude.{◌≡◌, List, ℕ, ◌^◌, ◌<◌, drop}
use Rattle.model.specs.Calls.{little_endian}

-- x is the number in the n bytes at a place, and fits them
pub record NumberAt (bs : List ℕ) (at n x : ℕ) : Type 0 where
  pub is : x ≡ little_endian n (drop at bs)
  pub fits : x < 256 ^ n
