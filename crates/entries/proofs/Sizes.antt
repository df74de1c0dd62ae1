-- The sizes of a page, from one to the next smaller one.
-- Assumes nothing.
use mathlib.Core.Path.{◌≡◌, refl, subst}
use mathlib.Core.List.{[], ◌∷◌}
use Prim.Native.Nat.{◌^◌, ◌≤◌, ◌<◌}
use native.Mathlib.Omega.{arith}
use lib.Count.{count_trailing_zeros}
use Rattle.std.specs.Prelude.{Option, None, Some}
use Rattle.pages.specs.Claims.{Ladder, least}
use Rattle.entries.specs.declared.PageSize.{PageSize}
use Rattle.entries.specs.declared.PageSize.TheVariants.{Page4K, Page2M, Page1G}
use Rattle.entries.specs.Sizes.{bytes_of, size_below, sizes_below}

pub size_some : (s : PageSize) → 0 < bytes_of s
size_some Page4K = omega arith
size_some Page2M = omega arith
size_some Page1G = omega arith

pub ladder_at : (s : PageSize) → Ladder (bytes_of s) (sizes_below s)
ladder_at Page4K = omega arith
ladder_at Page2M = (omega arith, refl, omega arith)
ladder_at Page1G = (omega arith, refl, (omega arith, refl, omega arith))

pub least_at : (s : PageSize) → least (bytes_of s) (sizes_below s) ≡ 4096
least_at Page4K = refl
least_at Page2M = refl
least_at Page1G = refl

-- the smaller sizes, by the next smaller one
abbrev Smaller : PageSize → Option PageSize → Type 0
Smaller s None = sizes_below s ≡ []
Smaller s (Some t) = sizes_below s ≡ bytes_of t ∷ sizes_below t

smaller : (s : PageSize) → Smaller s (size_below s)
smaller Page4K = refl
smaller Page2M = refl
smaller Page1G = refl

pub none_below : (s : PageSize) → size_below s ≡ None → sizes_below s ≡ []
none_below s e = subst (Smaller s) e (smaller s)

pub next_below : (s : PageSize) {t : PageSize} → size_below s ≡ Some t → sizes_below s ≡ bytes_of t ∷ sizes_below t
next_below s e = subst (Smaller s) e (smaller s)

-- the sizes are powers of 2
pub size_bits : (s : PageSize) → (count_trailing_zeros 64 (bytes_of s) ≤ 30) × (2 ^ count_trailing_zeros 64 (bytes_of s) ≡ bytes_of s)
unfolding count_trailing_zeros
size_bits Page4K = (omega arith, refl)
size_bits Page2M = (omega arith, refl)
size_bits Page1G = (omega arith, refl)
