-- An upper rest, put together: x is the range's end.
-- Assumes nothing.
use mathlib.Core.Path.{◌≡◌, refl}
use Prim.Native.Nat.{ℕ, ◌+◌, ◌-◌, ◌<◌}
use native.Mathlib.Omega.{arith}
use Rattle.model.specs.declared.Mapping.{Mapping}
use Rattle.model.specs.declared.Request.{Request}
use Rattle.model.specs.Rules.{end, stop}
use Rattle.model.specs.Cut.{upper_part}
use Rattle.model.proofs.Window.{same}

pub upper_is : (r : Request) (m : Mapping) {x size offset : ℕ} → m.address < stop r → size ≡ end m - x → offset ≡ m.offset + (x - m.address) → x ≡ stop r
    → record { address = x; size = size; object = m.object; offset = offset } ≡ upper_part (stop r) m
upper_is r m h es eo ex = same _ _ (omega (arith, ex, h)) (omega (arith, es, ex, h)) refl (omega (arith, eo, ex, h))
