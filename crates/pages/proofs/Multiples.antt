-- Multiples of a size, before and behind an address.
-- Assumes nothing.
use mathlib.Core.Path.{◌≡◌, sym, ap, subst, ◌∙◌}
use mathlib.Core.Logic.{◌⊎◌, inl, inr}
use Prim.Native.Nat.{ℕ, ◌+◌, ◌-◌, ◌*◌, ◌/◌, ◌%◌, ◌∣◌, ◌≤◌, ◌<◌}
use native.Mathlib.Nat.{dvd-mul_left, dvd-sub, dvd-add, le_of_dvd, div-mul-le_self, lt-div-mul-add}
use native.Mathlib.Nat.{mul-add-mod_self_right, div-mul_cancel, div-add-mod', add_comm}
use native.Mathlib.Omega.{arith}
use Rattle.model.proofs.Numbers.{order}
use Rattle.pages.specs.Pages.{down, up}

pub down_multiple : (s x : ℕ) → s ∣ down s x
down_multiple s x = dvd-mul_left s (x / s)

pub down_le : (s x : ℕ) → down s x ≤ x
down_le s x = div-mul-le_self x s

pub down-next : (s x : ℕ) → 0 < s → x < down s x + s
down-next s x h = lt-div-mul-add h

pub up_multiple : (s x : ℕ) → s ∣ up s x
up_multiple s x = down_multiple s (x + (s - 1))

pub up_le : (s x : ℕ) → 0 < s → x ≤ up s x
up_le s x h = omega (arith, down-next s (x + (s - 1)) h)

pub up_next : (s x : ℕ) → 0 < s → up s x < x + s
up_next s x h = omega (arith, down_le s (x + (s - 1)))

-- between two multiples of z lies at least z
pub next_multiple : (z a c : ℕ) → z ∣ a → z ∣ c → a < c → a + z ≤ c
next_multiple z a c p q h = let k : z ≤ c - a = le_of_dvd (omega arith) (dvd-sub z q p) in omega arith

pub le_down : (s x y : ℕ) → 0 < s → s ∣ y → y ≤ x → y ≤ down s x
le_down s x y h p k = go (order y (down s x))
  where
    go : (y ≤ down s x) ⊎ (down s x < y) → y ≤ down s x
    go (inl l) = l
    go (inr l) = absurd (omega (arith, down-next s x h, next_multiple s (down s x) y (down_multiple s x) p l))

-- ── remainders ──

multiple_mod : (s u v : ℕ) → s ∣ u → (u + v) % s ≡ v % s
multiple_mod s u v p = ap (λ (z : ℕ). (z + v) % s) (sym (div-mul_cancel s p)) ∙ mul-add-mod_self_right (u / s) s v

-- an address and an offset that are both multiples of s differ as address and offset of the mapping do
pub congruent_of : (s address offset x y : ℕ) → s ∣ x → s ∣ y → y + address ≡ offset + x → address % s ≡ offset % s
congruent_of s address offset x y p q e =
    sym (multiple_mod s y address q) ∙ ap (λ (z : ℕ). z % s) (e ∙ add_comm offset x) ∙ multiple_mod s x offset p

pub offset_multiple : (s address offset x : ℕ) → s ∣ x → address % s ≡ offset % s → address ≤ x → s ∣ offset + (x - address)
offset_multiple s address offset x p e h =
    subst (λ (z : ℕ). s ∣ z) (moved (address / s * s) (offset / s * s) (div-add-mod' address s) (div-add-mod' offset s))
    (dvd-sub s (dvd-add s (dvd-mul_left s (offset / s)) p) (dvd-mul_left s (address / s)))
  where
    moved : (A F : ℕ) → A + address % s ≡ address → F + offset % s ≡ offset → F + x - A ≡ offset + (x - address)
    moved A F a f = omega (arith, a, f, e, h)
