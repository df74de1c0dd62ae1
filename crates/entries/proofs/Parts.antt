-- A part [a, b) of a mapping, cut at boundaries of a size: each piece is a part of the mapping too.
-- Assumes nothing.
use mathlib.Core.Path.{◌≡◌, sym, ap, ap₂, ◌∙◌}
use Prim.Native.Nat.{ℕ, ◌+◌, ◌-◌, ◌≤◌, ◌<◌, min, max}
use native.Mathlib.Omega.{arith}
use Rattle.model.specs.declared.Mapping.{Mapping}
use Rattle.pages.specs.Pages.{down, up, first_cut, last_cut, part, lower, middle, upper}
use Rattle.pages.proofs.Level.{address_first_cut, first_cut_last_cut}

-- an offset that moves along twice
moved : (offset : ℕ) {address a x y : ℕ} → address ≤ a → a ≤ x → x ≡ y → offset + (x - address) ≡ offset + (a - address) + (y - a)
moved offset h k e = omega (arith, h, k, e)

module _ (s : ℕ) (m : Mapping) {a b first last : ℕ} (some : 0 < s) (from : m.address ≤ a) (range : a ≤ b)
    (p : first ≡ min (up s a) b) (q : last ≡ max (min (up s a) b) (down s b)) where
  at_first : first_cut s (part a b m) ≡ first
  at_first = omega (arith, p, range)

  at_last : last_cut s (part a b m) ≡ last
  at_last =
      let e : a + (b - a) ≡ b = omega (arith, range) in
      ap (λ (x : ℕ). max (min (up s a) x) (down s x)) e ∙ sym q

  pub a_first : a ≤ first
  a_first = omega (arith, address_first_cut s (part a b m) some, at_first)

  pub first_last : first ≤ last
  first_last = omega (arith, first_cut_last_cut s (part a b m) some, at_first, at_last)

  pub lower_is : part a first m ≡ lower s (part a b m)
  lower_is = λ i. record { address = a; size = size i; object = m.object; offset = offset i }
    where
      size : first - a ≡ first_cut s (part a b m) - a
      size = omega (arith, at_first)

      offset : m.offset + (a - m.address) ≡ m.offset + (a - m.address) + (a - a)
      offset = omega arith

  pub middle_is : part first last m ≡ middle s (part a b m)
  middle_is = λ i. record { address = sym at_first i; size = size i; object = m.object; offset = offset i }
    where
      size : last - first ≡ last_cut s (part a b m) - first_cut s (part a b m)
      size = ap₂ (λ (x y : ℕ). x - y) (sym at_last) (sym at_first)

      offset : m.offset + (first - m.address) ≡ m.offset + (a - m.address) + (first_cut s (part a b m) - a)
      offset = moved m.offset from a_first (sym at_first)

  pub upper_is : part last b m ≡ upper s (part a b m)
  upper_is = λ i. record { address = sym at_last i; size = size i; object = m.object; offset = offset i }
    where
      size : b - last ≡ a + (b - a) - last_cut s (part a b m)
      size =
          let e : b ≡ a + (b - a) = omega (arith, range) in
          ap₂ (λ (x y : ℕ). x - y) e (sym at_last)

      offset : m.offset + (last - m.address) ≡ m.offset + (a - m.address) + (last_cut s (part a b m) - a)
      offset = moved m.offset from (omega (arith, a_first, first_last)) (sym at_last)
