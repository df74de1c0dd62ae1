-- Binary digits: a half has one less, and a lesser number no more.
-- Assumes nothing.
use mathlib.Core.Path.{◌≡◌, refl, ap}
use mathlib.Core.Logic.{◌↔◌, ⊎_elim}
use mathlib.Core.List.{[], ◌∷◌, map}
use Prim.Native.Nat.{ℕ, zero, suc, ◌/◌, ◌^◌, ◌≤◌, ◌<◌}
use native.Mathlib.Nat.{two-pow-succ, one-le-pow}
use native.Mathlib.Omega.{arith}
use Rattle.model.proofs.Numbers.{order}
use Rattle.table.specs.Halving.{digits_in, binary_digits, BinaryDigits}

worked : map binary_digits (0 ∷ 1 ∷ 2 ∷ 3 ∷ 4 ∷ 7 ∷ 8 ∷ 4095 ∷ 4096 ∷ []) ≡ 0 ∷ 1 ∷ 2 ∷ 2 ∷ 3 ∷ 3 ∷ 4 ∷ 12 ∷ 13 ∷ []
unfolding binary_digits digits_in
worked = refl

-- any k from n on is enough for its digits
digits_fuel : (j k n : ℕ) → n ≤ j → n ≤ k → digits_in j n ≡ digits_in k n
unfolding digits_in
digits_fuel zero zero zero h l = refl
digits_fuel zero (suc k) zero h l = refl
digits_fuel (suc j) zero zero h l = refl
digits_fuel (suc j) (suc k) zero h l = refl
digits_fuel zero k (suc n) h l = absurd (omega arith)
digits_fuel (suc j) zero (suc n) h l = absurd (omega arith)
digits_fuel (suc j) (suc k) (suc n) h l = ap suc (digits_fuel j k (suc n / 2) (omega arith) (omega arith))

digits_half : (n : ℕ) → 0 < n → binary_digits n ≡ suc (binary_digits (n / 2))
unfolding binary_digits digits_in
digits_half zero h = absurd (omega arith)
digits_half (suc n) h = ap suc (digits_fuel n (suc n / 2) (suc n / 2) (omega arith) (omega arith))

digits-zero : (n : ℕ) → n < 1 → binary_digits n ≡ 0
unfolding binary_digits digits_in
digits-zero zero h = refl
digits-zero (suc n) h = absurd (omega arith)

-- ── the claim ──

abbrev Right : ℕ → Type 0
Right n = (d : ℕ) → (binary_digits n ≤ d) ↔ (n < 2 ^ d)

-- right of 0, and of a number if it is right of its half
right_some : (n : ℕ) → 1 ≤ n → Right (n / 2) → Right n
right_some n h r zero = (λ l. absurd (omega (arith, digits_half n h)), λ l. absurd (omega arith))
right_some n h r (suc d) =
    let p = two-pow-succ d in
    let e = digits_half n h in
    (λ l. omega (arith, (r d).0 (omega arith)), λ l. omega (arith, (r d).1 (omega arith)))

right_none : (n : ℕ) → n < 1 → Right n
right_none n h d = (λ _. omega (arith, one-le-pow d 2 (omega arith)), λ _. omega (arith, digits-zero n h))

right : (k n : ℕ) → n < k → Right n
right zero n h = absurd (omega arith)
right (suc k) n h = ⊎_elim (λ e. right_some n e (right k (n / 2) (omega arith))) (right_none n) (order 1 n)

pub binary-digits : BinaryDigits
binary-digits n = right (suc n) n (omega arith)

-- ── what the search goes by ──

-- a lesser number has no more
digits_rise : (b a : ℕ) → a ≤ b → binary_digits a ≤ binary_digits b
digits_rise b a h = (binary-digits a (binary_digits b)).1 (omega (arith, (binary-digits b (binary_digits b)).0 (omega arith)))

-- what is at most half has less
pub digits_less : (w v : ℕ) → 0 < w → v ≤ w / 2 → binary_digits v < binary_digits w
digits_less w v h l = omega (arith, digits_half w h, digits_rise (w / 2) v l)

-- where no digit is left, nothing is
pub digits_none : (n : ℕ) → binary_digits n ≤ 0 → n ≤ 0
digits_none n h = omega (arith, (binary-digits n 0).0 h)
