-- A number in decimal: one digit, or those of n / 10 and a last one; read back, digits alone, no zero in front, and how
-- many at most.
-- Assumes nothing.
use mathlib.Core.Path.{◌≡◌, refl, sym, ap, ◌∙◌}
use mathlib.Core.Logic.{⊎_elim}
use mathlib.Core.List.{List, [], ◌∷◌, ◌++◌}
use Prim.Native.Nat.{ℕ, zero, suc, ◌+◌, ◌-◌, ◌*◌, ◌/◌, ◌%◌, ◌^◌, ◌≤◌, ◌<◌}
use native.Mathlib.Nat.{pow-suc}
use native.Mathlib.Omega.{arith}
use lib.ListN.{length, get_or, length-append}
use borrow.Author.Tests.{lt-ltb, le-ltb}
use Rattle.program.specs.Text.{digit, digits, decimal}
use Rattle.model.specs.Exactly.{Each}
use Rattle.program.specs.Lines.{read_decimal, Decimal}
use Rattle.model.proofs.Actions.{each_append}
use Rattle.model.proofs.Numbers.{order}

-- ── one digit more ──

abbrev last : ℕ → List ℕ
last n = digit (n % 10) ∷ []

digits_small : (k n : ℕ) → n < 10 → digits (suc k) n ≡ digit n ∷ []
unfolding digits
digits_small k n h = rw (lt-ltb n 10 h)

digits_step : (k n : ℕ) → 10 ≤ n → digits (suc k) n ≡ digits k (n / 10) ++ last n
unfolding digits
digits_step k n h = rw (le-ltb n 10 h)

-- any number above n is enough for its digits
digits_fuel : (j k n : ℕ) → n < j → n < k → digits j n ≡ digits k n
digits_fuel zero k n h l = absurd (omega arith)
digits_fuel (suc j) zero n h l = absurd (omega arith)
digits_fuel (suc j) (suc k) n h l = ⊎_elim
    (λ e. digits_step j n e ∙ ap (λ (ds : List ℕ). ds ++ last n) (digits_fuel j k (n / 10) (omega arith) (omega arith)) ∙ sym (digits_step k n e))
    (λ e. digits_small j n e ∙ sym (digits_small k n e)) (order 10 n)

pub decimal_small : (n : ℕ) → n < 10 → decimal n ≡ (48 + n) ∷ []
unfolding decimal
decimal_small n h = digits_small n n h

pub decimal_step : (n : ℕ) → 10 ≤ n → decimal n ≡ decimal (n / 10) ++ ((48 + n % 10) ∷ [])
unfolding decimal
decimal_step n h = digits_step n n h ∙ ap (λ (ds : List ℕ). ds ++ last n) (digits_fuel n (suc (n / 10)) (n / 10) (omega arith) (omega arith))

-- what holds of one digit, and of one more behind digits of which it holds, holds of every number
module _ (P : ℕ → List ℕ → Type 0) (one : (n : ℕ) → n < 10 → P n ((48 + n) ∷ []))
    (more : (n : ℕ) (ds : List ℕ) → 10 ≤ n → P (n / 10) ds → P n (ds ++ ((48 + n % 10) ∷ []))) where
  by_fuel : (k n : ℕ) → n < k → P n (decimal n)
  by_fuel zero n h = absurd (omega arith)
  by_fuel (suc k) n h = ⊎_elim
      (λ e. rw (decimal_step n e) (more n (decimal (n / 10)) e (by_fuel k (n / 10) (omega arith)))) (λ e. rw (decimal_small n e) (one n e)) (order 10 n)

  by_digits : (n : ℕ) → P n (decimal n)
  by_digits n = by_fuel (suc n) n (omega arith)

-- ── the claim ──

read_last : (n : ℕ) (ds : List ℕ) (d : ℕ) → read_decimal n (ds ++ (d ∷ [])) ≡ 10 * read_decimal n ds + (d - 48)
read_last n [] d = refl
read_last n (e ∷ ds) d = read_last (10 * n + (e - 48)) ds d

reads_back : (n : ℕ) → read_decimal 0 (decimal n) ≡ n
reads_back = by_digits (λ n ds. read_decimal 0 ds ≡ n) (λ n h. omega arith) (λ n ds h e. read_last 0 ds (48 + n % 10) ∙ omega arith)

abbrev IsDigit : ℕ → Type 0
IsDigit d = (48 ≤ d) × (d ≤ 57)

are_digits : (n : ℕ) → Each IsDigit (decimal n)
are_digits = by_digits (λ n ds. Each IsDigit ds) (λ n h. omega arith) (λ n ds h e. each_append IsDigit ds _ e (omega arith))

first_kept : (ds es : List ℕ) → 48 < get_or ds 0 0 → 48 < get_or (ds ++ es) 0 0
first_kept [] es h = absurd (omega arith)
first_kept (d ∷ ds) es h = h

no_zero : (n : ℕ) → 0 < n → 48 < get_or (decimal n) 0 0
no_zero = by_digits (λ n ds. 0 < n → 48 < get_or ds 0 0) (λ n h l. omega arith) (λ n ds h ih l. first_kept ds _ (ih (omega arith)))

pub decimal_claim : Decimal
decimal_claim = record { reads_back = reads_back; digits = are_digits; one_digit = decimal_small; no_zero = λ n h. no_zero n (omega arith) }

-- ── how many digits ──

pub decimal-length : (n k : ℕ) → 1 ≤ k → n < 10 ^ k → length (decimal n) ≤ k
decimal-length = by_digits (λ n ds. (k : ℕ) → 1 ≤ k → n < 10 ^ k → length ds ≤ k) (λ n h k l p. l) more
  where
    more : (n : ℕ) (ds : List ℕ) → 10 ≤ n → ((k : ℕ) → 1 ≤ k → n / 10 < 10 ^ k → length ds ≤ k)
        → (k : ℕ) → 1 ≤ k → n < 10 ^ k → length (ds ++ ((48 + n % 10) ∷ [])) ≤ k
    more n ds h ih zero l p = absurd (omega arith)
    more n ds h ih (suc zero) l p = absurd (omega arith)
    more n ds h ih (suc (suc k)) l p = omega (arith, length-append ds ((48 + n % 10) ∷ []), ih (suc k) (omega arith) (omega (arith, pow-suc 10 (suc k))))

pub decimal_most : (n : ℕ) → n < 2 ^ 64 → length (decimal n) ≤ 20
decimal_most n h = decimal-length n 20 (omega arith) (omega arith)
