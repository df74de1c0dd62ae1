-- A number's decimal digits: how many, by its tenth's; and they are the library's.
-- Assumes nothing.
use mathlib.Core.Path.{◌≡◌, ap, ◌∙◌}
use mathlib.Core.List.{List, [], ◌∷◌, ◌++◌}
use Prim.Native.Nat.{ℕ, ◌+◌, ◌/◌, ◌%◌, ◌^◌, ◌≤◌, ◌<◌}
use lib.ListN.{length, length-append}
use Rattle.std.specs.Fmt as std
use Rattle.std.proofs.lemmas.Fmt.{decimal_by_steps}
use Rattle.program.specs.Text.{decimal}
use Rattle.program.proofs.Decimal.{decimal_small, decimal_step}

pub length-one : (n : ℕ) → n < 10 → length (decimal n) ≡ 1
length-one n h = rw (decimal_small n h)

pub length_more : (n : ℕ) → 10 ≤ n → length (decimal n) ≡ length (decimal (n / 10)) + 1
length_more n h = rw (decimal_step n h) (length-append (decimal (n / 10)) _)

pub same_decimal : (n : ℕ) → n < 2 ^ 64 → decimal n ≡ std.decimal n
same_decimal = decimal_by_steps (λ n ds. decimal n ≡ ds) decimal_small
    (λ n ds h e. decimal_step n h ∙ ap (λ (es : List ℕ). es ++ ((48 + n % 10) ∷ [])) e)
