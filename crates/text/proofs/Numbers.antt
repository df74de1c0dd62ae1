-- Numbers put one behind the other, each behind a space.
-- Assumes nothing.
use mathlib.Core.Path.{◌≡◌, refl, ap, ◌∙◌}
use mathlib.Core.List.{List, [], ◌∷◌, ◌++◌, append_assoc, append-nil}
use Prim.Native.Nat.{ℕ, ◌+◌, ◌*◌, ◌^◌, ◌<◌}
use native.Mathlib.Numerals.{add-one}
use native.Mathlib.Omega.{arith}
use lib.ListN.{length, get_or, take}
use lib.Seq.{take-suc}
use Rattle.program.specs.Text.{decimal, spaced}
use Rattle.text.specs.declared.Lines.{Lines}
use Rattle.text.specs.Lines.{HasRoom, Adds}
use Rattle.program.proofs.Decimal.{decimal_most}
use Rattle.text.proofs.Adding.{adds_none, adds_most, adds_exact, adds_behind}

spaced-append : (ms ns : List ℕ) → spaced (ms ++ ns) ≡ spaced ms ++ spaced ns
unfolding spaced
spaced-append [] ns = refl
spaced-append (m ∷ ms) ns = ap (λ (l : List ℕ). 32 ∷ l) (ap (◌++◌ (decimal m)) (spaced-append ms ns) ∙ simp append_assoc)

spaced-one : (n : ℕ) → spaced (n ∷ []) ≡ 32 ∷ decimal n
unfolding spaced
spaced-one n = rw append-nil

spaced-next : (ns : List ℕ) (j : ℕ) → j < length ns → spaced (take (j + 1) ns) ≡ spaced (take j ns) ++ (32 ∷ decimal (get_or ns j 0))
spaced-next ns j h = rw (add-one j, take-suc ns j 0, spaced-append (take j ns) (get_or ns j 0 ∷ []), spaced-one)

-- the first j of some numbers, written
abbrev pub NumbersTo : Lines → List ℕ → ℕ → Lines → Type 0
NumbersTo b ns j a = Adds b (spaced (take j ns)) (21 * j) a

module _ (ns : List ℕ) {b : Lines} where
  pub numbers_start : NumbersTo b ns 0 b
  unfolding spaced
  numbers_start = adds_none

  pub numbers_next : (j : ℕ) {l m a : Lines} {k : ℕ} → j < length ns → HasRoom b (21 * length ns) → get_or ns j 0 < 2 ^ 64 → NumbersTo b ns j l
      → Adds l (32 ∷ []) 1 m → Adds m (decimal (get_or ns j 0)) k a → NumbersTo b ns (j + 1) a
  numbers_next j h r f p q s = rw (spaced-next ns j h) (adds_most (omega (arith, decimal_most _ f)) (adds_behind (omega arith) p (adds_exact (adds_behind (omega arith) q s))))
