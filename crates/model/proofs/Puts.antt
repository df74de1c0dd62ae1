-- Putting ranges into a table: what two puts make of each other.
-- Assumes nothing.
use mathlib.Core.Path.{◌≡◌}
use mathlib.Core.List.{List, ◌++◌, append_assoc, append-nil}
use Prim.Native.Nat.{ℕ, ◌≤◌, ◌<◌}
use native.Mathlib.Nat.{min-eq_left, min-eq_right, max-eq_left, max-eq_right}
use native.Mathlib.Omega.{arith}
use Rattle.model.specs.Prelude.{Mapping}
use Rattle.model.specs.Rules.{end}
use Rattle.model.specs.Exactly.{Each}
use Rattle.model.specs.Cut.{below, above, put}
use Rattle.model.proofs.Actions.{each_map}
use Rattle.model.proofs.Window.{below-below, above-above, below-above, below-above_none, above-below_none, below-append, above-append, below_under, below_over, above_over, above_under}

-- every mapping lies in [lo, hi) and none is empty
abbrev Lies : ℕ → ℕ → Mapping → Type 0
Lies lo hi m = (lo ≤ m.address) × (0 < m.size) × (end m ≤ hi)

abbrev pub Within : ℕ → ℕ → List Mapping → Type 0
Within lo hi ms = Each (Lies lo hi) ms

-- what stands under a lower address, and from a higher one on
pub below_put : (x a b : ℕ) (new t : List Mapping) → Within a b new → x ≤ a → a ≤ b → below x (put a b new t) ≡ below x t
below_put x a b new t w h k =
    simp (below-append, below-below x a t, min-eq_left h, below_over x new (each_map (Lies a b) (λ m. x ≤ m.address) new (λ m l. omega arith) w), below-above_none x b t (omega arith), append-nil)

pub above-put : (x a b : ℕ) (new t : List Mapping) → Within a b new → b ≤ x → a ≤ b → above x (put a b new t) ≡ above x t
above-put x a b new t w h k =
    simp (above-append, above-above x b t, max-eq_left h, above_under x new (each_map (Lies a b) (λ m. end m ≤ x) new (λ m l. omega arith) w), above-below_none a x t (omega arith))

-- a put over another that lies inside it leaves nothing of the other
pub put_over : (a b c d : ℕ) (n m t : List Mapping) → Within c d m → a ≤ c → c ≤ d → d ≤ b → put a b n (put c d m t) ≡ put a b n t
put_over a b c d n m t w h k l = rw (below_put a c d m t w h k, above-put b c d m t w l k)

-- puts that share no byte commute
pub put-apart : (a b c d : ℕ) (n m t : List Mapping) → Within a b n → Within c d m → a ≤ b → b ≤ c → c ≤ d
    → put a b n (put c d m t) ≡ put c d m (put a b n t)
put-apart a b c d n m t v w h k l =
    simp (
      below_put a c d m t w (omega arith) l,
      above-put d a b n t v (omega arith) h,
      above-append,
      above_over b m (each_map (Lies c d) (λ m. (b ≤ m.address) × (0 < m.size)) m (λ m l. omega arith) w),
      above-above b d t,
      max-eq_right {n = b} {m = d} (omega arith),
      below-append,
      below-below c a t,
      min-eq_right {n = a} {m = c} (omega arith),
      below_under c n (each_map (Lies a b) (λ m. (end m ≤ c) × (0 < m.size)) n (λ m l. omega arith) v),
      below-above c b t,
      append_assoc,
    )

-- a put that begins where another ended: one put of both
pub put_chain : (a b c : ℕ) (n m t : List Mapping) → Within a b n → a ≤ b → b ≤ c → put b c m (put a b n t) ≡ put a c (n ++ m) t
put_chain a b c n m t v h k =
    simp (
      above-put c a b n t v k h,
      below-append,
      below-below b a t,
      min-eq_right {n = a} {m = b} h,
      below_under b n (each_map (Lies a b) (λ m. (end m ≤ b) × (0 < m.size)) n (λ m l. omega arith) v),
      below-above_none b b t (omega arith),
      append-nil,
      append_assoc,
    )
