-- Document 02, Item 3: the search by halves, as steps, and what is claimed of it.
-- Assumes nothing.
use Rattle.std.specs.Prelude.{◌≡◌, ◌↔◌, List, ℕ, zero, suc, ◌+◌, ◌-◌, ◌/◌, ◌^◌, ◌≤◌, ◌<◌, ltb, length, get_or, take, drop}
use Rattle.model.specs.declared.Mapping.{Mapping}
use Rattle.model.specs.Rows.{choose}
use Rattle.model.specs.Rules.{limit, end}
use Rattle.model.specs.declared.Range.{Range}
use Rattle.model.specs.declared.Space.{Space}
use Rattle.model.specs.Cut.{see}
use Rattle.model.specs.Exactly.{Each, Ascends}
use Rattle.table.specs.declared.Search.{Search}
use Rattle.table.specs.Places.{first_where, ends_behind}

-- how many binary digits n has: none if it is 0, else one and those of its half (k is at least their number)
unfoldable pub digits_in : ℕ → ℕ → ℕ
digits_in zero n = 0
digits_in (suc k) zero = 0
digits_in (suc k) (suc n) = suc (digits_in k (suc n / 2))

unfoldable pub binary_digits : ℕ → ℕ
binary_digits n = digits_in n n

-- ── the search ──

-- before the first step all n places are left
abbrev pub whole : ℕ → Search
whole n = record { lo = 0; left = n; looks = 0 }

abbrev pub middle : Search → ℕ
middle s = s.lo + s.left / 2

-- what a look at the mapping in the middle leaves, half of the places: the first ones if it ends behind x, else the last
-- ones. Either way they are as many, so that only the number of mappings tells how many looks there are
unfoldable pub halved : ℕ → Mapping → Search → Search
halved x m s = choose (ends_behind x m)
    (record { lo = s.lo; left = s.left / 2; looks = s.looks + 1 })
    (record { lo = s.lo + (s.left - s.left / 2); left = s.left / 2; looks = s.looks + 1 })

-- the mapping at a place; only where there is one is it looked at
abbrev pub at : List Mapping → ℕ → Mapping
at ms i = get_or ms i (record { address = 0; size = 0; object = 0; offset = 0 })

-- one step: a look, unless nothing is left
unfoldable pub step : List Mapping → ℕ → Search → Search
step ms x s = choose (ltb 0 s.left) (halved x (at ms (middle s)) s) s

unfoldable pub steps : ℕ → List Mapping → ℕ → Search → Search
steps zero ms x s = s
steps (suc k) ms x s = steps k ms x (step ms x s)

-- as many steps as the number of mappings has binary digits
unfoldable pub halving : List Mapping → ℕ → Search
halving ms x = steps (binary_digits (length ms)) ms x (whole (length ms))

-- what the code that halves asks: something is left, and no sum is large (a number of 64 bits has no more digits)
pub record Halvable (s : Search) (m : Mapping) : Type 0 where
  pub some : 0 < s.left
  pub places : s.lo + s.left < 2 ^ 64
  pub few : s.looks < 64
  pub end_most : end m ≤ limit

-- what can be searched by halves: none is empty, ends ascend, and none is large
pub record InOrder (ms : List Mapping) : Type 0 where
  pub not_empty : Each (λ m. 0 < m.size) ms
  pub ascends : Ascends ms
  pub ends_most : Each (λ m. end m ≤ limit) ms

-- what a step of the code asks: places of the rows, no sum that is large, and looks to come
pub record Steppable (ms : List Mapping) (s : Search) : Type 0 where
  pub most : s.lo + s.left ≤ length ms
  pub places : s.lo + s.left < 2 ^ 64
  pub few : 0 < s.left → s.looks < 64

-- ── what is claimed ──

-- d binary digits are enough exactly for the numbers below 2^d
abbrev pub BinaryDigits : Type 0
BinaryDigits = (n d : ℕ) → (binary_digits n ≤ d) ↔ (n < 2 ^ d)

-- nothing is left, within that many looks; the place is that of the first mapping that ends behind x, and it alone
-- decides what a look-up sees at x, beside any sparse ranges
pub record Finds (ms : List Mapping) (x : ℕ) (s : Search) : Type 0 where
  pub ended : s.left ≡ 0
  pub within : s.looks ≤ binary_digits (length ms)
  pub first : s.lo ≡ first_where (ends_behind x) ms
  pub before : Each (λ m. end m ≤ x) (take s.lo ms)
  pub behind : Each (λ m. x < end m) (drop s.lo ms)
  pub sees : (space : Space) (ys : List Range) → see space ys (take 1 (drop s.lo ms)) x ≡ see space ys ms x

-- each step looks at one mapping: no other has a say in it; it counts the look, and leaves half
pub record Halving : Type 0 where
  pub one_mapping : (ms ns : List Mapping) (x : ℕ) (s : Search) → at ms (middle s) ≡ at ns (middle s) → step ms x s ≡ step ns x s
  pub one_look : (ms : List Mapping) (x : ℕ) (s : Search) → 0 < s.left → (step ms x s).looks ≡ s.looks + 1
  pub half_left : (ms : List Mapping) (x : ℕ) (s : Search) → (step ms x s).left ≡ s.left / 2
  pub finds : (ms : List Mapping) (x : ℕ) → Ascends ms → Finds ms x (halving ms x)
