-- One level: where a mapping is cut at boundaries of one size, and what its remainders are.
-- Assumes nothing.
use mathlib.Core.Path.{◌≡◌, sym, subst}
use mathlib.Core.Logic.{◌⊎◌, inl, inr}
use Prim.Native.Nat.{ℕ, ◌+◌, ◌-◌, ◌%◌, ◌∣◌, ◌≤◌, ◌<◌, min, max}
use native.Mathlib.Nat.{dvd-sub, dvd-zero}
use native.Mathlib.Omega.{arith}
use Rattle.model.specs.Rules.{end}
use Rattle.model.proofs.Numbers.{order}
use Rattle.pages.specs.Prelude.{Mapping}
use Rattle.pages.specs.Pages.{down, up, first_cut, last_cut}
use Rattle.pages.proofs.Multiples.{down_multiple, down_le, down-next, up_multiple, up_le, up_next, le_down, offset_multiple}

-- a boundary of size s, or the range's end
abbrev pub Boundary : ℕ → ℕ → ℕ → Type 0
Boundary s b c = (c ≡ b) ⊎ (s ∣ c)

pub record Level (s : ℕ) (m : Mapping) (lo hi : ℕ) : Type 0 where
  pub low : m.address ≤ lo
  pub middle : lo ≤ hi
  pub high : hi ≤ end m
  -- the middle is made of pages of size s
  pub whole : s ∣ hi - lo
  pub lower_boundary : Boundary s (end m) lo
  pub upper_boundary : Boundary s (end m) hi
  pub start : m.address % s ≡ m.offset % s → (lo ≡ hi) ⊎ ((s ∣ lo) × (s ∣ m.offset + (lo - m.address)))
  -- and no page of size s fits into a remainder
  pub lower_short : lo < m.address + s
  pub upper_short : end m < hi + s

-- the cuts in numbers: u and d are the first and the last boundary
no_boundary : (u d b : ℕ) → d ≤ b → b < u → (min u b ≡ b) × (max (min u b) d ≡ b)
no_boundary u d b h k = (omega arith, omega arith)

boundaries : (u d b : ℕ) → u ≤ d → d ≤ b → (min u b ≡ u) × (max (min u b) d ≡ d)
boundaries u d b h k = (omega arith, omega arith)

module _ (s : ℕ) (m : Mapping) (some : 0 < s) where
  at-end : end m < up s m.address → Level s m (end m) (end m)
  at-end h = record {
    low = omega arith;
    middle = omega arith;
    high = omega arith;
    whole = subst (λ (z : ℕ). s ∣ z) (omega arith) (dvd-zero s);
    lower_boundary = inl (omega arith);
    upper_boundary = inl (omega arith);
    start = λ _. inl (omega arith);
    lower_short = omega (arith, up_next s m.address some, h);
    upper_short = omega (arith, some);
  }

  at_boundaries : up s m.address ≤ down s (end m) → Level s m (up s m.address) (down s (end m))
  at_boundaries k = record {
    low = up_le s m.address some;
    middle = k;
    high = down_le s (end m);
    whole = dvd-sub s (down_multiple s (end m)) (up_multiple s m.address);
    lower_boundary = inr (up_multiple s m.address);
    upper_boundary = inr (down_multiple s (end m));
    start = λ e. inr (
      up_multiple s m.address,
      offset_multiple s m.address m.offset (up s m.address) (up_multiple s m.address) e (up_le s m.address some),
    );
    lower_short = up_next s m.address some;
    upper_short = down-next s (end m) some;
  }

  pub level : Level s m (first_cut s m) (last_cut s m)
  level = go (order (up s m.address) (end m))
    where
      to : (lo hi : ℕ) → (first_cut s m ≡ lo) × (last_cut s m ≡ hi) → Level s m lo hi → Level s m (first_cut s m) (last_cut s m)
      to lo hi e v = subst (λ (z : ℕ). Level s m z (last_cut s m)) (sym e.0) (subst (Level s m lo) (sym e.1) v)

      go : (up s m.address ≤ end m) ⊎ (end m < up s m.address) → Level s m (first_cut s m) (last_cut s m)
      go (inr h) = to _ _ (no_boundary (up s m.address) (down s (end m)) (end m) (down_le s (end m)) h) (at-end h)
      go (inl h) =
          let k : up s m.address ≤ down s (end m) = le_down s (end m) (up s m.address) some (up_multiple s m.address) h in
          to _ _ (boundaries (up s m.address) (down s (end m)) (end m) k (down_le s (end m))) (at_boundaries k)

  -- what code goes by
  pub address_first_cut : m.address ≤ first_cut s m
  address_first_cut = level.low

  pub first_cut_last_cut : first_cut s m ≤ last_cut s m
  first_cut_last_cut = level.middle

  pub last_cut-end : last_cut s m ≤ end m
  last_cut-end = level.high

  pub middle-whole : s ∣ last_cut s m - first_cut s m
  middle-whole = level.whole
