-- No list of entries is shorter: none straddles a boundary of a larger size, so a list falls into those of the three parts.
-- A remainder is too short for a page of this size, and the middle needs at least one entry for each.
-- Assumes nothing.
use mathlib.Core.Path.{◌≡◌, refl, ap, subst}
use mathlib.Core.Logic.{◌⊎◌, inl, inr}
use mathlib.Core.Bool.{Bool, true, false}
use mathlib.Core.List.Memᴰ
use mathlib.Core.List.{List, [], ◌∷◌, ◌++◌}
use Prim.Native.Nat.{ℕ, suc, ◌+◌, ◌-◌, ◌*◌, ◌/◌, ◌∣◌, ◌≤◌, ◌<◌}
use native.Mathlib.Nat.{dvd_trans, le_of_dvd, le_of_mul-le-mul_right, div-mul-le_self}
use native.Mathlib.Omega.{arith}
use lib.ListN.{length}
use borrow.Author.Tests.{eqb-false}
use Rattle.model.specs.Rows.{choose}
use Rattle.model.specs.Rules.{end}
use Rattle.model.specs.Exactly.{Each, ◌∈◌}
use Rattle.model.proofs.Numbers.{order}
use Rattle.model.proofs.Actions.{each_map}
use Rattle.pages.specs.Prelude.{Mapping, Entry}
use Rattle.pages.specs.Pages.{first_cut, last_cut, part, lower, middle, upper, congruent, paged, cover}
use Rattle.pages.specs.Claims.{Ladder}
use Rattle.pages.proofs.Multiples.{next_multiple, congruent_of}
use Rattle.pages.proofs.Level.{Boundary, Level, level}
use Rattle.pages.proofs.Counts.{length-paged, length_three}
use Rattle.pages.proofs.Tiles.{stop_of, Tiles, PageOf, Covered, tiles_le, tiles_part, of_part, size_divides, ladder_some}

-- ── a list of entries, cut where none straddles ──

abbrev Clear : ℕ → Entry → Type 0
Clear c e = (stop_of e ≤ c) ⊎ (c ≤ e.address)

record Split (P : Entry → Type 0) (a c b n : ℕ) : Type 0 where
  front : List Entry
  back : List Entry
  front_tiles : Tiles a c front
  back_tiles : Tiles c b back
  front_each : Each P front
  back_each : Each P back
  number : length front + length back ≡ n

split : (P : Entry → Type 0) (a c b : ℕ) (es : List Entry) → Tiles a b es → Each (Clear c) es → Each P es → a ≤ c → c ≤ b → Split P a c b (length es)
split P a c b [] t k p h l = record {
  front = [];
  back = [];
  front_tiles = omega (arith, t);
  back_tiles = omega (arith, t);
  front_each = tt;
  back_each = tt;
  number = refl;
}
split P a c b (e ∷ es) t k p h l = go k.0 (split P (stop_of e) c b es t.2 k.1 p.1)
  where
    go : Clear c e → (stop_of e ≤ c → c ≤ b → Split P (stop_of e) c b (length es)) → Split P a c b (suc (length es))
    go (inl m) ih = let s = ih m l in record {
      front = e ∷ s.front;
      back = s.back;
      front_tiles = (t.0, t.1, s.front_tiles);
      back_tiles = s.back_tiles;
      front_each = (p.0, s.front_each);
      back_each = s.back_each;
      number = omega (arith, s.number);
    }
    go (inr m) ih = record {
      front = [];
      back = e ∷ es;
      front_tiles = omega (arith, t.0, m, h);
      back_tiles = (omega (arith, t.0, m, h), t.1, t.2);
      front_each = tt;
      back_each = p;
      number = omega arith;
    }

-- ── entries of one level ──

-- an entry straddles no boundary of a size that its own divides
clear : (s b c : ℕ) (e : Entry) → Boundary s b c → stop_of e ≤ b → e.size ∣ s → e.size ∣ e.address → Clear c e
clear s b c e (inl d) h z p = inl (omega (arith, d, h))
clear s b c e (inr d) h z p = go (order c e.address)
  where
    go : (c ≤ e.address) ⊎ (e.address < c) → Clear c e
    go (inl l) = inr l
    go (inr l) = inl (next_multiple e.size e.address c p (dvd_trans e.size z d) l)

module _ (s : ℕ) (ts : List ℕ) (m : Mapping) (l : Ladder s ts) where
  all_clear : (a b c : ℕ) (es : List Entry) → Tiles a b es → Boundary s b c → Each (PageOf (s ∷ ts) m) es → Each (Clear c) es
  all_clear a b c [] t d n = tt
  all_clear a b c (e ∷ es) t d n = (
    clear s b c e d (tiles_le (stop_of e) b es t.2) (size_divides s ts l e.size n.0.size) n.0.address,
    all_clear (stop_of e) b c es t.2 d n.1,
  )

  -- so many entries reach no farther than so many times s
  reach : (a b : ℕ) (es : List Entry) → Tiles a b es → Each (PageOf (s ∷ ts) m) es → b ≤ a + length es * s
  reach a b [] t n = omega (arith, t)
  reach a b (e ∷ es) t n =
      omega (arith, t.0, reach (stop_of e) b es t.2 n.1, le_of_dvd (ladder_some s ts l) (size_divides s ts l e.size n.0.size))

  one_each : (a b : ℕ) (es : List Entry) → Tiles a b es → Each (PageOf (s ∷ ts) m) es → (b - a) / s ≤ length es
  one_each a b es t n = le_of_mul-le-mul_right {k = s} (omega (arith, reach a b es t n, div-mul-le_self (b - a) s)) (ladder_some s ts l)

module _ (s : ℕ) (ts : List ℕ) (m : Mapping) where
  -- an entry of another size is of the sizes below
  smaller_entry : (e : Entry) → (e.size ≡ s → ⊥) → PageOf (s ∷ ts) m e → PageOf ts m e
  smaller_entry e other n = record { size = go n.size; address = n.address; offset = n.offset; shown = n.shown }
    where
      go : e.size ∈ (s ∷ ts) → e.size ∈ ts
      go (Memᴰ.head d) = absurd (other d)
      go (Memᴰ.tail i) = i

  -- in a range too short for size s
  pub short_range : (a b : ℕ) (es : List Entry) → b < a + s → Tiles a b es → Each (PageOf (s ∷ ts) m) es → Each (PageOf ts m) es
  short_range a b [] h t n = tt
  short_range a b (e ∷ es) h t n =
      let k = tiles_le (stop_of e) b es t.2 in
      (smaller_entry e (λ d. omega (arith, d, t.0, k, h)) n.0, short_range (stop_of e) b es (omega (arith, t.0, h)) t.2 n.1)

  -- where address and offset differ by no multiple of s
  not-congruent : congruent s m ≡ false → (e : Entry) → PageOf (s ∷ ts) m e → PageOf ts m e
  not-congruent q e n = smaller_entry e (λ d. eqb-false _ _ q (congruent_of s m.address m.offset e.address e.offset
      (subst (λ (z : ℕ). z ∣ e.address) d n.address) (subst (λ (z : ℕ). z ∣ e.offset) d n.offset) n.shown)) n

  -- the entries of a part
  in_part : (a b : ℕ) (es : List Entry) → m.address ≤ a → a ≤ b → Tiles a b es → Each (PageOf ts m) es → Covered ts (part a b m) es
  in_part a b es h k t n = record {
    tiles = tiles_part m a b es k t;
    each = each_map (PageOf ts m) (PageOf ts (part a b m)) es (of_part ts m a b h) n;
  }

-- ── the claim ──

-- entries of m fall into those of its parts, each in the sizes for it
record Parted (s : ℕ) (ts : List ℕ) (m : Mapping) (n : ℕ) : Type 0 where
  below : List Entry
  between : List Entry
  above : List Entry
  below_covered : Covered ts (lower s m) below
  above_covered : Covered ts (upper s m) above
  between_least : (middle s m).size / s ≤ length between
  number : length below + (length between + length above) ≡ n

parted : (s : ℕ) (ts : List ℕ) (m : Mapping) (es : List Entry) → Ladder s ts → Covered (s ∷ ts) m es → Parted s ts m (length es)
parted s ts m es l c = record {
  below = one.front;
  between = two.front;
  above = two.back;
  below_covered = in_part s ts m a lo one.front (omega arith) v.low one.front_tiles
      (short_range s ts m a lo one.front v.lower_short one.front_tiles one.front_each);
  above_covered = in_part s ts m hi b two.back (omega (arith, v.low, v.middle)) v.high two.back_tiles
      (short_range s ts m hi b two.back v.upper_short two.back_tiles two.back_each);
  between_least = one_each s ts m l lo hi two.front two.front_tiles two.front_each;
  number = omega (arith, one.number, two.number);
}
  where
    a : ℕ
    a = m.address

    b : ℕ
    b = end m

    lo : ℕ
    lo = first_cut s m

    hi : ℕ
    hi = last_cut s m

    v : Level s m lo hi
    v = level s m (ladder_some s ts l)

    one : Split (PageOf (s ∷ ts) m) a lo b (length es)
    one = split (PageOf (s ∷ ts) m) a lo b es c.tiles (all_clear s ts m l a b lo es c.tiles v.lower_boundary c.each) c.each
        v.low (omega (arith, v.middle, v.high))

    two : Split (PageOf (s ∷ ts) m) lo hi b (length one.back)
    two = split (PageOf (s ∷ ts) m) lo hi b one.back one.back_tiles
        (all_clear s ts m l lo b hi one.back one.back_tiles v.upper_boundary one.back_each) one.back_each v.middle v.high

pub fewest : (s : ℕ) (ts : List ℕ) (m : Mapping) (es : List Entry) → Ladder s ts → Covered (s ∷ ts) m es → length (cover s ts m) ≤ length es
unfolding cover
fewest s [] m es l c =
    let k : (end m - m.address) / s ≤ length es = one_each s [] m l m.address (end m) es c.tiles c.each in
    let e : (end m - m.address) / s ≡ m.size / s = ap (λ (n : ℕ). n / s) (omega arith) in
    omega (arith, k, e, length-paged s m)
fewest s (t ∷ ts) m es l c = go (congruent s m) refl
    (fewest t ts (lower s m) p.below l.2 p.below_covered) (fewest t ts (upper s m) p.above l.2 p.above_covered)
    (λ d. fewest t ts m es l.2 d)
  where
    p : Parted s (t ∷ ts) m (length es)
    p = parted s (t ∷ ts) m es l c

    go : (b : Bool) → congruent s m ≡ b → length (cover t ts (lower s m)) ≤ length p.below → length (cover t ts (upper s m)) ≤ length p.above
        → (Covered (t ∷ ts) m es → length (cover t ts m) ≤ length es)
        → length (choose b (cover t ts (lower s m) ++ (paged s (middle s m) ++ cover t ts (upper s m))) (cover t ts m)) ≤ length es
    go true e x y w = omega (
      arith,
      x,
      y,
      length_three (cover t ts (lower s m)) (paged s (middle s m)) (cover t ts (upper s m)),
      length-paged s (middle s m),
      p.between_least,
      p.number,
    )
    go false e x y w =
        w (record { tiles = c.tiles; each = each_map (PageOf (s ∷ t ∷ ts) m) (PageOf (t ∷ ts) m) es (not-congruent s (t ∷ ts) m e) c.each })
