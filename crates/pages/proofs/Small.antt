-- A mapping that is smaller than a page is covered as if there were no such pages: the cover takes the largest page that fits
-- at each address, from the first on, and is the one list that does.
-- Assumes nothing.
use mathlib.Core.Path.{◌≡◌, refl, sym, ap, subst, ◌∙◌}
use mathlib.Core.Logic.{inl, inr}
use mathlib.Core.Bool.{Bool, true, false}
use mathlib.Core.List.Memᴰ
use mathlib.Core.List.{List, [], ◌∷◌, ◌++◌}
use Prim.Native.Nat.{ℕ, zero, suc, ◌+◌, ◌/◌, ◌∣◌, ◌≤◌, ◌<◌}
use native.Mathlib.Nat.{dvd_trans, le_of_dvd}
use native.Mathlib.Omega.{arith}
use borrow.Author.Tests.{eqb-false}
use Rattle.model.specs.Rows.{choose}
use Rattle.model.specs.Rules.{end}
use Rattle.model.specs.Exactly.{Each, ◌∈◌}
use Rattle.model.proofs.Actions.{each_map, each_append}
use Rattle.pages.specs.Prelude.{Mapping, Entry}
use Rattle.pages.specs.Pages.{first_cut, last_cut, lower, middle, upper, congruent, entries_from, paged, cover}
use Rattle.pages.specs.Claims.{Ladder, least}
use Rattle.pages.proofs.Multiples.{next_multiple, congruent_of}
use Rattle.pages.proofs.Level.{Boundary, Level, level}
use Rattle.pages.proofs.Tiles.{stop_of, Tiles, PageOf, Covered, Base, tiles_le, ladder_some, size_divides, base_lower, base_upper, covered}
use Rattle.pages.proofs.Minimal.{short_range}

-- no larger size divides the entry's address and offset and fits before b
abbrev pub Largest : List ℕ → ℕ → Entry → Type 0
Largest sizes b e = (z : ℕ) → z ∈ sizes → z ∣ e.address → z ∣ e.offset → e.address + z ≤ b → z ≤ e.size

-- ── there is one such list ──

pub same_entry : (x y : Entry) → x.address ≡ y.address → x.offset ≡ y.offset → x.size ≡ y.size → x ≡ y
same_entry x y p q r = λ i. record { address = p i; offset = q i; size = r i }

-- at one address, neither of two entries is larger
size_le : (sizes : List ℕ) (m : Mapping) (b : ℕ) (x y : Entry) → x.address ≡ y.address → x.offset ≡ y.offset → PageOf sizes m y → stop_of y ≤ b
    → Largest sizes b x → y.size ≤ x.size
size_le sizes m b x y p q n h g = g y.size n.size (subst (λ (z : ℕ). y.size ∣ z) (sym p) n.address)
    (subst (λ (z : ℕ). y.size ∣ z) (sym q) n.offset) (omega (arith, p, h))

pub largest_unique : (sizes : List ℕ) (m : Mapping) (a b : ℕ) (xs ys : List Entry) → Tiles a b xs → Tiles a b ys
    → Each (PageOf sizes m) xs → Each (PageOf sizes m) ys → Each (Largest sizes b) xs → Each (Largest sizes b) ys → xs ≡ ys
largest_unique sizes m a b [] [] t u n o g k = refl
largest_unique sizes m a b [] (y ∷ ys) t u n o g k = absurd (omega (arith, t, u.0, u.1, tiles_le (stop_of y) b ys u.2))
largest_unique sizes m a b (x ∷ xs) [] t u n o g k = absurd (omega (arith, u, t.0, t.1, tiles_le (stop_of x) b xs t.2))
largest_unique sizes m a b (x ∷ xs) (y ∷ ys) t u n o g k =
    ap (λ (e : Entry). e ∷ xs) (same_entry x y address offset size)
    ∙ ap (λ (es : List Entry). y ∷ es) (largest_unique sizes m (stop_of x) b xs ys t.2 rest n.1 o.1 g.1 k.1)
  where
    address : x.address ≡ y.address
    address = t.0 ∙ sym u.0

    offset : x.offset ≡ y.offset
    offset = omega (arith, n.0.shown, o.0.shown, address)

    size : x.size ≡ y.size
    size = omega (
      arith,
      size_le sizes m b x y address offset o.0 (tiles_le (stop_of y) b ys u.2) g.0,
      size_le sizes m b y x (sym address) (sym offset) n.0 (tiles_le (stop_of x) b xs t.2) k.0,
    )

    rest : Tiles (stop_of x) b ys
    rest = subst (λ (z : ℕ). Tiles z b ys) (omega (arith, address, size)) u.2

-- ── the cover is one ──

-- a law of entries, from their places and what they are
pub each_entry : (P Q : Entry → Type 0) (sizes : List ℕ) (n : Mapping) (a b : ℕ) (es : List Entry) → Tiles a b es → Each (PageOf sizes n) es
    → ((e : Entry) → a ≤ e.address → e.address < b → PageOf sizes n e → P e → Q e) → Each P es → Each Q es
each_entry P Q sizes n a b [] t o f p = tt
each_entry P Q sizes n a b (e ∷ es) t o f p = (
  f e (omega (arith, t.0)) (omega (arith, t.1, tiles_le (stop_of e) b es t.2)) o.0 p.0,
  each_entry P Q sizes n (stop_of e) b es t.2 o.1 (λ x h k. f x (omega (arith, t.0, h)) k) p.1,
)

pub pages_largest : (s : ℕ) (ts : List ℕ) (b n a f : ℕ) → Ladder s ts → Each (Largest (s ∷ ts) b) (entries_from s n a f)
unfolding entries_from
pages_largest s ts b zero a f l = tt
pages_largest s ts b (suc n) a f l =
    (λ z i _ _ _. le_of_dvd (ladder_some s ts l) (size_divides s ts l z i), pages_largest s ts b n (a + s) (f + s) l)

-- one more size, that does not fit
largest_unfit : (s : ℕ) (ts : List ℕ) (b : ℕ) (e : Entry) → (s ∣ e.address → s ∣ e.offset → e.address + s ≤ b → ⊥)
    → Largest ts b e → Largest (s ∷ ts) b e
largest_unfit s ts b e n g z (Memᴰ.head d) p q f =
    absurd (n (subst (λ (y : ℕ). y ∣ e.address) d p) (subst (λ (y : ℕ). y ∣ e.offset) d q) (omega (arith, d, f)))
largest_unfit s ts b e n g z (Memᴰ.tail i) p q f = g z i p q f

-- what fits before the end fits before a boundary
before_boundary : (s z b c x : ℕ) → Boundary s b c → z ∣ s → z ∣ x → x < c → x + z ≤ b → x + z ≤ c
before_boundary s z b c x (inl e) p q h f = omega (arith, e, f)
before_boundary s z b c x (inr d) p q h f = next_multiple z x c q (dvd_trans z p d) h

module _ (s t : ℕ) (ts : List ℕ) (m : Mapping) (l : Ladder s (t ∷ ts)) where
  v : Level s m (first_cut s m) (last_cut s m)
  v = level s m l.0

  -- entries of n, a part of m or all of it: none of the sizes below is larger, so none of m's sizes is
  abbrev pub Raises : Mapping → Type 0
  Raises n = (e : Entry) → n.address ≤ e.address → e.address < end n → PageOf (t ∷ ts) n e → Largest (t ∷ ts) (end n) e
      → Largest (s ∷ t ∷ ts) (end m) e

  pub lower_raises : Raises (lower s m)
  lower_raises e h k n g z i p q f =
      let fits : e.address + z ≤ first_cut s m =
      before_boundary s z (end m) (first_cut s m) e.address v.lower_boundary (size_divides s (t ∷ ts) l z i) p (omega (arith, k, v.low)) f in
      largest_unfit s (t ∷ ts) (end (lower s m)) e (λ _ _ r. omega (arith, r, h, v.low, v.lower_short)) g z i p q (omega (arith, fits))

  pub upper_raises : Raises (upper s m)
  upper_raises e h k n g =
      largest_unfit s (t ∷ ts) (end m) e (λ _ _ r. omega (arith, r, h, v.upper_short)) (λ z i p q f. g z i p q (omega (arith, f)))

  incongruent_raises : congruent s m ≡ false → Raises m
  incongruent_raises c e h k n =
      largest_unfit s (t ∷ ts) (end m) e (λ p q _. eqb-false _ _ c (congruent_of s m.address m.offset e.address e.offset p q n.shown))

  pub raised : (n : Mapping) → Base (least t ts) n → Raises n → Each (Largest (t ∷ ts) (end n)) (cover t ts n)
      → Each (Largest (s ∷ t ∷ ts) (end m)) (cover t ts n)
  raised n g f = let c = covered t ts n l.2 g in
      each_entry (Largest (t ∷ ts) (end n)) (Largest (s ∷ t ∷ ts) (end m)) (t ∷ ts) n n.address (end n) (cover t ts n) c.tiles c.each f

pub cover-largest : (s : ℕ) (ts : List ℕ) (m : Mapping) → Ladder s ts → Base (least s ts) m → Each (Largest (s ∷ ts) (end m)) (cover s ts m)
unfolding cover
cover-largest s [] m l g = pages_largest s [] (end m) (m.size / s) m.address m.offset l
cover-largest s (t ∷ ts) m l g = go (congruent s m) refl
    (raised s t ts m l (lower s m) low (lower_raises s t ts m l) (cover-largest t ts (lower s m) l.2 low))
    (raised s t ts m l (upper s m) high (upper_raises s t ts m l) (cover-largest t ts (upper s m) l.2 high))
    (λ c. raised s t ts m l m g (incongruent_raises s t ts m l c) (cover-largest t ts m l.2 g))
  where
    low : Base (least t ts) (lower s m)
    low = base_lower s t ts m l g

    high : Base (least t ts) (upper s m)
    high = base_upper s t ts m l g

    AllLargest : List Entry → Type 0
    AllLargest = Each (Largest (s ∷ t ∷ ts) (end m))

    go : (b : Bool) → congruent s m ≡ b → AllLargest (cover t ts (lower s m)) → AllLargest (cover t ts (upper s m))
        → (congruent s m ≡ false → AllLargest (cover t ts m))
        → AllLargest (choose b (cover t ts (lower s m) ++ (paged s (middle s m) ++ cover t ts (upper s m))) (cover t ts m))
    go true c p q w =
        each_append (Largest (s ∷ t ∷ ts) (end m)) (cover t ts (lower s m)) (paged s (middle s m) ++ cover t ts (upper s m)) p
        (each_append (Largest (s ∷ t ∷ ts) (end m)) (paged s (middle s m)) (cover t ts (upper s m))
        (pages_largest s (t ∷ ts) (end m) ((middle s m).size / s) (middle s m).address (middle s m).offset l) q)
    go false c p q w = w c

-- ── a mapping smaller than a page ──

pub cover_small : (s t : ℕ) (ts : List ℕ) (m : Mapping) → Ladder s (t ∷ ts) → Base (least t ts) m → m.size < s
    → cover s (t ∷ ts) m ≡ cover t ts m
cover_small s t ts m l g h = largest_unique (t ∷ ts) m m.address (end m) (cover s (t ∷ ts) m) (cover t ts m) c.tiles d.tiles
    (short_range s (t ∷ ts) m m.address (end m) (cover s (t ∷ ts) m) (omega (arith, h)) c.tiles c.each) d.each
    (each_map (Largest (s ∷ t ∷ ts) (end m)) (Largest (t ∷ ts) (end m)) (cover s (t ∷ ts) m) (λ e k z i. k z (Memᴰ.tail i))
    (cover-largest s (t ∷ ts) m l g)) (cover-largest t ts m l.2 g)
  where
    c : Covered (s ∷ t ∷ ts) m (cover s (t ∷ ts) m)
    c = covered s (t ∷ ts) m l g

    d : Covered (t ∷ ts) m (cover t ts m)
    d = covered t ts m l.2 g
