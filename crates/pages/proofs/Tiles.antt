-- Entries that stand one behind the other, from one address to another. The cover of a mapping is such a list.
-- Assumes nothing.
use mathlib.Core.Path.{◌≡◌, refl, sym, ap, subst, ◌∙◌}
use mathlib.Core.Logic.{◌⊎◌, inl, inr}
use mathlib.Core.Bool.{Bool, true, false}
use mathlib.Core.List.Memᴰ
use mathlib.Core.List.{List, [], ◌∷◌, ◌++◌}
use Prim.Native.Nat.{ℕ, zero, suc, ◌+◌, ◌-◌, ◌*◌, ◌/◌, ◌%◌, ◌∣◌, ◌≤◌, ◌<◌}
use native.Mathlib.Nat.{dvd-add, dvd-sub, dvd_refl, dvd_trans, dvd_of_mod-eq-zero, zero-div, div-mul_cancel}
use native.Mathlib.Omega.{arith}
use borrow.Author.Tests.{eqb-true}
use Rattle.model.specs.Rows.{choose}
use Rattle.model.specs.Rules.{end}
use Rattle.model.specs.Exactly.{Each, ◌∈◌}
use Rattle.model.proofs.Actions.{each_map, each_append}
use Rattle.pages.specs.Prelude.{Mapping, Entry}
use Rattle.pages.specs.Pages.{first_cut, last_cut, part, lower, middle, upper, congruent, entries_from, paged, cover}
use Rattle.pages.specs.Claims.{Ladder, least}
use Rattle.pages.proofs.Level.{Boundary, Level, level}

abbrev pub stop_of : Entry → ℕ
stop_of e = e.address + e.size

abbrev pub Tiles : ℕ → ℕ → List Entry → Type 0
Tiles a b [] = a ≡ b
Tiles a b (e ∷ es) = (e.address ≡ a) × (0 < e.size) × Tiles (stop_of e) b es

-- an entry's size is one of these, and divides its address and offset; it shows what m shows there
pub record PageOf (sizes : List ℕ) (m : Mapping) (e : Entry) : Type 0 where
  pub size : e.size ∈ sizes
  pub address : e.size ∣ e.address
  pub offset : e.size ∣ e.offset
  pub shown : e.offset + m.address ≡ m.offset + e.address

-- entries of m that stand in its range without a gap
pub record Covered (sizes : List ℕ) (m : Mapping) (es : List Entry) : Type 0 where
  pub tiles : Tiles m.address (end m) es
  pub each : Each (PageOf sizes m) es

pub tiles_append : (a b c : ℕ) (xs ys : List Entry) → Tiles a b xs → Tiles b c ys → Tiles a c (xs ++ ys)
tiles_append a b c [] ys p q = subst (λ (z : ℕ). Tiles z c ys) (sym p) q
tiles_append a b c (x ∷ xs) ys p q = (p.0, p.1, tiles_append (stop_of x) b c xs ys p.2 q)

pub tiles_le : (a b : ℕ) (es : List Entry) → Tiles a b es → a ≤ b
tiles_le a b [] t = omega arith
tiles_le a b (e ∷ es) t = omega (arith, t.0, tiles_le (stop_of e) b es t.2)

-- ── sizes of a ladder ──

pub ladder_some : (s : ℕ) (ts : List ℕ) → Ladder s ts → 0 < s
ladder_some s [] l = l
ladder_some s (t ∷ ts) l = l.0

least_divides : (s : ℕ) (ts : List ℕ) → Ladder s ts → least s ts ∣ s
least_divides s [] l = dvd_refl s
least_divides s (t ∷ ts) l = dvd_trans (least t ts) (least_divides t ts l.2) (dvd_of_mod-eq-zero t l.1)

one_divides : (z s : ℕ) (ts : List ℕ) → Ladder s ts → z ∈ (s ∷ ts) → z ∣ s
one_divides z _ _ l (Memᴰ.tail {xs = []} i) = elim i [ ]
one_divides z s ts l (Memᴰ.head d) = subst (λ (y : ℕ). y ∣ s) (sym d) (dvd_refl s)
one_divides z s (t ∷ ts) l (Memᴰ.tail i) = dvd_trans z (one_divides z t ts l.2 i) (dvd_of_mod-eq-zero t l.1)

pub size_divides : (s : ℕ) (ts : List ℕ) → Ladder s ts → (z : ℕ) → z ∈ (s ∷ ts) → z ∣ s
size_divides s ts l z i = one_divides z s ts l i

one_some : (z s : ℕ) (ts : List ℕ) → Ladder s ts → z ∈ (s ∷ ts) → 0 < z
one_some z _ _ l (Memᴰ.tail {xs = []} i) = elim i [ ]
one_some z s ts l (Memᴰ.head d) = omega (arith, d, ladder_some s ts l)
one_some z s (t ∷ ts) l (Memᴰ.tail i) = one_some z t ts l.2 i

pub size_some : (s : ℕ) (ts : List ℕ) → Ladder s ts → (z : ℕ) → z ∈ (s ∷ ts) → 0 < z
size_some s ts l z i = one_some z s ts l i

-- ── pages of one size ──

pages_tile : (s n a f : ℕ) → 0 < s → Tiles a (a + n * s) (entries_from s n a f)
unfolding entries_from
pages_tile s zero a f h = omega arith
pages_tile s (suc n) a f h =
    (refl, h, subst (λ (y : ℕ). Tiles (a + s) y (entries_from s n (a + s) (f + s))) (omega arith) (pages_tile s n (a + s) (f + s) h))

pages_each : (sizes : List ℕ) (m : Mapping) (s n a f : ℕ) → s ∈ sizes → s ∣ a → s ∣ f → f + m.address ≡ m.offset + a
    → Each (PageOf sizes m) (entries_from s n a f)
unfolding entries_from
pages_each sizes m s zero a f i p q e = tt
pages_each sizes m s (suc n) a f i p q e = (
  record { size = i; address = p; offset = q; shown = e },
  pages_each sizes m s n (a + s) (f + s) i (dvd-add s p (dvd_refl s)) (dvd-add s q (dvd_refl s)) (omega (arith, e)),
)

-- a whole number of pages
paged_tile : (s : ℕ) (m : Mapping) → 0 < s → s ∣ m.size → Tiles m.address (end m) (paged s m)
paged_tile s m h d =
    subst (λ (y : ℕ). Tiles m.address y (paged s m)) (omega (arith, div-mul_cancel s d)) (pages_tile s (m.size / s) m.address m.offset h)

-- ── parts ──

pub part_of : (sizes : List ℕ) (m : Mapping) (a b : ℕ) → m.address ≤ a → (e : Entry) → PageOf sizes (part a b m) e → PageOf sizes m e
part_of sizes m a b h e p = record { size = p.size; address = p.address; offset = p.offset; shown = omega (arith, p.shown, h) }

pub of_part : (sizes : List ℕ) (m : Mapping) (a b : ℕ) → m.address ≤ a → (e : Entry) → PageOf sizes m e → PageOf sizes (part a b m) e
of_part sizes m a b h e p = record { size = p.size; address = p.address; offset = p.offset; shown = omega (arith, p.shown, h) }

part_end : (m : Mapping) (a b : ℕ) → a ≤ b → end (part a b m) ≡ b
part_end m a b h = omega arith

pub part_tiles : (m : Mapping) (a b : ℕ) (es : List Entry) → a ≤ b → Tiles a (end (part a b m)) es → Tiles a b es
part_tiles m a b es h t = subst (λ (z : ℕ). Tiles a z es) (part_end m a b h) t

pub tiles_part : (m : Mapping) (a b : ℕ) (es : List Entry) → a ≤ b → Tiles a b es → Tiles a (end (part a b m)) es
tiles_part m a b es h t = subst (λ (z : ℕ). Tiles a z es) (sym (part_end m a b h)) t

-- a mapping in pages of the size z
pub record Base (z : ℕ) (m : Mapping) : Type 0 where
  pub address : z ∣ m.address
  pub size : z ∣ m.size
  pub offset : z ∣ m.offset

pub base_part : (z : ℕ) (m : Mapping) (a b : ℕ) → Base z m → m.address ≤ a → z ∣ a → z ∣ b → Base z (part a b m)
base_part z m a b g h p q = record {
  address = p;
  size = dvd-sub z q p;
  offset = dvd-add z g.offset (dvd-sub z p g.address);
}

-- larger sizes may be added
more : (s : ℕ) (ts : List ℕ) (m : Mapping) (e : Entry) → PageOf ts m e → PageOf (s ∷ ts) m e
more s ts m e p = record { size = Memᴰ.tail p.size; address = p.address; offset = p.offset; shown = p.shown }

boundary_least : (z s b c : ℕ) → z ∣ s → z ∣ b → Boundary s b c → z ∣ c
boundary_least z s b c p q (inl e) = subst (λ (y : ℕ). z ∣ y) (sym e) q
boundary_least z s b c p q (inr d) = dvd_trans z p d

-- ── a cover ──

pub paged_covered : (sizes : List ℕ) (s : ℕ) (m : Mapping) → s ∈ sizes → 0 < s → Base s m → Covered sizes m (paged s m)
paged_covered sizes s m i h g = record {
  tiles = paged_tile s m h g.size;
  each = pages_each sizes m s (m.size / s) m.address m.offset i g.address g.offset (omega arith);
}

-- the middle, where it is not empty, starts at a boundary of s, so also at one of a size z that divides s
middle_each : (sizes : List ℕ) (s z : ℕ) (m : Mapping) (lo hi : ℕ) → z ∈ sizes → z ∣ s → m.address ≤ lo
    → (lo ≡ hi) ⊎ ((s ∣ lo) × (s ∣ m.offset + (lo - m.address))) → Each (PageOf sizes m) (paged z (part lo hi m))
unfolding entries_from
middle_each sizes s z m lo hi i k h (inl e) =
    subst (λ (n : ℕ). Each (PageOf sizes m) (entries_from z n lo (m.offset + (lo - m.address)))) (sym none) tt
  where
    none : (hi - lo) / z ≡ 0
    none = ap (λ (n : ℕ). n / z) (omega (arith, e)) ∙ zero-div z
middle_each sizes s z m lo hi i k h (inr d) = pages_each sizes m z ((hi - lo) / z) lo (m.offset + (lo - m.address)) i
    (dvd_trans z k d.0) (dvd_trans z k d.1) (omega (arith, h))

all-below : (s : ℕ) (ts : List ℕ) (m : Mapping) (xs : List Entry) → Covered ts m xs → Covered (s ∷ ts) m xs
all-below s ts m xs p = record { tiles = p.tiles; each = each_map (PageOf ts m) (PageOf (s ∷ ts) m) xs (more s ts m) p.each }

-- the cover of one level from those of the sizes below
module _ (s t : ℕ) (ts : List ℕ) (m : Mapping) (l : Ladder s (t ∷ ts)) where
  abbrev lo : ℕ
  lo = first_cut s m

  abbrev hi : ℕ
  hi = last_cut s m

  v : Level s m lo hi
  v = level s m l.0

  -- in sizes that have all those below, the middle in pages of one that divides s
  module _ (sizes : List ℕ) (z : ℕ) (i : z ∈ sizes) (some : 0 < z) (k : z ∣ s) (f : (e : Entry) → PageOf (t ∷ ts) m e → PageOf sizes m e) where
    from_part : (a b : ℕ) (es : List Entry) → m.address ≤ a → Each (PageOf (t ∷ ts) (part a b m)) es → Each (PageOf sizes m) es
    from_part a b es h p = each_map (PageOf (t ∷ ts) (part a b m)) (PageOf sizes m) es (λ e q. f e (part_of (t ∷ ts) m a b h e q)) p

    pub three_parts : m.address % s ≡ m.offset % s → (xs zs : List Entry) → Covered (t ∷ ts) (lower s m) xs → Covered (t ∷ ts) (upper s m) zs
        → Covered sizes m (xs ++ (paged z (middle s m) ++ zs))
    three_parts e xs zs p q = record {
      tiles = tiles_append m.address lo (end m) xs (paged z (middle s m) ++ zs)
          (part_tiles m m.address lo xs v.low p.tiles)
          (tiles_append lo hi (end m) (paged z (middle s m)) zs
          (part_tiles m lo hi (paged z (middle s m)) v.middle (paged_tile z (middle s m) some (dvd_trans z k v.whole)))
          (part_tiles m hi (end m) zs v.high q.tiles));
      each = each_append (PageOf sizes m) xs (paged z (middle s m) ++ zs)
          (from_part m.address lo xs (omega arith) p.each)
          (each_append (PageOf sizes m) (paged z (middle s m)) zs
          (middle_each sizes s z m lo hi i k v.low (v.start e))
          (from_part hi (end m) zs (omega (arith, v.low, v.middle)) q.each));
    }

  -- the remainders are in pages of the least size, as the mapping is
  module _ (g : Base (least t ts) m) where
    at-end : least t ts ∣ end m
    at-end = dvd-add (least t ts) g.address g.size

    at_cut : (c : ℕ) → Boundary s (end m) c → least t ts ∣ c
    at_cut c d = boundary_least (least t ts) s (end m) c (least_divides s (t ∷ ts) l) at-end d

    pub base_lower : Base (least t ts) (lower s m)
    base_lower = base_part (least t ts) m m.address lo g (omega arith) g.address (at_cut lo v.lower_boundary)

    pub base_upper : Base (least t ts) (upper s m)
    base_upper = base_part (least t ts) m hi (end m) g (omega (arith, v.low, v.middle)) (at_cut hi v.upper_boundary) at-end

pub covered : (s : ℕ) (ts : List ℕ) (m : Mapping) → Ladder s ts → Base (least s ts) m → Covered (s ∷ ts) m (cover s ts m)
unfolding cover
covered s [] m l g = paged_covered (s ∷ []) s m (Memᴰ.head refl) l g
covered s (t ∷ ts) m l g = go (congruent s m) refl
    (covered t ts (lower s m) l.2 (base_lower s t ts m l g)) (covered t ts (upper s m) l.2 (base_upper s t ts m l g)) (covered t ts m l.2 g)
  where
    go : (b : Bool) → congruent s m ≡ b → Covered (t ∷ ts) (lower s m) (cover t ts (lower s m))
        → Covered (t ∷ ts) (upper s m) (cover t ts (upper s m)) → Covered (t ∷ ts) m (cover t ts m)
        → Covered (s ∷ t ∷ ts) m (choose b (cover t ts (lower s m) ++ (paged s (middle s m) ++ cover t ts (upper s m))) (cover t ts m))
    go true e p q w = three_parts s t ts m l (s ∷ t ∷ ts) s (Memᴰ.head refl) l.0 (dvd_refl s) (more s (t ∷ ts) m)
        (eqb-true _ _ e) (cover t ts (lower s m)) (cover t ts (upper s m)) p q
    go false e p q w = all-below s (t ∷ ts) m (cover t ts m) w
