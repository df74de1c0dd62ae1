-- Which pages a cover has: those of the mapping that are in no larger one. Two pages are apart, or one is inside the other,
-- and every page of the mapping is inside an entry.
-- Assumes nothing.
use mathlib.Core.Path.{◌≡◌, refl, sym, subst, ◌∙◌}
use mathlib.Core.Logic.{◌⊎◌, inl, inr, ◌↔◌}
use mathlib.Core.List.Memᴰ
use mathlib.Core.List.{List, [], ◌∷◌, ◌++◌}
use Prim.Native.Nat.{ℕ, ◌+◌, ◌%◌, ◌∣◌, ◌≤◌, ◌<◌}
use native.Mathlib.Nat.{dvd-add, dvd_trans, dvd_of_mod-eq-zero, mod-eq-zero_of_dvd}
use native.Mathlib.Omega.{arith}
use Rattle.model.specs.Rules.{end}
use Rattle.model.specs.Exactly.{Each, ◌∈◌, Inside}
use Rattle.model.proofs.Numbers.{order}
use Rattle.model.proofs.Actions.{each_mem, each_map, each_append}
use Rattle.pages.specs.Prelude.{Mapping, Entry}
use Rattle.pages.specs.Pages.{part, cover}
use Rattle.pages.specs.Claims.{Ladder, least, PageIn, WhichPages}
use Rattle.pages.proofs.Multiples.{next_multiple, congruent_of}
use Rattle.pages.proofs.Tiles.{stop_of, Tiles, PageOf, Covered, Base, tiles_append, tiles_le, size_divides, size_some}
use Rattle.pages.proofs.Tiles.{part_of, part_tiles, base_part, covered}
use Rattle.pages.proofs.Small.{Largest, same_entry, largest_unique, each_entry, cover-largest}
use Rattle.pages.proofs.AnyLadder.{InPages, base}

-- ── entries without a gap ──

-- an entry has the byte x; it is inside [a, b)
abbrev At : ℕ → Entry → Type 0
At x e = (e.address ≤ x) × (x < stop_of e)

abbrev Within : ℕ → ℕ → Entry → Type 0
Within a b e = Inside e.address (stop_of e) a b

-- there is one at each byte, and only one
entry_at : (a b x : ℕ) (es : List Entry) → Tiles a b es → a ≤ x → x < b → (c : Entry) × (c ∈ es) × At x c
entry_at a b x [] t h k = absurd (omega (arith, t))
entry_at a b x (e ∷ es) t h k = go (order (stop_of e) x) (λ l. entry_at (stop_of e) b x es t.2 l k)
  where
    go : (stop_of e ≤ x) ⊎ (x < stop_of e) → (stop_of e ≤ x → (c : Entry) × (c ∈ es) × At x c) → (c : Entry) × (c ∈ (e ∷ es)) × At x c
    go (inl l) ih = let r = ih l in (r.0, Memᴰ.tail r.1, r.2)
    go (inr l) ih = (e, Memᴰ.head refl, (omega (arith, t.0, h), l))

entry_inside : (a b : ℕ) (es : List Entry) (e : Entry) → Tiles a b es → e ∈ es → Within a b e
entry_inside a b [] e t x'' = elim x'' [ ]
entry_inside a b (c ∷ es) e t (Memᴰ.head d) =
    subst (Within a b) (sym d) (omega (arith, t.0), tiles_le (stop_of c) b es t.2)
entry_inside a b (c ∷ es) e t (Memᴰ.tail i) =
    let r = entry_inside (stop_of c) b es e t.2 i in
    (omega (arith, t.0, r.0), r.1)

one_at : (a b x : ℕ) (es : List Entry) (c d : Entry) → Tiles a b es → c ∈ es → d ∈ es → At x c → At x d → c ≡ d
one_at a b x [] c d t x7 _ h k = elim x7 [ ]
one_at a b x (e ∷ es) c d t (Memᴰ.head p) (Memᴰ.head q) h k = p ∙ sym q
one_at a b x (e ∷ es) c d t (Memᴰ.head p) (Memᴰ.tail j) h k =
    let l = subst (At x) p h in
    absurd (omega (arith, l.1, k.0, (entry_inside (stop_of e) b es d t.2 j).0))
one_at a b x (e ∷ es) c d t (Memᴰ.tail i) (Memᴰ.head q) h k =
    let l = subst (At x) q k in
    absurd (omega (arith, l.1, h.0, (entry_inside (stop_of e) b es c t.2 i).0))
one_at a b x (e ∷ es) c d t (Memᴰ.tail i) (Memᴰ.tail j) h k = one_at (stop_of e) b x es c d t.2 i j h k

-- ── pages ──

-- of two sizes one divides the other
two_divide : (y z s : ℕ) (ts : List ℕ) → Ladder s ts → y ∈ (s ∷ ts) → z ∈ (s ∷ ts) → (y ∣ z) ⊎ (z ∣ y)
two_divide y z _ _ l (Memᴰ.tail {xs = []} i) (Memᴰ.tail j) = elim i [ ]
two_divide y z s ts l (Memᴰ.head d) j = inr (subst (λ (x : ℕ). z ∣ x) (sym d) (size_divides s ts l z j))
two_divide y z s ts l (Memᴰ.tail i) (Memᴰ.head d) =
    inl (subst (λ (x : ℕ). y ∣ x) (sym d) (size_divides s ts l y (Memᴰ.tail i)))
two_divide y z s (t ∷ ts) l (Memᴰ.tail i) (Memᴰ.tail j) = two_divide y z t ts l.2 i j

sizes_divide : (s : ℕ) (ts : List ℕ) → Ladder s ts → (y z : ℕ) → y ∈ (s ∷ ts) → z ∈ (s ∷ ts) → (y ∣ z) ⊎ (z ∣ y)
sizes_divide s ts l y z i j = two_divide y z s ts l i j

page_of : (sizes : List ℕ) (m : Mapping) (e : Entry) → PageIn sizes m e → PageOf sizes m e
page_of sizes m e p = record {
  size = p.one_size;
  address = dvd_of_mod-eq-zero e.size p.multiples.0;
  offset = dvd_of_mod-eq-zero e.size p.multiples.1;
  shown = omega (arith, p.shows, p.inside.0);
}

page_in : (sizes : List ℕ) (m : Mapping) (e : Entry) → Within m.address (end m) e → PageOf sizes m e → PageIn sizes m e
page_in sizes m e i p = record {
  multiples = (mod-eq-zero_of_dvd e.size p.address, mod-eq-zero_of_dvd e.size p.offset);
  one_size = p.size;
  inside = i;
  shows = omega (arith, p.shown, i.0);
}

-- no larger page of m has e inside
abbrev InNoLarger : List ℕ → Mapping → Entry → Type 0
InNoLarger sizes m e = (d : Entry) → PageIn sizes m d → d.address ≤ e.address → stop_of e ≤ stop_of d → d.size ≤ e.size

-- ── pages of a cover ──

module _ (s : ℕ) (ts : List ℕ) (m : Mapping) (l : Ladder s ts) (g : Base (least s ts) m) where
  abbrev sizes : List ℕ
  sizes = s ∷ ts

  abbrev es : List Entry
  es = cover s ts m

  c : Covered sizes m es
  c = covered s ts m l g

  entry_page : (e : Entry) → e ∈ es → PageIn sizes m e
  entry_page e i = page_in sizes m e (entry_inside m.address (end m) es e c.tiles i) (each_mem (PageOf sizes m) es e c.each i)

  -- a page is inside the entry that has its first byte
  page-inside : (d e : Entry) → PageIn sizes m d → e ∈ es → At d.address e → stop_of d ≤ stop_of e
  page-inside d e p i h = go (sizes_divide s ts l d.size e.size p.one_size q.size)
    where
      n : PageOf sizes m d
      n = page_of sizes m d p

      q : PageOf sizes m e
      q = each_mem (PageOf sizes m) es e c.each i

      -- they start together: no larger page than the entry fits there
      together : d.address ≤ e.address → stop_of d ≤ stop_of e
      together k =
          let a : e.address ≡ d.address = omega (arith, k, h.0) in
          let f : e.offset ≡ d.offset = omega (arith, n.shown, q.shown, a) in
          let larger : d.size ≤ e.size = each_mem (Largest sizes (end m)) es e (cover-largest s ts m l g) i d.size n.size
          (subst (λ (x : ℕ). d.size ∣ x) (sym a) n.address) (subst (λ (x : ℕ). d.size ∣ x) (sym f) n.offset)
          (omega (arith, a, p.inside.1)) in
          omega (arith, a, larger)

      smaller_entry : e.size ∣ d.size → (d.address ≤ e.address) ⊎ (e.address < d.address) → stop_of d ≤ stop_of e
      smaller_entry z (inl k) = together k
      smaller_entry z (inr k) =
          absurd (omega (arith, h.1, next_multiple e.size e.address d.address q.address (dvd_trans e.size z n.address) k))

      go : (d.size ∣ e.size) ⊎ (e.size ∣ d.size) → stop_of d ≤ stop_of e
      go (inl z) =
          next_multiple d.size d.address (stop_of e) n.address (dvd-add d.size (dvd_trans d.size z q.address) z) h.1
      go (inr z) = smaller_entry z (order d.address e.address)

  -- the entry that a page is inside
  entry_of : (d : Entry) → PageIn sizes m d → (e : Entry) × (e ∈ es) × Within e.address (stop_of e) d
  entry_of d p =
      let r = entry_at m.address (end m) d.address es c.tiles p.inside.0
      (omega (arith, p.inside.1, size_some s ts l d.size p.one_size)) in
      (r.0, r.1, (r.2.0, page-inside d r.0 p r.1 r.2))

  entry_largest : (e : Entry) → e ∈ es → InNoLarger sizes m e
  entry_largest e i d p h k =
      let r = entry_of d p in
      let some : 0 < e.size = size_some s ts l e.size (entry_page e i).one_size in
      let same : r.0 ≡ e = one_at m.address (end m) e.address es r.0 e c.tiles r.1 i
      (omega (arith, r.2.0, h), omega (arith, r.2.1, k, some)) (omega arith, omega (arith, some)) in
      let v = subst (λ (x : Entry). Within x.address (stop_of x) d) same r.2 in
      omega (arith, v.0, v.1)

  largest_entry : (e : Entry) → PageIn sizes m e → InNoLarger sizes m e → e ∈ es
  largest_entry e p f =
      let r = entry_of e p in
      let n = entry_page r.0 r.1 in
      let k : r.0.size ≤ e.size = f r.0 n r.2.0 r.2.1 in
      let address : r.0.address ≡ e.address = omega (arith, k, r.2.0, r.2.1) in
      let offset : r.0.offset ≡ e.offset = omega (arith, n.shows, p.shows, address) in
      let size : r.0.size ≡ e.size = omega (arith, k, r.2.0, r.2.1) in
      subst (λ (x : Entry). x ∈ es) (same_entry r.0 e address offset size) r.1

any-largest : (s : ℕ) (ts : List ℕ) (m : Mapping) (e : Entry) → Ladder s ts → InPages (least s ts) m
    → (e ∈ cover s ts m) ↔ (PageIn (s ∷ ts) m e × InNoLarger (s ∷ ts) m e)
any-largest s ts m e l h =
    let g = base (least s ts) m h in
    (λ i. (entry_page s ts m l g e i, entry_largest s ts m l g e i), λ p. largest_entry s ts m l g e p.0 p.1)

-- ── a part of a mapping ──

-- its pages are those of the mapping that are inside it
module _ (sizes : List ℕ) (m : Mapping) (a b : ℕ) (low : m.address ≤ a) (some : a ≤ b) (e : Entry) where
  page_of_part : b ≤ end m → PageIn sizes (part a b m) e → PageIn sizes m e
  page_of_part high p = record {
    multiples = p.multiples;
    one_size = p.one_size;
    inside = (omega (arith, low, p.inside.0), omega (arith, some, high, p.inside.1));
    shows = omega (arith, low, p.inside.0, p.shows);
  }

  page_in_part : a ≤ e.address → stop_of e ≤ b → PageIn sizes m e → PageIn sizes (part a b m) e
  page_in_part h k p = record {
    multiples = p.multiples;
    one_size = p.one_size;
    inside = (h, omega (arith, some, k));
    shows = omega (arith, low, h, p.shows);
  }

any_stays : (s : ℕ) (ts : List ℕ) (m : Mapping) (a b : ℕ) (e : Entry) → Ladder s ts
    → Each (λ x. x % least s ts ≡ 0) (m.address ∷ m.size ∷ m.offset ∷ a ∷ b ∷ [])
    → m.address ≤ a → b ≤ end m → e ∈ cover s ts m → a ≤ e.address → stop_of e ≤ b → e ∈ cover s ts (part a b m)
any_stays s ts m a b e l w low high i h k = largest_entry s ts (part a b m) l part_base e
    (page_in_part (s ∷ ts) m a b low (omega (arith, h, k)) e h k (entry_page s ts m l g e i))
    (λ d p. entry_largest s ts m l g e i d (page_of_part (s ∷ ts) m a b low (omega (arith, h, k)) d high p))
  where
    g : Base (least s ts) m
    g = base (least s ts) m (w.0, (w.1.0, (w.1.1.0, tt)))

    part_base : Base (least s ts) (part a b m)
    part_base = base_part (least s ts) m a b g low
        (dvd_of_mod-eq-zero (least s ts) w.1.1.1.0) (dvd_of_mod-eq-zero (least s ts) w.1.1.1.1.0)

-- ── both sides of a boundary ──

least_in : (s : ℕ) (ts : List ℕ) → least s ts ∈ (s ∷ ts)
least_in s [] = Memᴰ.head refl
least_in s (t ∷ ts) = Memᴰ.tail (least_in t ts)

any_in_parts : (s : ℕ) (ts : List ℕ) (m : Mapping) (b : ℕ) → Ladder s ts → InPages (least s ts) m → m.address ≤ b → b ≤ end m
    → Each (λ z. m.address % z ≡ m.offset % z → b % z ≡ 0) (s ∷ ts)
    → cover s ts m ≡ cover s ts (part m.address b m) ++ cover s ts (part b (end m) m)
any_in_parts s ts m b l w low high k =
    largest_unique (s ∷ ts) m m.address (end m) (cover s ts m) (xs ++ ys) c.tiles tiles c.each each (cover-largest s ts m l g) all-largest
  where
    below : Mapping
    below = part m.address b m

    above : Mapping
    above = part b (end m) m

    xs : List Entry
    xs = cover s ts below

    ys : List Entry
    ys = cover s ts above

    g : Base (least s ts) m
    g = base (least s ts) m w

    boundary : (z : ℕ) → z ∈ (s ∷ ts) → m.address % z ≡ m.offset % z → z ∣ b
    boundary z i e = dvd_of_mod-eq-zero z (each_mem (λ y. m.address % y ≡ m.offset % y → b % y ≡ 0) (s ∷ ts) z k i e)

    least_boundary : least s ts ∣ b
    least_boundary = boundary (least s ts) (least_in s ts) (w.0 ∙ sym w.1.1.0)

    below_base : Base (least s ts) below
    below_base = base_part (least s ts) m m.address b g (omega arith) g.address least_boundary

    above_base : Base (least s ts) above
    above_base = base_part (least s ts) m b (end m) g low least_boundary (dvd-add (least s ts) g.address g.size)

    c : Covered (s ∷ ts) m (cover s ts m)
    c = covered s ts m l g

    p : Covered (s ∷ ts) below xs
    p = covered s ts below l below_base

    q : Covered (s ∷ ts) above ys
    q = covered s ts above l above_base

    -- what starts before the boundary and fits before the end fits before the boundary
    before : (e : Entry) → m.address ≤ e.address → e.address < end below → PageOf (s ∷ ts) below e → Largest (s ∷ ts) (end below) e
        → Largest (s ∷ ts) (end m) e
    before e h r n f z i u v _ =
        let agree : m.address % z ≡ m.offset % z =
        congruent_of z m.address m.offset e.address e.offset u v (omega (arith, n.shown)) in
        let fits : e.address + z ≤ b = next_multiple z e.address b u (boundary z i agree) (omega (arith, low, r)) in
        f z i u v (omega (arith, low, fits))

    tiles : Tiles m.address (end m) (xs ++ ys)
    tiles = tiles_append m.address b (end m) xs ys
        (part_tiles m m.address b xs low p.tiles) (part_tiles m b (end m) ys high q.tiles)

    each : Each (PageOf (s ∷ ts) m) (xs ++ ys)
    each = each_append (PageOf (s ∷ ts) m) xs ys
        (each_map (PageOf (s ∷ ts) below) (PageOf (s ∷ ts) m) xs (part_of (s ∷ ts) m m.address b (omega arith)) p.each)
        (each_map (PageOf (s ∷ ts) above) (PageOf (s ∷ ts) m) ys (part_of (s ∷ ts) m b (end m) low) q.each)

    all-largest : Each (Largest (s ∷ ts) (end m)) (xs ++ ys)
    all-largest = each_append (Largest (s ∷ ts) (end m)) xs ys
        (each_entry (Largest (s ∷ ts) (end below)) (Largest (s ∷ ts) (end m)) (s ∷ ts) below m.address (end below) xs p.tiles p.each
        before (cover-largest s ts below l below_base))
        (each_map (Largest (s ∷ ts) (end above)) (Largest (s ∷ ts) (end m)) ys (λ e f z i u v r. f z i u v (omega (arith, high, r)))
        (cover-largest s ts above l above_base))

pub which_pages : WhichPages
which_pages = record { largest = any-largest; stays = any_stays; in_parts = any_in_parts }
