-- Entries stand in a mapping's range without a gap exactly if each byte is covered once, and none outside; they then
-- show what the mapping shows.
-- Assumes nothing.
use mathlib.Core.Path.{◌≡◌, refl, sym, ap, ◌∙◌}
use mathlib.Core.Logic.{◌⊎◌, inl, inr}
use mathlib.Core.List.{List, [], ◌∷◌, map}
use Prim.Native.Nat.{ℕ, suc, ◌+◌, ◌-◌, ◌%◌, ◌≤◌, ◌<◌}
use native.Mathlib.Nat.{dvd_of_mod-eq-zero, mod-eq-zero_of_dvd}
use native.Mathlib.Omega.{arith}
use Rattle.model.specs.Rules.{end}
use Rattle.model.specs.Cut.{inside_tests, translate}
use Rattle.model.specs.Exactly.{Each, ◌∈◌, Ascends}
use Rattle.model.specs.Lookups.{Has}
use Rattle.model.specs.declared.Shown.TheVariants.{Nothing, Sparse, Object}
use Rattle.model.proofs.Tests.{tests, all_true, all_false}
use Rattle.model.proofs.Numbers.{order}
use Rattle.model.proofs.Actions.{each_map}
use Rattle.model.proofs.Translate.{translate_here, translate_past}
use Rattle.pages.specs.Prelude.{Mapping, Shown, Entry}
use Rattle.pages.specs.Claims.{mapping_of, holders, Covers}
use Rattle.pages.proofs.Tiles.{stop_of, Tiles, PageOf, Covered, tiles_le}

holders_here : (m : Mapping) (ms : List Mapping) (x : ℕ) → Has m x → holders x (m ∷ ms) ≡ suc (holders x ms)
unfolding holders
holders_here m ms x i = rw (all_true (inside_tests m x) (omega tests), holders) (omega arith)

holders_past : (m : Mapping) (ms : List Mapping) (x : ℕ) → (Has m x → ⊥) → holders x (m ∷ ms) ≡ holders x ms
unfolding holders
holders_past m ms x n = rw (all_false (inside_tests m x) (λ t. n (omega tests)), holders) (omega arith)

none_holds : (x : ℕ) → holders x [] ≡ 0
unfolding holders
none_holds x = refl

none_shows : (off : Shown) (x : ℕ) → translate off [] x ≡ off
unfolding translate
none_shows off x = refl

-- mappings from y on have no byte under it
under : (x y : ℕ) (ms : List Mapping) → x < y → Each (λ n. y ≤ n.address) ms → holders x ms ≡ 0
under x y [] l g = none_holds x
under x y (n ∷ ns) l g = holders_past n ns x (λ i. omega (arith, g.0)) ∙ under x y ns l g.1

abbrev offset_of : Shown → ℕ
offset_of Nothing = 0
offset_of Sparse = 0
offset_of (Object o f) = f

-- ── entries without a gap ──

module _ (m : Mapping) where
  abbrev as_mappings : List Entry → List Mapping
  as_mappings es = map (mapping_of m) es

  behind : (a b : ℕ) (es : List Entry) → Tiles a b es → Each (λ n. a ≤ n.address) (as_mappings es)
  behind a b [] t = tt
  behind a b (e ∷ es) t = (
    omega (arith, t.0),
    each_map (λ n. stop_of e ≤ n.address) (λ n. a ≤ n.address) (as_mappings es) (λ n h. omega (arith, t.0, h)) (behind (stop_of e) b es t.2),
  )

  tiles_ascend : (a b : ℕ) (es : List Entry) → Tiles a b es → Ascends (as_mappings es)
  tiles_ascend a b [] t = tt
  tiles_ascend a b (e ∷ es) t = (behind (stop_of e) b es t.2, tiles_ascend (stop_of e) b es t.2)

  -- outside, none of them has the byte
  not_first : (a b : ℕ) (e : Entry) (es : List Entry) → Tiles a b (e ∷ es) → (x : ℕ) → (x < a) ⊎ (b ≤ x) → Has (mapping_of m e) x → ⊥
  not_first a b e es t x (inl l) i = omega (arith, t.0)
  not_first a b e es t x (inr l) i = omega (arith, tiles_le (stop_of e) b es t.2)

  onward : (a b : ℕ) (e : Entry) (es : List Entry) → Tiles a b (e ∷ es) → (x : ℕ) → (x < a) ⊎ (b ≤ x) → (x < stop_of e) ⊎ (b ≤ x)
  onward a b e es t x (inl l) = inl (omega (arith, t.0))
  onward a b e es t x (inr l) = inr l

  outside_holders : (a b : ℕ) (es : List Entry) → Tiles a b es → (x : ℕ) → (x < a) ⊎ (b ≤ x) → holders x (as_mappings es) ≡ 0
  outside_holders a b [] t x h = none_holds x
  outside_holders a b (e ∷ es) t x h =
      holders_past (mapping_of m e) (as_mappings es) x (not_first a b e es t x h)
      ∙ outside_holders (stop_of e) b es t.2 x (onward a b e es t x h)

  outside_shows : (off : Shown) (a b : ℕ) (es : List Entry) → Tiles a b es → (x : ℕ) → (x < a) ⊎ (b ≤ x) → translate off (as_mappings es) x ≡ off
  outside_shows off a b [] t x h = none_shows off x
  outside_shows off a b (e ∷ es) t x h =
      translate_past off (mapping_of m e) (as_mappings es) x (not_first a b e es t x h)
      ∙ outside_shows off (stop_of e) b es t.2 x (onward a b e es t x h)

  -- inside, one has it
  inside-holders : (a b : ℕ) (es : List Entry) → Tiles a b es → (x : ℕ) → a ≤ x → x < b → holders x (as_mappings es) ≡ 1
  inside-holders a b [] t x h k = absurd (omega (arith, t, h, k))
  inside-holders a b (e ∷ es) t x h k = go (order (stop_of e) x) (inside-holders (stop_of e) b es t.2 x)
    where
      go : (stop_of e ≤ x) ⊎ (x < stop_of e) → (stop_of e ≤ x → x < b → holders x (as_mappings es) ≡ 1) → holders x (as_mappings (e ∷ es)) ≡ 1
      go (inl l) ih = holders_past (mapping_of m e) (as_mappings es) x (λ i. omega arith) ∙ ih l k
      go (inr l) ih =
          holders_here (mapping_of m e) (as_mappings es) x (omega (arith, t.0, h), l) ∙ ap suc (outside_holders (stop_of e) b es t.2 x (inl l))

  inside-shows : (off : Shown) (sizes : List ℕ) (a b : ℕ) (es : List Entry) → m.address ≤ a → Tiles a b es → Each (PageOf sizes m) es
      → (x : ℕ) → a ≤ x → x < b → translate off (as_mappings es) x ≡ Object m.object (m.offset + (x - m.address))
  inside-shows off sizes a b [] f t n x h k = absurd (omega (arith, t, h, k))
  inside-shows off sizes a b (e ∷ es) f t n x h k =
      go (order (stop_of e) x) (inside-shows off sizes (stop_of e) b es (omega (arith, f, t.0)) t.2 n.1 x)
    where
      go : (stop_of e ≤ x) ⊎ (x < stop_of e)
          → (stop_of e ≤ x → x < b → translate off (as_mappings es) x ≡ Object m.object (m.offset + (x - m.address)))
          → translate off (as_mappings (e ∷ es)) x ≡ Object m.object (m.offset + (x - m.address))
      go (inl l) ih = translate_past off (mapping_of m e) (as_mappings es) x (λ i. omega arith) ∙ ih l k
      go (inr l) ih =
          translate_here off (mapping_of m e) (as_mappings es) x (omega (arith, t.0, h), l)
          ∙ ap (Object m.object) (omega (arith, n.0.shown, t.0, f, h))

  tiles_show : (off : Shown) (sizes : List ℕ) (es : List Entry) → Covered sizes m es → (x : ℕ)
      → translate off (as_mappings es) x ≡ translate off (m ∷ []) x
  tiles_show off sizes es c x = go (order m.address x) (order (end m) x)
    where
      off_range : (x < m.address) ⊎ (end m ≤ x) → (Has m x → ⊥) → translate off (as_mappings es) x ≡ translate off (m ∷ []) x
      off_range h n = outside_shows off m.address (end m) es c.tiles x h ∙ sym (translate_past off m [] x n ∙ none_shows off x)

      go : (m.address ≤ x) ⊎ (x < m.address) → (end m ≤ x) ⊎ (x < end m) → translate off (as_mappings es) x ≡ translate off (m ∷ []) x
      go (inr h) q = off_range (inl h) (λ i. omega arith)
      go (inl h) (inl k) = off_range (inr k) (λ i. omega arith)
      go (inl h) (inr k) =
          inside-shows off sizes m.address (end m) es (omega arith) c.tiles c.each x h k
          ∙ sym (translate_here off m [] x (h, k))

  pub covered_covers : (sizes : List ℕ) (es : List Entry) → Covered sizes m es → Covers sizes m es
  covered_covers sizes es c = record {
    multiples = each_map (PageOf sizes m) (λ e. (e.address % e.size ≡ 0) × (e.offset % e.size ≡ 0)) es
        (λ e n. (mod-eq-zero_of_dvd e.size n.address, mod-eq-zero_of_dvd e.size n.offset)) c.each;
    one_size = each_map (PageOf sizes m) (λ e. e.size ∈ sizes) es (λ e n. n.size) c.each;
    ascends = tiles_ascend m.address (end m) es c.tiles;
    once = inside-holders m.address (end m) es c.tiles;
    outside = outside_holders m.address (end m) es c.tiles;
    translations = λ off x. tiles_show off sizes es c x;
  }

  -- ── each byte once ──

  tiled : (a b : ℕ) (es : List Entry) → a ≤ b → Each (λ e. 0 < e.size) es → Ascends (as_mappings es)
      → ((x : ℕ) → a ≤ x → x < b → holders x (as_mappings es) ≡ 1) → ((x : ℕ) → (x < a) ⊎ (b ≤ x) → holders x (as_mappings es) ≡ 0) → Tiles a b es
  tiled a b [] h z c once outside = go (order b a)
    where
      go : (b ≤ a) ⊎ (a < b) → a ≡ b
      go (inl l) = omega (arith, h, l)
      go (inr l) = absurd (omega (arith, none_holds a, once a (omega arith) l))
  tiled a b (e ∷ es) h z c once outside =
      (start, z.0, tiled (stop_of e) b es within z.1 c.1 once_behind outside_behind)
    where
      here : (x : ℕ) → e.address ≤ x → x < stop_of e → holders x (as_mappings (e ∷ es)) ≡ suc (holders x (as_mappings es))
      here x l k = holders_here (mapping_of m e) (as_mappings es) x (l, k)

      past : (x : ℕ) → (x < e.address) ⊎ (stop_of e ≤ x) → holders x (as_mappings (e ∷ es)) ≡ holders x (as_mappings es)
      past x (inl l) = holders_past (mapping_of m e) (as_mappings es) x (λ i. omega arith)
      past x (inr l) = holders_past (mapping_of m e) (as_mappings es) x (λ i. omega arith)

      first : holders e.address (as_mappings (e ∷ es)) ≡ suc (holders e.address (as_mappings es))
      first = here e.address (omega arith) (omega (arith, z.0))

      before : e.address < b
      before = go (order b e.address)
        where
          go : (b ≤ e.address) ⊎ (e.address < b) → e.address < b
          go (inl l) = absurd (omega (arith, first, outside e.address (inr l)))
          go (inr l) = l

      from : a ≤ e.address
      from = go (order a e.address)
        where
          go : (a ≤ e.address) ⊎ (e.address < a) → a ≤ e.address
          go (inl l) = l
          go (inr l) = absurd (omega (arith, first, outside e.address (inl l)))

      start : e.address ≡ a
      start = go (order e.address a)
        where
          go : (e.address ≤ a) ⊎ (a < e.address) → e.address ≡ a
          go (inl l) = omega (arith, from, l)
          go (inr l) = absurd (omega (
            arith,
            past a (inl l),
            under a (stop_of e) (as_mappings es) (omega (arith, l)) c.0,
            once a (omega arith) (omega (arith, l, before)),
          ))

      within : stop_of e ≤ b
      within = go (order (stop_of e) b)
        where
          go : (stop_of e ≤ b) ⊎ (b < stop_of e) → stop_of e ≤ b
          go (inl l) = l
          go (inr l) = absurd (omega (arith, here b (omega (arith, before)) l, outside b (inr (omega arith))))

      once_behind : (x : ℕ) → stop_of e ≤ x → x < b → holders x (as_mappings es) ≡ 1
      once_behind x l k = sym (past x (inr l)) ∙ once x (omega (arith, l, from)) k

      outside_behind : (x : ℕ) → (x < stop_of e) ⊎ (b ≤ x) → holders x (as_mappings es) ≡ 0
      outside_behind x (inl l) = under x (stop_of e) (as_mappings es) l c.0
      outside_behind x (inr l) = sym (past x (inr (omega (arith, l, within)))) ∙ outside x (inr l)

  shown : (a b : ℕ) (es : List Entry) → m.address ≤ a → b ≤ end m → Tiles a b es
      → ((x : ℕ) → a ≤ x → translate Nothing (as_mappings es) x ≡ translate Nothing (m ∷ []) x)
      → Each (λ e. e.offset + m.address ≡ m.offset + e.address) es
  shown a b [] f h t s = tt
  shown a b (e ∷ es) f h t s = (
    omega (arith, ap offset_of (sym first ∙ s e.address (omega (arith, t.0)) ∙ asked), t.0, f),
    shown (stop_of e) b es (omega (arith, t.0, f)) h t.2
        (λ x k. sym (translate_past Nothing (mapping_of m e) (as_mappings es) x (λ i. omega arith)) ∙ s x (omega (arith, k, t.0))),
  )
    where
      first : translate Nothing (as_mappings (e ∷ es)) e.address ≡ Object m.object (e.offset + (e.address - e.address))
      first = translate_here Nothing (mapping_of m e) (as_mappings es) e.address (omega arith, omega (arith, t.1))

      asked : translate Nothing (m ∷ []) e.address ≡ Object m.object (m.offset + (e.address - m.address))
      asked = translate_here Nothing m [] e.address (omega (arith, f, t.0), omega (arith, t.1, h, tiles_le (stop_of e) b es t.2))

  pub covers_covered : (sizes : List ℕ) (es : List Entry) → ((z : ℕ) → z ∈ sizes → 0 < z) → Covers sizes m es → Covered sizes m es
  covers_covered sizes es some c = record {
    tiles = t;
    each = join es c.multiples c.one_size (shown m.address (end m) es (omega arith) (omega arith) t (λ x _. c.translations Nothing x));
  }
    where
      t : Tiles m.address (end m) es
      t = tiled m.address (end m) es (omega arith) (each_map (λ e. e.size ∈ sizes) (λ e. 0 < e.size) es (λ e i. some e.size i) c.one_size)
          c.ascends c.once c.outside

      join : (es : List Entry) → Each (λ e. (e.address % e.size ≡ 0) × (e.offset % e.size ≡ 0)) es → Each (λ e. e.size ∈ sizes) es
          → Each (λ e. e.offset + m.address ≡ m.offset + e.address) es → Each (PageOf sizes m) es
      join [] p q r = tt
      join (e ∷ es) p q r = (
        record { size = q.0; address = dvd_of_mod-eq-zero e.size p.0.0; offset = dvd_of_mod-eq-zero e.size p.0.1; shown = r.0 },
        join es p.1 q.1 r.1,
      )
