-- What a look-up tells: the mapping that has the byte decides; where none has it, the ranges say what is shown, and the
-- next edge how far.
-- Assumes nothing.
use mathlib.Core.Path.{◌≡◌, refl, sym, ap, ap₂, subst, ◌∙◌}
use mathlib.Core.Logic.{◌⊎◌, inl, inr}
use mathlib.Core.Bool.{Bool, true, false}
use mathlib.Core.List.Memᴰ
use mathlib.Core.List.{List, [], ◌∷◌}
use Prim.Native.Nat.{ℕ, ◌+◌, ◌-◌, ◌≤◌, ◌<◌, min}
use native.Mathlib.Omega.{arith}
use borrow.Author.Tests.{lt-ltb, le-ltb}
use Rattle.model.specs.Prelude.{Range, Space, Mapping, Shown, Sparse, Object, Seen}
use Rattle.model.specs.Rows.{all, choose, answered}
use Rattle.model.specs.Table.{mappings}
use Rattle.model.specs.Ranges.{ranges, range_end, in_range_tests, bare, nearer, next_edge}
use Rattle.model.specs.Cut.{see}
use Rattle.model.specs.Calls.{Lent, lent_rows, see_in, lookup}
use Rattle.model.specs.Exactly.{◌∈◌, Each, MappingRules, TableRules, RangeRules}
use Rattle.model.specs.Lookups.{Has, Free, InRange, Edge, of_mapping, of_start, of_end, of_space, Next, InSpace, Tells, along, Parts, RangeParts, GoesOn, Lookup}
use Rattle.model.proofs.Numbers.{order}
use Rattle.model.proofs.Tests.{tests, all_same}
use Rattle.model.proofs.Actions.{each_mem}
use Rattle.model.proofs.Table.{top, table_says}
use Rattle.model.proofs.Rows.{Passed, answered_passed, passes}
use Rattle.model.proofs.Groups.{lent_passed}
use Rattle.model.proofs.Ranges.{list_row_says, bare_in, bare_none}
use Rattle.model.proofs.See.{run_end_none, run_end_free, rest_free, sight, bytes_of, has_or_free, inside-or-not, off_end, see-member, see_free, see_outside}

-- ── the next edge ──

-- the nearest behind x of what P says are edges
record NextOf (P : ℕ → Type 0) (x e : ℕ) : Type 0 where
  is : P e
  behind : x < e
  nearest : (f : ℕ) → P f → x < f → e ≤ f

-- with one edge more
module _ (P Q : ℕ → Type 0) (a : ℕ) (still : (f : ℕ) → P f → Q f) (more : Q a) (only : (f : ℕ) → Q f → P f ⊎ (f ≡ a)) where
  next_more : (x e : ℕ) → NextOf P x e → NextOf Q x (nearer x a e)
  next_more x e n = go (order a x) (order a e)
    where
      go : (a ≤ x) ⊎ (x < a) → (a ≤ e) ⊎ (e < a) → NextOf Q x (nearer x a e)
      go (inl h) k = rw (le-ltb x a h) (record {
        is = still e n.is;
        behind = n.behind;
        nearest = λ f i l. elim (only f i) [ inl p ↦ n.nearest f p l | inr p ↦ absurd (omega arith) ];
      })
      go (inr h) (inl k) =
          let e' : min a e ≡ a = omega arith in
          rw (lt-ltb x a h, e') (record {
            is = more;
            behind = h;
            nearest = λ f i l. elim (only f i) [ inl p ↦ omega (arith, n.nearest f p l) | inr p ↦ omega arith ];
          })
      go (inr h) (inr k) =
          let e' : min a e ≡ e = omega arith in
          rw (lt-ltb x a h, e') (record {
            is = still e n.is;
            behind = n.behind;
            nearest = λ f i l. elim (only f i) [ inl p ↦ n.nearest f p l | inr p ↦ omega arith ];
          })

module _ (s : Space) (ys : List Range) (ms : List Mapping) where
  next_of : {x e : ℕ} → Next s ys ms x e → NextOf (Edge s ys ms) x e
  next_of n = record { is = n.edge; behind = n.behind; nearest = n.nearest }

  of_next : {x e : ℕ} → NextOf (Edge s ys ms) x e → Next s ys ms x e
  of_next n = record { edge = n.is; behind = n.behind; nearest = n.nearest }

  next_one : {x e f : ℕ} → Next s ys ms x e → Next s ys ms x f → e ≡ f
  next_one {x} {e} {f} n k = omega (arith, n.nearest f k.edge k.behind, k.nearest e n.edge n.behind)

-- with a mapping more, its address
module _ (s : Space) (ys : List Range) (m : Mapping) (ms : List Mapping) where
  still_mapping : (f : ℕ) → Edge s ys ms f → Edge s ys (m ∷ ms) f
  still_mapping f (of_mapping n i e) = of_mapping n (Memᴰ.tail i) e
  still_mapping f (of_start y i e) = of_start y i e
  still_mapping f (of_end y i e) = of_end y i e
  still_mapping f (of_space e) = of_space e

  only_mapping : (f : ℕ) → Edge s ys (m ∷ ms) f → Edge s ys ms f ⊎ (f ≡ m.address)
  only_mapping f (of_mapping n (Memᴰ.head d) e) = inr (e ∙ ap (λ (k : Mapping). k.address) d)
  only_mapping f (of_mapping n (Memᴰ.tail i) e) = inl (of_mapping n i e)
  only_mapping f (of_start y i e) = inl (of_start y i e)
  only_mapping f (of_end y i e) = inl (of_end y i e)
  only_mapping f (of_space e) = inl (of_space e)

  next_mapping : (x e : ℕ) → Next s ys ms x e → Next s ys (m ∷ ms) x (nearer x m.address e)
  next_mapping x e n =
      of_next s ys (m ∷ ms)
      (next_more (Edge s ys ms) (Edge s ys (m ∷ ms)) m.address still_mapping (of_mapping m (Memᴰ.head refl) refl) only_mapping x e (next_of s ys ms n))

-- with a range more, its end and its start
module _ (s : Space) (y : Range) (ys : List Range) (ms : List Mapping) where
  abbrev WithEnd : ℕ → Type 0
  WithEnd f = Edge s ys ms f ⊎ (f ≡ range_end y)

  still_range : (f : ℕ) → WithEnd f → Edge s (y ∷ ys) ms f
  still_range f (inl (of_mapping n i e)) = of_mapping n i e
  still_range f (inl (of_start z i e)) = of_start z (Memᴰ.tail i) e
  still_range f (inl (of_end z i e)) = of_end z (Memᴰ.tail i) e
  still_range f (inl (of_space e)) = of_space e
  still_range f (inr e) = of_end y (Memᴰ.head refl) e

  only_range : (f : ℕ) → Edge s (y ∷ ys) ms f → WithEnd f ⊎ (f ≡ y.start)
  only_range f (of_mapping n i e) = inl (inl (of_mapping n i e))
  only_range f (of_start z (Memᴰ.head d) e) = inr (e ∙ ap (λ (k : Range). k.start) d)
  only_range f (of_start z (Memᴰ.tail i) e) = inl (inl (of_start z i e))
  only_range f (of_end z (Memᴰ.head d) e) = inl (inr (e ∙ ap (λ (k : Range). range_end k) d))
  only_range f (of_end z (Memᴰ.tail i) e) = inl (inl (of_end z i e))
  only_range f (of_space e) = inl (inl (of_space e))

  next_range : (x e : ℕ) → Next s ys ms x e → Next s (y ∷ ys) ms x (nearer x y.start (nearer x (range_end y) e))
  next_range x e n =
      of_next s (y ∷ ys) ms
      (next_more WithEnd (Edge s (y ∷ ys) ms) y.start still_range (of_start y (Memᴰ.head refl) refl) only_range x (nearer x (range_end y) e)
      (next_more (Edge s ys ms) WithEnd (range_end y) (λ f i. inl i) (inr refl) (λ f i. i) x e (next_of s ys ms n)))

module _ (s : Space) (x : ℕ) (i : InSpace s x) where
  next-ranges : (ys : List Range) → Next s ys [] x (next_edge (top s) ys x)
  unfolding next_edge
  next-ranges [] = record { edge = of_space refl; behind = i.1; nearest = nearest }
    where
      nearest : (f : ℕ) → Edge s [] [] f → x < f → top s ≤ f
      nearest f (of_mapping n k e) l = absurd (Memᴰ.not-nil k)
      nearest f (of_start y k e) l = absurd (Memᴰ.not-nil k)
      nearest f (of_end y k e) l = absurd (Memᴰ.not-nil k)
      nearest f (of_space e) l = omega arith
  next-ranges (y ∷ ys) = next_range s y ys [] x _ (next-ranges ys)

  next_free : (ys : List Range) (ms : List Mapping) → Free ms x → Next s ys ms x (off_end s ys ms x)
  next_free ys [] f = subst (Next s ys [] x) (sym (run_end_none (next_edge (top s) ys x) x)) (next-ranges ys)
  next_free ys (m ∷ ms) f =
      subst (Next s ys (m ∷ ms) x) (sym (run_end_free (next_edge (top s) ys x) m ms x f)) (next_mapping s ys m ms x _ (next_free ys ms (rest_free f)))

  next_some : (ys : List Range) (ms : List Mapping) → (e : ℕ) × Next s ys ms x e
  next_some ys [] = (next_edge (top s) ys x, next-ranges ys)
  next_some ys (m ∷ ms) = let n = next_some ys ms in (nearer x m.address n.0, next_mapping s ys m ms x n.0 n.1)

-- ── off mappings ──

-- two bytes that the same ranges have
bare_same : (ys : List Range) (x z : ℕ) → ((y : Range) → y ∈ ys → (InRange y x → InRange y z) × (InRange y z → InRange y x)) → bare ys x ≡ bare ys z
unfolding bare
bare_same [] x z h = refl
bare_same (y ∷ ys) x z h =
    let k = h y (Memᴰ.head refl) in
    ap₂ (λ (t : Bool) (v : Shown). choose t Sparse v)
    (all_same (in_range_tests y x) (in_range_tests y z) (λ t. let b = k.0 (omega tests) in omega tests) (λ t. let b = k.1 (omega tests) in omega tests))
    (bare_same ys x z (λ w i. h w (Memᴰ.tail i)))

-- an offset alone is moved along
along-bare : (n : ℕ) (ys : List Range) (x : ℕ) → along n (bare ys x) ≡ bare ys x
unfolding bare
along-bare n [] x = refl
along-bare n (y ∷ ys) x = go (all (in_range_tests y x)) (along-bare n ys x)
  where
    go : (t : Bool) → along n (bare ys x) ≡ bare ys x → along n (choose t Sparse (bare ys x)) ≡ choose t Sparse (bare ys x)
    go true ih = refl
    go false ih = ih

-- ── what decides ──

-- what is seen at an address in the space, by what decides it
pub data Sight (s : Space) (ys : List Range) (ms : List Mapping) (x : ℕ) : Seen → Type 0 where
  in_mapping : (m : Mapping) → m ∈ ms → Has m x → Sight s ys ms x (bytes_of m x)
  off-mappings : Free ms x → (e : ℕ) → Next s ys ms x e → Sight s ys ms x (sight (bare ys x) (e - x))

module _ (s : Space) (ys : List Range) (ms : List Mapping) (q : Each (RangeRules s) ys) (r : TableRules s ms) where
  within : (m : Mapping) → m ∈ ms → MappingRules s m
  within m i = each_mem (MappingRules s) ms m r.0 i

  range_within : (y : Range) → y ∈ ys → RangeRules s y
  range_within y i = each_mem (RangeRules s) ys y q i

  pub sees : (x : ℕ) → InSpace s x → Sight s ys ms x (see s ys ms x)
  sees x i = go (has_or_free ms x)
    where
      go : ((m : Mapping) × m ∈ ms × Has m x) ⊎ Free ms x → Sight s ys ms x (see s ys ms x)
      go (inl (m, k, b)) = subst (Sight s ys ms x) (sym (see-member s ys ms m x r.1 i k b)) (in_mapping m k b)
      go (inr f) = subst (Sight s ys ms x) (sym (see_free s ys ms x i f)) (off-mappings f (off_end s ys ms x) (next_free s x i ys ms f))

  -- ── case by case ──

  see-mapped : (x : ℕ) (m : Mapping) → m ∈ ms → Has m x → see s ys ms x ≡ bytes_of m x
  see-mapped x m i b = see-member s ys ms m x r.1 (omega (arith, (within m i).within.0), omega (arith, (within m i).within.1)) i b

  see-next : (x : ℕ) → InSpace s x → Free ms x → (e : ℕ) → Next s ys ms x e → see s ys ms x ≡ sight (bare ys x) (e - x)
  see-next x i f e n =
      see_free s ys ms x i f ∙ ap (λ (k : ℕ). sight (bare ys x) (k - x)) (next_one s ys ms (next_free s x i ys ms f) n)

  tells : (x : ℕ) → Tells s ys ms x (see s ys ms x)
  tells x = record {
    mapped = see-mapped x;
    sparse = λ i f y k b e n. see-next x i f e n ∙ ap (λ (v : Shown). sight v (e - x)) (bare_in ys y x k b);
    bare = λ i f none e n. see-next x i f e n ∙ ap (λ (v : Shown). sight v (e - x)) (bare_none ys x none);
    outside = see_outside s ys ms q r x;
    next = λ i. next_some s x i ys ms;
  }

  -- ── what it is good for ──

  pub edge_most : (e : ℕ) → Edge s ys ms e → e ≤ top s
  edge_most e (of_mapping m i d) = omega (arith, (within m i).within.1)
  edge_most e (of_start y i d) = omega (arith, (range_within y i).within.1)
  edge_most e (of_end y i d) = omega (arith, (range_within y i).within.1)
  edge_most e (of_space d) = omega arith

  some : (x : ℕ) → InSpace s x → (1 ≤ (see s ys ms x).bytes) × (x + (see s ys ms x).bytes ≤ top s)
  some x i = go (sees x i)
    where
      go : {v : Seen} → Sight s ys ms x v → (1 ≤ v.bytes) × (x + v.bytes ≤ top s)
      go (in_mapping m j c) = (omega arith, omega (arith, (within m j).within.1))
      go (off-mappings f e n) = (omega (arith, n.behind), omega (arith, n.behind, edge_most e n.edge))

  abbrev Stops : ℕ → ℕ → Type 0
  Stops x e = (e ≡ top s) ⊎ (((m : Mapping) × m ∈ ms × Parts m x e) ⊎ ((y : Range) × y ∈ ys × RangeParts y x e))

  -- a range that ends at the next edge has x: its start is no edge behind x
  at_edge : (x e : ℕ) → Next s ys ms x e → Edge s ys ms e → Stops x e
  at_edge x e n (of_mapping m i d) =
      let h = n.behind in
      inr (inl (m, i, inr (λ b. omega arith, (omega arith, omega (arith, (within m i).size_least)))))
  at_edge x e n (of_start y i d) =
      let h = n.behind in
      inr (inr (y, i, inr (λ b. omega arith, (omega arith, omega (arith, (range_within y i).not_empty)))))
  at_edge x e n (of_end y i d) = go (order y.start x)
    where
      go : (y.start ≤ x) ⊎ (x < y.start) → Stops x e
      go (inl l) = let h = n.behind in inr (inr (y, i, inl ((l, omega arith), λ b. omega arith)))
      go (inr l) = absurd (omega (arith, n.nearest y.start (of_start y i refl) l, (range_within y i).not_empty))
  at_edge x e n (of_space d) = inl d

  stops : (x : ℕ) → InSpace s x → Stops x (x + (see s ys ms x).bytes)
  stops x i = go (sees x i)
    where
      go : {v : Seen} → Sight s ys ms x v → Stops x (x + v.bytes)
      go (in_mapping m j c) = inr (inl (m, j, inl (c, λ b. omega arith)))
      go (off-mappings f e n) =
          let d : e ≡ x + (e - x) = omega (arith, n.behind) in
          subst (Stops x) d (at_edge x e n n.edge)

  -- before the next edge, no mapping and the same ranges
  module _ (x z e : ℕ) (n : Next s ys ms x e) (low : x ≤ z) (high : z < e) where
    next_on : Next s ys ms z e
    next_on = record { edge = n.edge; behind = high; nearest = λ f i l. n.nearest f i (omega arith) }

    free_on : Free ms x → Free ms z
    free_on f m i b = at (order m.address x)
      where
        at : (m.address ≤ x) ⊎ (x < m.address) → ⊥
        at (inl l) = f m i (l, omega arith)
        at (inr l) = omega (arith, n.nearest m.address (of_mapping m i refl) l)

    bare_on : bare ys z ≡ bare ys x
    bare_on = bare_same ys z x (λ y i. (λ b. at y i b (order y.start x), λ b. (omega arith, ends y i b (order (range_end y) z))))
      where
        at : (y : Range) → y ∈ ys → InRange y z → (y.start ≤ x) ⊎ (x < y.start) → InRange y x
        at y i b (inl l) = (l, omega arith)
        at y i b (inr l) = absurd (omega (arith, n.nearest y.start (of_start y i refl) l))

        ends : (y : Range) → y ∈ ys → InRange y x → (range_end y ≤ z) ⊎ (z < range_end y) → z < range_end y
        ends y i b (inl l) = absurd (omega (arith, n.nearest (range_end y) (of_end y i refl) b.1))
        ends y i b (inr l) = l

  same : (x y : ℕ) → y < (see s ys ms x).bytes → see s ys ms (x + y) ≡ sight (along y (see s ys ms x).shown) ((see s ys ms x).bytes - y)
  same x y h = pick (inside-or-not s x)
    where
      go : {v : Seen} → InSpace s x → Sight s ys ms x v → y < v.bytes → see s ys ms (x + y) ≡ sight (along y v.shown) (v.bytes - y)
      go i (in_mapping m j c) l = see-mapped (x + y) m j (omega arith, omega arith) ∙ ap₂ (λ (f b : ℕ). sight (Object m.object f) b) (omega arith) (omega arith)
      go i (off-mappings f e n) l =
          let low : x ≤ x + y = omega arith in
          let high : x + y < e = omega arith in
          see-next (x + y) (omega arith, omega (arith, edge_most e n.edge)) (free_on x (x + y) e n low high f) e (next_on x (x + y) e n low high)
          ∙ ap₂ sight (bare_on x (x + y) e n low high ∙ sym (along-bare y ys x)) (omega arith)

      pick : InSpace s x ⊎ (InSpace s x → ⊥) → see s ys ms (x + y) ≡ sight (along y (see s ys ms x).shown) ((see s ys ms x).bytes - y)
      pick (inl i) = go i (sees x i) h
      pick (inr n) = absurd (omega (arith, h, ap (λ (v : Seen). v.bytes) (see_outside s ys ms q r x n)))

-- ── the public call ──

-- where one look-up is answered, table and list keep their rules, and every look-up is answered
module _ (s : Space) (l : Lent) (x : ℕ) (v : Seen) (e : lookup s l x ≡ answered v) where
  passed : Passed (lent_rows s [] l) × (v ≡ see_in s l x)
  unfolding lookup
  passed = answered_passed (lent_rows s [] l) (see_in s l x) v e

  pub answered_rules : TableRules s (mappings l.table)
  answered_rules = (table_says s (mappings l.table)).0 (lent_passed s [] l passed.0).table.places

  pub answered_ranges : Each (RangeRules s) (ranges l.ranges)
  answered_ranges = ((list_row_says s l.ranges).0 (lent_passed s [] l passed.0).list).each_range

  pub answered_all : (y : ℕ) → lookup s l y ≡ answered (see_in s l y)
  unfolding lookup
  answered_all y = passes (lent_rows s [] l) (see_in s l y) passed.0

  tells_answer : Tells s (ranges l.ranges) (mappings l.table) x v × GoesOn s l x v
  tells_answer =
      let ys : List Range = ranges l.ranges in
      let ms : List Mapping = mappings l.table in
      let q = answered_ranges in
      let r = answered_rules in (
        subst (Tells s ys ms x) (sym passed.1) (tells s ys ms q r x),
        subst (GoesOn s l x) (sym passed.1) (record {
          same = λ y h. answered_all (x + y) ∙ ap answered (same s ys ms q r x y h);
          some = some s ys ms q r x;
          stops = stops s ys ms q r x;
        }),
      )

pub lookup_tells : Lookup
lookup_tells s l x v e = tells_answer s l x v e
