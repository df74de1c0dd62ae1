-- A walk from one answer's end to the next sees every mapping of a table once, whole and in order: each look-up comes to
-- an edge, and leaves fewer edges behind it.
-- Assumes nothing.
use mathlib.Core.Path.{◌≡◌, refl, sym, ap, ap₂, subst, ◌∙◌}
use mathlib.Core.Logic.{◌⊎◌, inl, inr}
use mathlib.Core.Bool.{Bool, true, false}
use mathlib.Core.List.Memᴰ
use mathlib.Core.List.{List, [], ◌∷◌, ◌++◌}
use Prim.Native.Nat.{ℕ, zero, suc, ◌+◌, ◌-◌, ◌*◌, ◌≤◌, ◌<◌}
use native.Mathlib.Omega.{arith}
use lib.Dec.{leb, ltb}
use lib.ListN.{length}
use borrow.Author.Tests.{lt-ltb, le-ltb, le-leb, lt-leb}
use Rattle.model.specs.Prelude.{Range, Space, Mapping, Sparse, Seen}
use Rattle.model.specs.Rows.{all, choose, Reply, answered}
use Rattle.model.specs.Rules.{end}
use Rattle.model.specs.Table.{mappings}
use Rattle.model.specs.Ranges.{ranges, range_end, in_range_tests, bare}
use Rattle.model.specs.Cut.{see}
use Rattle.model.specs.Calls.{lookup}
use Rattle.model.specs.Exactly.{◌∈◌, Each, Ascends, MappingRules, TableRules, RangeRules}
use Rattle.model.specs.Lookups.{Free, Edge, of_mapping, of_start, of_end, of_space, Next, run_from, answered_run, answer_end, walk, walk_end, Walk}
use Rattle.model.proofs.Numbers.{order}
use Rattle.model.proofs.Actions.{each, each_mem}
use Rattle.model.proofs.Table.{top}
use Rattle.model.proofs.See.{see_outside}
use Rattle.model.proofs.Lookups.{Sight, in_mapping, off-mappings, sees, edge_most, answered_rules, answered_ranges, answered_all}

-- ── the edges behind an address ──

-- how many of some numbers lie behind x
abbrev later : ℕ → List ℕ → ℕ
later x [] = 0
later x (a ∷ es) = choose (ltb x a) (suc (later x es)) (later x es)

module _ (x e : ℕ) (h : x < e) where
  later_less : (es : List ℕ) → later e es ≤ later x es
  later_less [] = omega arith
  later_less (a ∷ es) = go (order a e) (order a x) (later_less es)
    where
      go : (a ≤ e) ⊎ (e < a) → (a ≤ x) ⊎ (x < a) → later e es ≤ later x es → later e (a ∷ es) ≤ later x (a ∷ es)
      go (inl k) (inl l) ih = rw (le-ltb e a k, le-ltb x a l) ih
      go (inl k) (inr l) ih = rw (le-ltb e a k, lt-ltb x a l) (omega arith)
      go (inr k) l ih = rw (lt-ltb e a k, lt-ltb x a (omega arith)) (omega arith)

  -- from one of them on there are fewer
  later_fewer : (es : List ℕ) → e ∈ es → later e es < later x es
  later_fewer [] x'' = elim x'' [ ]
  later_fewer (a ∷ es) (Memᴰ.head d) = rw (le-ltb e a (omega arith), lt-ltb x a (omega arith)) (omega (arith, later_less es))
  later_fewer (a ∷ es) (Memᴰ.tail i) = go (order a e) (order a x) (later_fewer es i)
    where
      go : (a ≤ e) ⊎ (e < a) → (a ≤ x) ⊎ (x < a) → later e es < later x es → later e (a ∷ es) < later x (a ∷ es)
      go (inl k) (inl l) ih = rw (le-ltb e a k, le-ltb x a l) ih
      go (inl k) (inr l) ih = rw (le-ltb e a k, lt-ltb x a l) (omega arith)
      go (inr k) l ih = rw (lt-ltb e a k, lt-ltb x a (omega arith)) (omega arith)

later_most : (x : ℕ) (es : List ℕ) → later x es ≤ length es
later_most x [] = omega arith
later_most x (a ∷ es) = go (ltb x a) (later_most x es)
  where
    go : (t : Bool) → later x es ≤ length es → choose t (suc (later x es)) (later x es) ≤ suc (length es)
    go true ih = omega arith
    go false ih = omega arith

-- both edges of each mapping, of each range, and the space's end
abbrev mapping_edges : List Mapping → List ℕ → List ℕ
mapping_edges [] es = es
mapping_edges (m ∷ ms) es = m.address ∷ end m ∷ mapping_edges ms es

abbrev range_edges : List Range → List ℕ → List ℕ
range_edges [] es = es
range_edges (y ∷ ys) es = y.start ∷ range_end y ∷ range_edges ys es

abbrev edges : Space → List Range → List Mapping → List ℕ
edges s ys ms = mapping_edges ms (range_edges ys (top s ∷ []))

length_mapping_edges : (ms : List Mapping) (es : List ℕ) → length (mapping_edges ms es) ≡ 2 * length ms + length es
length_mapping_edges [] es = omega arith
length_mapping_edges (m ∷ ms) es = omega (arith, length_mapping_edges ms es)

length_range_edges : (ys : List Range) (es : List ℕ) → length (range_edges ys es) ≡ 2 * length ys + length es
length_range_edges [] es = omega arith
length_range_edges (y ∷ ys) es = omega (arith, length_range_edges ys es)

behind-mappings : (ms : List Mapping) (es : List ℕ) {e : ℕ} → e ∈ es → e ∈ mapping_edges ms es
behind-mappings [] es i = i
behind-mappings (m ∷ ms) es i = Memᴰ.tail (Memᴰ.tail (behind-mappings ms es i))

behind-ranges : (ys : List Range) (es : List ℕ) {e : ℕ} → e ∈ es → e ∈ range_edges ys es
behind-ranges [] es i = i
behind-ranges (y ∷ ys) es i = Memᴰ.tail (Memᴰ.tail (behind-ranges ys es i))

of_member : (ms : List Mapping) (es : List ℕ) (m : Mapping) → m ∈ ms → (m.address ∈ mapping_edges ms es) × (end m ∈ mapping_edges ms es)
of_member [] es m x' = elim x' [ ]
of_member (n ∷ ms) es m (Memᴰ.head e) =
    (Memᴰ.head (ap (λ (k : Mapping). k.address) e), Memᴰ.tail (Memᴰ.head (ap (λ (k : Mapping). end k) e)))
of_member (n ∷ ms) es m (Memᴰ.tail i) =
    let k = of_member ms es m i in (Memᴰ.tail (Memᴰ.tail k.0), Memᴰ.tail (Memᴰ.tail k.1))

of_range : (ys : List Range) (es : List ℕ) (y : Range) → y ∈ ys → (y.start ∈ range_edges ys es) × (range_end y ∈ range_edges ys es)
of_range [] es y x' = elim x' [ ]
of_range (z ∷ ys) es y (Memᴰ.head e) =
    (Memᴰ.head (ap (λ (k : Range). k.start) e), Memᴰ.tail (Memᴰ.head (ap (λ (k : Range). range_end k) e)))
of_range (z ∷ ys) es y (Memᴰ.tail i) =
    let k = of_range ys es y i in (Memᴰ.tail (Memᴰ.tail k.0), Memᴰ.tail (Memᴰ.tail k.1))

edge_in : (s : Space) (ys : List Range) (ms : List Mapping) (e : ℕ) → Edge s ys ms e → e ∈ edges s ys ms
edge_in s ys ms e (of_mapping m i d) = subst (λ (f : ℕ). f ∈ edges s ys ms) (sym d) (of_member ms _ m i).0
edge_in s ys ms e (of_start y i d) = subst (λ (f : ℕ). f ∈ edges s ys ms) (sym d) (behind-mappings ms _ (of_range ys _ y i).0)
edge_in s ys ms e (of_end y i d) = subst (λ (f : ℕ). f ∈ edges s ys ms) (sym d) (behind-mappings ms _ (of_range ys _ y i).1)
edge_in s ys ms e (of_space d) = behind-mappings ms _ (behind-ranges ys _ (Memᴰ.head d))

-- ── the mappings from an address on ──

abbrev ahead : ℕ → List Mapping → List Mapping
ahead x [] = []
ahead x (m ∷ ms) = choose (leb x m.address) (m ∷ ms) (ahead x ms)

ahead_all : (x : ℕ) (ms : List Mapping) → Each (λ m. x ≤ m.address) ms → ahead x ms ≡ ms
ahead_all x [] h = refl
ahead_all x (m ∷ ms) h = rw (le-leb x m.address h.0)

ahead_none : (x : ℕ) (ms : List Mapping) → ((m : Mapping) → m ∈ ms → m.address < x) → ahead x ms ≡ []
ahead_none x [] h = refl
ahead_none x (m ∷ ms) h = rw (lt-leb x m.address (h m (Memᴰ.head refl)), ahead) (ahead_none x ms (λ n i. h n (Memᴰ.tail i)))

-- no mapping starts between
ahead_same : (x e : ℕ) (ms : List Mapping) → x ≤ e → ((m : Mapping) → m ∈ ms → x ≤ m.address → e ≤ m.address) → ahead x ms ≡ ahead e ms
ahead_same x e [] l h = refl
ahead_same x e (m ∷ ms) l h = go (order x m.address) (ahead_same x e ms l (λ n i. h n (Memᴰ.tail i)))
  where
    go : (x ≤ m.address) ⊎ (m.address < x) → ahead x ms ≡ ahead e ms → ahead x (m ∷ ms) ≡ ahead e (m ∷ ms)
    go (inl k) ih = rw (le-leb x m.address k, le-leb e m.address (h m (Memᴰ.head refl) k))
    go (inr k) ih = rw (lt-leb x m.address k, lt-leb e m.address (omega arith), ahead) ih

-- at a mapping's address it comes first, and then those from its end on
ahead_at : (ms : List Mapping) (m : Mapping) → Ascends ms → Each (λ n. 0 < n.size) ms → m ∈ ms → ahead m.address ms ≡ m ∷ ahead (end m) ms
ahead_at [] m a z x3 = elim x3 [ ]
ahead_at (n ∷ ms) m a z (Memᴰ.head e) =
    rw (e, le-leb n.address n.address (omega arith), lt-leb (end n) n.address (omega (arith, z.0)), ahead)
    (ap (◌∷◌ n) (sym (ahead_all (end n) ms a.0)) ∙ ap (λ (k : Mapping). n ∷ ahead (end k) ms) (sym e))
ahead_at (n ∷ ms) m a z (Memᴰ.tail i) =
    let k : end n ≤ m.address = each_mem (λ m. end n ≤ m.address) ms m a.0 i in
    rw (lt-leb m.address n.address (omega (arith, z.0)), lt-leb (end m) n.address (omega (arith, z.0)), ahead)
    (ahead_at ms m a.1 z.1 i)

in_order : (ms : List Mapping) (m n : Mapping) → Ascends ms → m ∈ ms → n ∈ ms → (m ≡ n) ⊎ ((end m ≤ n.address) ⊎ (end n ≤ m.address))
in_order [] m n a x3 _ = elim x3 [ ]
in_order (k ∷ ms) m n a (Memᴰ.head d) (Memᴰ.head e) = inl (d ∙ sym e)
in_order (k ∷ ms) m n a (Memᴰ.head d) (Memᴰ.tail j) =
    inr (inl (omega (arith, each_mem (λ o. end k ≤ o.address) ms n a.0 j, ap (λ (o : Mapping). end o) d)))
in_order (k ∷ ms) m n a (Memᴰ.tail i) (Memᴰ.head e) =
    inr (inr (omega (arith, each_mem (λ o. end k ≤ o.address) ms m a.0 i, ap (λ (o : Mapping). end o) e)))
in_order (k ∷ ms) m n a (Memᴰ.tail i) (Memᴰ.tail j) = in_order ms m n a.1 i j

-- ── step by step ──

-- a walk goes by what is answered at each address
walk_same : (n : ℕ) (f g : ℕ → Reply Seen) → ((x : ℕ) → f x ≡ g x) → (x : ℕ) → (walk n f x ≡ walk n g x) × (walk_end n f x ≡ walk_end n g x)
unfolding walk walk_end
walk_same zero f g e x = (refl, refl)
walk_same (suc n) f g e x =
    let ih = walk_same n f g e (answer_end x (g x)) in (
      ap (λ (a : Reply Seen). answered_run x a ++ walk n f (answer_end x a)) (e x) ∙ ap (◌++◌ (answered_run x (g x))) ih.0,
      ap (λ (a : Reply Seen). walk_end n f (answer_end x a)) (e x) ∙ ih.1,
    )

-- off mappings none is seen
run-bare : (ys : List Range) (x n : ℕ) → run_from x (bare ys x) n ≡ []
unfolding bare
run-bare [] x n = refl
run-bare (y ∷ ys) x n = go (all (in_range_tests y x)) (run-bare ys x n)
  where
    go : (t : Bool) → run_from x (bare ys x) n ≡ [] → run_from x (choose t Sparse (bare ys x)) n ≡ []
    go true ih = refl
    go false ih = ih

module _ (s : Space) (ys : List Range) (ms : List Mapping) (q : Each (RangeRules s) ys) (r : TableRules s ms) where
  abbrev look : ℕ → Reply Seen
  look x = answered (see s ys ms x)

  abbrev SeenFrom : ℕ → ℕ → List Mapping → Type 0
  SeenFrom n x ns = (walk n look x ≡ ns) × (walk_end n look x ≡ top s)

  -- one look-up more
  step : (n x z : ℕ) {v : Seen} {us ns : List Mapping} → see s ys ms x ≡ v → run_from x v.shown v.bytes ≡ us → x + v.bytes ≡ z
      → SeenFrom n z ns → SeenFrom (suc n) x (us ++ ns)
  unfolding walk walk_end
  step n x z {v} {us} {ns} e u d ih = (
    ap (λ (v : Seen). run_from x v.shown v.bytes ++ walk n look (x + v.bytes)) e ∙ ap₂ ◌++◌ u (ap (walk n look) d ∙ ih.0),
    ap (λ (v : Seen). walk_end n look (x + v.bytes)) e ∙ ap (walk_end n look) d ∙ ih.1,
  )

  -- at the space's end the walk stays
  stays : (n : ℕ) → SeenFrom n (top s) []
  unfolding walk walk_end
  stays zero = (refl, refl)
  stays (suc n) = step n (top s) (top s) (see_outside s ys ms q r (top s) (λ i. omega arith)) refl (omega arith) (stays n)

  within : (m : Mapping) → m ∈ ms → MappingRules s m
  within m i = each_mem (MappingRules s) ms m r.0 i

  -- x lies in no mapping but at its address
  abbrev Uncut : ℕ → Type 0
  Uncut x = (m : Mapping) → m ∈ ms → m.address < x → end m ≤ x

  uncut_end : (m : Mapping) → m ∈ ms → Uncut (end m)
  uncut_end m i n j h = elim (in_order ms m n r.1 i j) [
    | inl e ↦ omega (arith, ap (λ (o : Mapping). end o) e)
    | inr (inl k) ↦ absurd (omega arith)
    | inr (inr k) ↦ omega arith
  ]

  module _ (x e : ℕ) (f : Free ms x) (n : Next s ys ms x e) where
    -- a mapping that starts before the next edge has ended
    uncut_next : Uncut e
    uncut_next m i h = go (order (end m) e) (order m.address x)
      where
        go : (end m ≤ e) ⊎ (e < end m) → (m.address ≤ x) ⊎ (x < m.address) → end m ≤ e
        go (inl k) l = k
        go (inr k) (inl l) = absurd (f m i (l, omega (arith, n.behind)))
        go (inr k) (inr l) = absurd (omega (arith, n.nearest m.address (of_mapping m i refl) l))

    ahead_next : ahead x ms ≡ ahead e ms
    ahead_next = ahead_same x e ms (omega (arith, n.behind)) (λ m i h. go m i h (order m.address x))
      where
        go : (m : Mapping) → m ∈ ms → x ≤ m.address → (m.address ≤ x) ⊎ (x < m.address) → e ≤ m.address
        go m i h (inl l) = absurd (f m i (l, omega (arith, (within m i).size_least)))
        go m i h (inr l) = n.nearest m.address (of_mapping m i refl) l

  abbrev From : ℕ → Type 0
  From n = (x : ℕ) → s.start ≤ x → x ≤ top s → Uncut x → later x (edges s ys ms) ≤ n → SeenFrom n x (ahead x ms)

  at-end : (n x : ℕ) → x ≤ top s → top s ≤ x → SeenFrom n x (ahead x ms)
  at-end n x h k =
      let e : top s ≡ x = omega arith in
      let none : ahead x ms ≡ [] = ahead_none x ms (λ m i. omega (arith, (within m i).size_least, (within m i).within.1)) in
      subst (SeenFrom n x) (sym none) (subst (λ (y : ℕ). SeenFrom n y []) e (stays n))

  -- a look-up comes to an edge behind x
  module _ (n : ℕ) (rest : From n) (x : ℕ) (l : s.start ≤ x) (u : Uncut x) (k : later x (edges s ys ms) ≤ suc n) where
    from_edge : (e : ℕ) → e ∈ edges s ys ms → x < e → e ≤ top s → Uncut e → SeenFrom n e (ahead e ms)
    from_edge e i h t c = rest e (omega arith) t c (omega (arith, later_fewer x e h (edges s ys ms) i))

    one-step : {v : Seen} → see s ys ms x ≡ v → Sight s ys ms x v → SeenFrom (suc n) x (ahead x ms)
    one-step d (in_mapping m i b) = at (order x m.address)
      where
        at : (x ≤ m.address) ⊎ (m.address < x) → SeenFrom (suc n) x (ahead x ms)
        at (inr g) = absurd (omega (arith, u m i g, b.1))
        at (inl g) =
            let a : x ≡ m.address = omega arith in
            let z : end m - x ≡ m.size = omega arith in
            let f : m.offset + (x - m.address) ≡ m.offset = omega arith in
            let whole : Each (λ o. 0 < o.size) ms = each (λ o. 0 < o.size) ms (λ o j. omega (arith, (within o j).size_least)) in
            subst (SeenFrom (suc n) x) (sym (ap (λ (y : ℕ). ahead y ms) a ∙ ahead_at ms m r.1 whole i))
            (step n x (end m) {us = m ∷ []} d (λ j. record { address = a j; size = z j; object = m.object; offset = f j } ∷ []) (omega arith)
            (from_edge (end m) (of_member ms _ m i).1 b.1 (within m i).within.1 (uncut_end m i)))
    one-step d (off-mappings f e w) =
        subst (SeenFrom (suc n) x) (sym (ahead_next x e f w))
        (step n x e {us = []} d (run-bare ys x (e - x)) (omega (arith, w.behind))
        (from_edge e (edge_in s ys ms e w.edge) w.behind (edge_most s ys ms q r e w.edge) (uncut_next x e f w)))

  steps : (n : ℕ) → From n
  steps zero x l h u k = go (order (top s) x)
    where
      go : (top s ≤ x) ⊎ (x < top s) → SeenFrom zero x (ahead x ms)
      go (inl g) = at-end zero x h g
      go (inr g) = absurd (omega (arith, k, later_fewer x (top s) g (edges s ys ms) (edge_in s ys ms (top s) (of_space refl))))
  steps (suc n) x l h u k = go (order (top s) x) (steps n)
    where
      go : (top s ≤ x) ⊎ (x < top s) → From n → SeenFrom (suc n) x (ahead x ms)
      go (inl g) ih = at-end (suc n) x h g
      go (inr g) ih = one-step n ih x l u k refl (sees s ys ms q r x (l, g))

pub walk-all : Walk
walk-all s l x n v e h =
    let ys : List Range = ranges l.ranges in
    let ms : List Mapping = mappings l.table in
    let q = answered_ranges s l x v e in
    let r = answered_rules s l x v e in
    let low : (m : Mapping) → m ∈ ms → s.start ≤ m.address = λ m i. (each_mem (MappingRules s) ms m r.0 i).within.0 in
    let most : later s.start (edges s ys ms) ≤ n =
    omega (arith, h, later_most s.start (edges s ys ms), length_mapping_edges ms (range_edges ys (top s ∷ [])), length_range_edges ys (top s ∷ [])) in
    let w = steps s ys ms q r n s.start (omega arith) (omega arith) (λ m i g. absurd (omega (arith, low m i))) most in
    let k = walk_same n (lookup s l) (λ (x : ℕ). answered (see s ys ms x)) (answered_all s l x v e) s.start in
    (k.0 ∙ w.0 ∙ ahead_all s.start ms (each (λ m. s.start ≤ m.address) ms low), k.1 ∙ w.1)
