-- What is seen at an address, mapping by mapping: the one that has the byte or the next one behind it decides, beside
-- the edges of sparse ranges.
-- Assumes nothing.
use mathlib.Core.Path.{◌≡◌, refl, sym, ap, ap₂, ◌∙◌}
use mathlib.Core.Logic.{◌⊎◌, inl, inr}
use mathlib.Core.List.Memᴰ
use mathlib.Core.List.{List, [], ◌∷◌}
use Prim.Native.Nat.{ℕ, ◌+◌, ◌-◌, ◌≤◌, ◌<◌, min}
use native.Mathlib.Omega.{arith}
use borrow.Author.Tests.{lt-ltb, le-ltb}
use Rattle.model.specs.Prelude.{Range, Space, Mapping, Shown, Nothing, Object, Seen}
use Rattle.model.specs.Rules.{end}
use Rattle.model.specs.Ranges.{bare, nearer, next_edge}
use Rattle.model.specs.Cut.{inside_tests, translate, run_end, in_space_tests, bytes_to, see}
use Rattle.model.specs.Exactly.{◌∈◌, Each, Ascends, MappingRules, TableRules, RangeRules}
use Rattle.model.specs.Lookups.{Has, Free, InSpace, nothing}
use Rattle.model.proofs.Numbers.{order}
use Rattle.model.proofs.Tests.{tests, all_true, all_false}
use Rattle.model.proofs.Actions.{each_mem}
use Rattle.model.proofs.Translate.{has_or-not, translate_here, translate_past, hides_all}
use Rattle.model.proofs.Table.{top}
use Rattle.model.proofs.Ranges.{bare_none}

-- ── where the answer ends, with a mapping in front of others ──

module _ (to : ℕ) (m : Mapping) (ms : List Mapping) (x : ℕ) where
  run_end_here : Has m x → run_end to (m ∷ ms) x ≡ end m
  unfolding run_end
  run_end_here i = rw (all_true (inside_tests m x) (omega tests))

  run_end_before : x < m.address → run_end to (m ∷ ms) x ≡ min m.address (run_end to ms x)
  unfolding run_end
  run_end_before h = rw (all_false (inside_tests m x) (λ t. omega tests), lt-ltb x m.address h)

  run_end_past : end m ≤ x → run_end to (m ∷ ms) x ≡ run_end to ms x
  unfolding run_end
  run_end_past h = rw (all_false (inside_tests m x) (λ t. omega tests), le-ltb x m.address (omega arith))

pub run_end_none : (to x : ℕ) → run_end to [] x ≡ to
unfolding run_end
run_end_none to x = refl

-- mappings that all start at or behind an address behind x have no say below it
run_end-behind : (to a x : ℕ) (ms : List Mapping) → x < a → Each (λ m. a ≤ m.address) ms → min a (run_end to ms x) ≡ min a to
run_end-behind to a x [] h k = ap (min a) (run_end_none to x)
run_end-behind to a x (m ∷ ms) h k =
    let e = run_end_before to m ms x (omega (arith, k.0)) in
    omega (arith, e, run_end-behind to a x ms h k.1, k.0)

-- ── the bytes up to there ──

module _ (s : Space) (x : ℕ) where
  bytes_inside : InSpace s x → (to : ℕ) → bytes_to s to x ≡ to - x
  bytes_inside i to = rw (all_true (in_space_tests s x) (omega tests))

  bytes_outside : (InSpace s x → ⊥) → (to : ℕ) → bytes_to s to x ≡ 0
  bytes_outside n to = rw (all_false (in_space_tests s x) (λ t. n (omega tests)))

abbrev pub sight : Shown → ℕ → Seen
sight v n = record { shown = v; bytes = n }

abbrev pub bytes_of : Mapping → ℕ → Seen
bytes_of m x = sight (Object m.object (m.offset + (x - m.address))) (end m - x)

-- ── a mapping in front of others ──

module _ (s : Space) (ys : List Range) (m : Mapping) (ms : List Mapping) (x : ℕ) where
  -- it ends at or before x: the others decide
  pub see_past : end m ≤ x → see s ys (m ∷ ms) x ≡ see s ys ms x
  see_past h = ap₂ sight (translate_past (bare ys x) m ms x (λ i. omega arith)) (ap (λ (e : ℕ). bytes_to s e x) (run_end_past (next_edge (top s) ys x) m ms x h))

  -- it ends behind x, and the others start at its end or behind it: it decides alone
  pub see_front : Each (λ n. end m ≤ n.address) ms → x < end m → see s ys (m ∷ ms) x ≡ see s ys (m ∷ []) x
  see_front a h = go (bare ys x) (next_edge (top s) ys x) (order m.address x)
    where
      free : Free ms x
      free n i b = omega (arith, each_mem (λ n. end m ≤ n.address) ms n a i)

      go : (off : Shown) (to : ℕ) → (m.address ≤ x) ⊎ (x < m.address)
          → sight (translate off (m ∷ ms) x) (bytes_to s (run_end to (m ∷ ms) x) x) ≡ sight (translate off (m ∷ []) x) (bytes_to s (run_end to (m ∷ []) x) x)
      go off to (inl l) =
          ap₂ sight (translate_here off m ms x (l, h) ∙ sym (translate_here off m [] x (l, h)))
          (ap (λ (e : ℕ). bytes_to s e x) (run_end_here to m ms x (l, h) ∙ sym (run_end_here to m [] x (l, h))))
      go off to (inr l) =
          let e : run_end to (m ∷ ms) x ≡ run_end to (m ∷ []) x =
          omega (arith, run_end_before to m ms x l, run_end_before to m [] x l, run_end_none to x, run_end-behind to (end m) x ms h a) in
          let none : translate off [] x ≡ off = hides_all off [] x (λ n i. absurd (Memᴰ.not-nil i)) in
          let past : (ns : List Mapping) → translate off (m ∷ ns) x ≡ translate off ns x = λ ns. translate_past off m ns x (λ i. omega arith) in
          ap₂ sight (past ms ∙ hides_all off ms x free ∙ sym (past [] ∙ none)) (ap (λ (e : ℕ). bytes_to s e x) e)

  -- x inside it
  pub see-inside : InSpace s x → Has m x → see s ys (m ∷ ms) x ≡ bytes_of m x
  see-inside i b =
      ap₂ sight (translate_here (bare ys x) m ms x b)
      (bytes_inside s x i (run_end (next_edge (top s) ys x) (m ∷ ms) x) ∙ ap (λ (e : ℕ). e - x) (run_end_here (next_edge (top s) ys x) m ms x b))

-- ── no ranges ──

pub see_none : (s : Space) (x : ℕ) → InSpace s x → see s [] [] x ≡ nothing (top s - x)
unfolding translate run_end bare next_edge
see_none s x i = ap nothing (bytes_inside s x i (top s))

-- a mapping in front of others that start at its end or behind it, and x before it
module _ (s : Space) (m : Mapping) (ms : List Mapping) (x : ℕ) (a : Each (λ n. end m ≤ n.address) ms) (h : x < m.address) where
  free_before : Free (m ∷ ms) x
  free_before n (Memᴰ.head e) b = omega (arith, ap (λ (k : Mapping). k.address) e)
  free_before n (Memᴰ.tail k) b = omega (arith, each_mem (λ n. end m ≤ n.address) ms n a k)

  pub see_before : InSpace s x → end m ≤ top s → see s [] (m ∷ ms) x ≡ nothing (m.address - x)
  unfolding bare next_edge
  see_before i k =
      let e : run_end (top s) (m ∷ ms) x ≡ m.address = omega (arith, run_end_before (top s) m ms x h, run_end-behind (top s) (end m) x ms (omega arith) a) in
      ap₂ sight (hides_all Nothing (m ∷ ms) x free_before) (bytes_inside s x i (run_end (top s) (m ∷ ms) x) ∙ ap (λ (e : ℕ). e - x) e)

-- ── mappings in order ──

-- one of some mappings has x, or none
pub has_or_free : (ms : List Mapping) (x : ℕ) → ((m : Mapping) × m ∈ ms × Has m x) ⊎ Free ms x
has_or_free [] x = inr (λ m i. absurd (Memᴰ.not-nil i))
has_or_free (m ∷ ms) x = go (has_or-not m x) (has_or_free ms x)
  where
    go : Has m x ⊎ (Has m x → ⊥) → ((n : Mapping) × n ∈ ms × Has n x) ⊎ Free ms x → ((n : Mapping) × n ∈ (m ∷ ms) × Has n x) ⊎ Free (m ∷ ms) x
    go (inl b) w = inl (m, Memᴰ.head refl, b)
    go (inr n) (inl (o, i, b)) = inl (o, Memᴰ.tail i, b)
    go (inr n) (inr f) = inr free
      where
        free : Free (m ∷ ms) x
        free o (Memᴰ.head e) b = n (rw e at b)
        free o (Memᴰ.tail i) b = f o i b

-- the one that has x decides
pub see-member : (s : Space) (ys : List Range) (ms : List Mapping) (m : Mapping) (x : ℕ) → Ascends ms → InSpace s x → m ∈ ms → Has m x
    → see s ys ms x ≡ bytes_of m x
see-member s ys [] m x a i x6 b = elim x6 [ ]
see-member s ys (n ∷ ms) m x a i (Memᴰ.head e) b = rw e (see-inside s ys n ms x i (rw e at b))
see-member s ys (n ∷ ms) m x a i (Memᴰ.tail k) b =
    let behind : end n ≤ m.address = each_mem (λ m. end n ≤ m.address) ms m a.0 k in
    see_past s ys n ms x (omega arith) ∙ see-member s ys ms m x a.1 i k b

-- where none has x, the ranges say what is shown, and the next edge how far
pub run_end_free : (to : ℕ) (m : Mapping) (ms : List Mapping) (x : ℕ) → Free (m ∷ ms) x → run_end to (m ∷ ms) x ≡ nearer x m.address (run_end to ms x)
unfolding run_end
run_end_free to m ms x f = rw (all_false (inside_tests m x) (λ t. f m (Memᴰ.head refl) (omega tests)), run_end)

abbrev pub off_end : Space → List Range → List Mapping → ℕ → ℕ
off_end s ys ms x = run_end (next_edge (top s) ys x) ms x

pub see_free : (s : Space) (ys : List Range) (ms : List Mapping) (x : ℕ) → InSpace s x → Free ms x
    → see s ys ms x ≡ sight (bare ys x) (off_end s ys ms x - x)
see_free s ys ms x i f = ap₂ sight (hides_all (bare ys x) ms x f) (bytes_inside s x i (off_end s ys ms x))

-- ── outside the space ──

bare_outside : (s : Space) (ys : List Range) → Each (RangeRules s) ys → (x : ℕ) → (InSpace s x → ⊥) → bare ys x ≡ Nothing
bare_outside s ys q x n = bare_none ys x (λ y i b. let k = (each_mem (RangeRules s) ys y q i).within in n (omega arith, omega arith))

pub inside-or-not : (s : Space) (x : ℕ) → InSpace s x ⊎ (InSpace s x → ⊥)
inside-or-not s x = go (order s.start x) (order (top s) x)
  where
    go : (s.start ≤ x) ⊎ (x < s.start) → (top s ≤ x) ⊎ (x < top s) → InSpace s x ⊎ (InSpace s x → ⊥)
    go (inl h) (inr k) = inl (h, k)
    go (inl h) (inl k) = inr (λ i. omega arith)
    go (inr h) k = inr (λ i. omega arith)

pub see_outside : (s : Space) (ys : List Range) (ms : List Mapping) → Each (RangeRules s) ys → TableRules s ms → (x : ℕ) → (InSpace s x → ⊥)
    → see s ys ms x ≡ nothing 0
see_outside s ys ms q r x n =
    let free : Free ms x = λ m i b. let k = (each_mem (MappingRules s) ms m r.0 i).within in n (omega arith, omega arith) in
    ap₂ sight (hides_all (bare ys x) ms x free ∙ bare_outside s ys q x n) (bytes_outside s x n _)

pub rest_free : {m : Mapping} {ms : List Mapping} {x : ℕ} → Free (m ∷ ms) x → Free ms x
rest_free f n i = f n (Memᴰ.tail i)
