-- What is seen in a table beside sparse ranges is what is seen in the table alone, beside them.
-- Assumes nothing.
use mathlib.Core.Path.{◌≡◌, refl, sym, ap, ap₂, ◌∙◌}
use mathlib.Core.Bool.{Bool, true, false}
use mathlib.Core.List.{List, [], ◌∷◌}
use Prim.Native.Nat.{ℕ, ◌+◌, ◌-◌, ◌≤◌, ◌<◌, min}
use native.Mathlib.Omega.{arith}
use lib.Dec.{ltb}
use borrow.Author.Tests.{ltb-true}
use Rattle.model.specs.declared.Mapping.{Mapping}
use Rattle.model.specs.declared.Range.{Range}
use Rattle.model.specs.declared.Seen.{Seen}
use Rattle.model.specs.declared.Shown.{Shown}
use Rattle.model.specs.declared.Shown.TheVariants.{Nothing, Object}
use Rattle.model.specs.declared.Space.{Space}
use Rattle.model.specs.Rows.{all, choose}
use Rattle.model.specs.Ranges.{range_end, bare, nearer, next_edge}
use Rattle.model.specs.Cut.{inside_tests, translate, run_end, in_space_tests, bytes_to, see}
use Rattle.model.proofs.Tests.{tests, all_facts}
use Rattle.ranges.specs.Beside.{beside, beside_off}

-- ── the nearest of several ──

nearer_swap : (x a b c : ℕ) → nearer x a (nearer x b c) ≡ nearer x b (nearer x a c)
nearer_swap x a b c = go (ltb x a) (ltb x b)
  where
    go : (s t : Bool) → choose s (min a (choose t (min b c) c)) (choose t (min b c) c) ≡ choose t (min b (choose s (min a c) c)) (choose s (min a c) c)
    go true true = omega arith
    go true false = refl
    go false true = refl
    go false false = refl

nearer_most : (x a b : ℕ) → nearer x a b ≤ b
nearer_most x a b = go (ltb x a)
  where
    go : (s : Bool) → choose s (min a b) b ≤ b
    go true = omega arith
    go false = omega arith

nearer-behind : (x a b : ℕ) → x ≤ b → x ≤ nearer x a b
nearer-behind x a b h = go (ltb x a) refl
  where
    go : (s : Bool) → ltb x a ≡ s → x ≤ choose s (min a b) b
    go true e = omega (arith, ltb-true x a e)
    go false e = h

edge_most : (to x : ℕ) (ys : List Range) → next_edge to ys x ≤ to
unfolding next_edge
edge_most to x [] = omega arith
edge_most to x (y ∷ ys) =
    let e : ℕ = next_edge to ys x in
    omega (arith, nearer_most x y.start (nearer x (range_end y) e), nearer_most x (range_end y) e, edge_most to x ys)

edge_nearer : (to a x : ℕ) (ys : List Range) → next_edge (nearer x a to) ys x ≡ nearer x a (next_edge to ys x)
unfolding next_edge
edge_nearer to a x [] = refl
edge_nearer to a x (y ∷ ys) =
    let e : ℕ = next_edge to ys x in
    ap (λ (k : ℕ). nearer x y.start (nearer x (range_end y) k)) (edge_nearer to a x ys)
    ∙ ap (nearer x y.start) (nearer_swap x (range_end y) a e)
    ∙ nearer_swap x y.start a (nearer x (range_end y) e)

-- ── mappings and what stands beside them ──

-- a mapping has the byte, and nothing beside it plays a part; or none has it
data Look (ms : List Mapping) (x : ℕ) : Type 0 where
  mapped : (o f : ℕ) → ((off : Shown) → translate off ms x ≡ Object o f) → ((to to' : ℕ) → run_end to ms x ≡ run_end to' ms x) → Look ms x
  free : ((off : Shown) → translate off ms x ≡ off) → ((to : ℕ) (ys : List Range) → run_end (next_edge to ys x) ms x ≡ next_edge (run_end to ms x) ys x)
      → ((to : ℕ) → x ≤ to → x ≤ run_end to ms x) → Look ms x

look : (ms : List Mapping) (x : ℕ) → Look ms x
unfolding translate run_end
look [] x = free (λ off. refl) (λ to ys. refl) (λ to h. h)
look (m ∷ ms) x = go (all (inside_tests m x)) refl (look ms x)
  where
    go : (b : Bool) → all (inside_tests m x) ≡ b → Look ms x → Look (m ∷ ms) x
    go true e k = mapped m.object (m.offset + (x - m.address)) (λ off. rw e refl) (λ to to'. rw e refl)
    go false e (mapped o f p q) = mapped o f (λ off. rw e (p off)) (λ to to'. rw e (ap (nearer x m.address) (q to to')))
    go false e (free p q r) = free (λ off. rw e (p off))
        (λ to ys. rw e (ap (nearer x m.address) (q to ys) ∙ sym (edge_nearer (run_end to ms x) m.address x ys)))
        (λ to h. rw e (nearer-behind x m.address (run_end to ms x) (r to h)))

abbrev seen : Shown → ℕ → Seen
seen v n = record { shown = v; bytes = n }

-- where the answer goes on to e in the table alone
bytes_beside : (s : Space) (ys : List Range) (x e : ℕ) → (x < s.start + s.size → x ≤ e)
    → next_edge (x + bytes_to s e x) ys x - x ≡ bytes_to s (next_edge e ys x) x
bytes_beside s ys x e h = go (all (in_space_tests s x)) refl
  where
    go : (b : Bool) → all (in_space_tests s x) ≡ b → next_edge (x + choose b (e - x) 0) ys x - x ≡ choose b (next_edge e ys x - x) 0
    go true t =
        let k = all_facts (in_space_tests s x) t in
        let m : x + (e - x) ≡ e = omega (tests, h (omega tests)) in
        rw m refl
    go false t = omega (arith, edge_most (x + 0) x ys)

pub beside_sees : (s : Space) (ys : List Range) (ms : List Mapping) (x : ℕ) → beside ys x (see s [] ms x) ≡ see s ys ms x
unfolding beside beside_off bare next_edge
beside_sees s ys ms x = go (look ms x)
  where
    go : Look ms x → beside ys x (see s [] ms x) ≡ see s ys ms x
    go (mapped o f p q) =
        ap (beside ys x) (ap₂ seen (p Nothing) (ap (λ (e : ℕ). bytes_to s e x) (q (s.start + s.size) (next_edge (s.start + s.size) ys x))))
        ∙ sym (ap₂ seen (p (bare ys x)) refl)
    go (free p q r) =
        let e : ℕ = run_end (s.start + s.size) ms x in
        ap (beside ys x) (ap₂ seen (p Nothing) refl)
        ∙ ap (seen (bare ys x)) (bytes_beside s ys x e (λ h. r (s.start + s.size) (omega arith)))
        ∙ sym (ap₂ seen (p (bare ys x)) (ap (λ (e : ℕ). bytes_to s e x) (q (s.start + s.size) ys)))
