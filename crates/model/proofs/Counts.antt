-- How many mappings a request leaves: document 01's count rule.
-- Assumes nothing.
use mathlib.Core.Path.{◌≡◌, refl, ap, ◌∙◌}
use mathlib.Core.Logic.{◌⊎◌, inl, inr}
use mathlib.Core.List.{List, [], ◌∷◌, map, flat_map}
use Prim.Native.Nat.{ℕ, zero, suc, ◌+◌, ◌≤◌, ◌<◌}
use native.Mathlib.Omega.{arith}
use lib.ListN.{length, length-append, length-map}
use Rattle.model.specs.Prelude.{Mapping, Request, Map}
use Rattle.model.specs.Rules.{end, stop}
use Rattle.model.specs.Cut.{lower_part, upper_part, sized, prepend, below, above, new, after, hits, operation_of, operations, old, rests}
use Rattle.model.proofs.Numbers.{order}
use Rattle.model.proofs.Window.{prepend-zero}
use Rattle.model.proofs.New.{new_most}
use Rattle.model.proofs.Run.{Run}
use Rattle.model.proofs.Hits.{First, hit, missed, hits_first}
use Rattle.model.proofs.Operations.{flat_map-operations, olds}
use Rattle.model.proofs.Left.{left, none_below, left_hit, left_missed}

-- a mapping hit goes, and its rests come
left-count : (r : Request) (from : ℕ) (ms : List Mapping) → Run from ms → 0 < r.size
    → length (left r ms) + length (hits r ms) ≡ length ms + length (flat_map rests (map (operation_of r) (hits r ms)))
unfolding flat_map hits below above
left-count r from [] run z = refl
left-count r from (m ∷ ms) run z = go (hits r (m ∷ ms)) (hits_first r m ms) (left-count r (end m) ms run.2 z)
  where
    Count : List Mapping → List Mapping → Type 0
    Count ms hs = length (left r ms) + length hs ≡ length ms + length (flat_map rests (map (operation_of r) hs))

    go : (hs : List Mapping) → First r m ms hs → Count ms (hits r ms) → Count (m ∷ ms) hs
    go hs (missed n) ih = omega (arith, ap length (left_missed r m ms run.2 run.1 z n))
    go hs (hit h) ih = omega (
      arith,
      ap length (left_hit r m ms run.2 h) ∙ length-append (rests (operation_of r m)) (left r ms),
      length-append (rests (operation_of r m)) (flat_map rests (map (operation_of r) (hits r ms))),
    )

pub prepend_most : (m : Mapping) (ms : List Mapping) → length (prepend m ms) ≤ suc (length ms)
prepend_most m ms = go m.size
  where
    go : (n : ℕ) → length (sized n m ms) ≤ suc (length ms)
    go zero = omega arith
    go (suc n) = omega arith

above_most : (b : ℕ) (ms : List Mapping) → length (above b ms) ≤ length ms
unfolding above
above_most b [] = omega arith
above_most b (m ∷ ms) = omega (arith, prepend_most (upper_part b m) (above b ms), above_most b ms)

-- only the first mapping that ends over the range's start can leave two parts
left_most : (r : Request) (from : ℕ) (ms : List Mapping) → Run from ms → 0 < r.size → length (left r ms) ≤ length ms + 1
unfolding below above
left_most r from [] run z = omega arith
left_most r from (m ∷ ms) run z = go (order (end m) r.address) (left_most r (end m) ms run.2 z)
  where
    go : (end m ≤ r.address) ⊎ (r.address < end m) → length (left r ms) ≤ length ms + 1 → length (left r (m ∷ ms)) ≤ suc (length ms) + 1
    go (inl k) ih = omega (arith, ap length (left_missed r m ms run.2 run.1 z (λ h. omega arith)))
    go (inr k) ih = rw (length-append (below r.address (m ∷ ms)) (above (stop r) (m ∷ ms)), none_below r m ms run.2 (omega arith))
        (omega (arith, prepend_most (lower_part r.address m) [], above_most (stop r) (m ∷ ms)))

length-after : (r : Request) (ms : List Mapping) → length (after r ms) ≡ length (left r ms) + length (new r)
length-after r ms = simp length-append (omega arith)

pub count_rule : (r : Request) (ms : List Mapping) → Run 0 ms → 0 < r.size
    → length (after r ms) + length (flat_map old (operations r ms)) ≡ length ms + length (flat_map rests (operations r ms)) + length (new r)
count_rule r ms run z = rw (olds r ms, flat_map-operations rests (λ m. refl) r ms) (omega (arith, left-count r 0 ms run z, length-after r ms))

-- where one ends behind the range, none behind it is hit
hits-behind : (r : Request) (from : ℕ) (ms : List Mapping) → Run from ms → stop r ≤ from → length (hits r ms) ≡ 0
unfolding hits
hits-behind r from [] run h = refl
hits-behind r from (m ∷ ms) run h = go (hits r (m ∷ ms)) (hits_first r m ms) (hits-behind r (end m) ms run.2 (omega arith))
  where
    go : (hs : List Mapping) → First r m ms hs → length (hits r ms) ≡ 0 → length hs ≡ 0
    go hs (missed n) ih = ih
    go hs (hit k) ih = absurd (omega arith)

-- so only the last one hit is also counted among the parts behind the range
above-hits_most : (r : Request) (from : ℕ) (ms : List Mapping) → Run from ms → length (above (stop r) ms) + length (hits r ms) ≤ length ms + 1
unfolding above hits
above-hits_most r from [] run = omega arith
above-hits_most r from (m ∷ ms) run =
    go (hits r (m ∷ ms)) (hits_first r m ms) (order (end m) (stop r)) (above-hits_most r (end m) ms run.2)
  where
    first : (hs : List Mapping) → First r m ms hs → length hs ≤ suc (length (hits r ms))
    first hs (missed n) = omega arith
    first hs (hit k) = omega arith

    go : (hs : List Mapping) → First r m ms hs → (end m ≤ stop r) ⊎ (stop r < end m)
        → length (above (stop r) ms) + length (hits r ms) ≤ length ms + 1
        → length (above (stop r) (m ∷ ms)) + length hs ≤ suc (length ms) + 1
    go hs f (inl k) ih = rw (prepend-zero (upper_part (stop r) m) (above (stop r) ms) (omega arith)) (omega (arith, first hs f))
    go hs f (inr k) ih =
        omega (arith, first hs f, above_most (stop r) (m ∷ ms), hits-behind r (end m) ms run.2 (omega arith))

left-hits_most : (r : Request) (from : ℕ) (ms : List Mapping) → Run from ms → 0 < r.size → length (left r ms) + length (hits r ms) ≤ length ms + 2
unfolding below above hits
left-hits_most r from [] run z = omega arith
left-hits_most r from (m ∷ ms) run z = go (order (end m) r.address) (hits_first r m ms) (left-hits_most r (end m) ms run.2 z)
  where
    go : (end m ≤ r.address) ⊎ (r.address < end m) → First r m ms (hits r (m ∷ ms)) → length (left r ms) + length (hits r ms) ≤ length ms + 2
        → length (left r (m ∷ ms)) + length (hits r (m ∷ ms)) ≤ suc (length ms) + 2
    go (inl k) f ih = missing (hits r (m ∷ ms)) f
      where
        missing : (hs : List Mapping) → First r m ms hs → length (left r (m ∷ ms)) + length hs ≤ suc (length ms) + 2
        missing hs (missed n) = omega (arith, ap length (left_missed r m ms run.2 run.1 z n))
        missing hs (hit h) = absurd (omega arith)
    go (inr k) f ih = rw (length-append (below r.address (m ∷ ms)) (above (stop r) (m ∷ ms)), none_below r m ms run.2 (omega arith))
        (omega (arith, prepend_most (lower_part r.address m) [], above-hits_most r from (m ∷ ms) run))

-- operations and mappings together: at most two rests come, and a map's mapping, which is an operation too
pub operations-after_most : (r : Request) (ms : List Mapping) → Run 0 ms → 0 < r.size → length (operations r ms) + length (after r ms) ≤ length ms + 4
unfolding operations
operations-after_most r ms run z = rw (length-append (map (operation_of r) (hits r ms)) (map Map (new r)), length-map (hits r ms) (operation_of r), length-map (new r) Map)
    (omega (arith, length-after r ms, left-hits_most r 0 ms run z, new_most r))

pub count_most : (r : Request) (ms : List Mapping) → Run 0 ms → 0 < r.size → length (after r ms) ≤ length ms + 1 + length (new r)
count_most r ms run z = omega (arith, length-after r ms, left_most r 0 ms run z)
