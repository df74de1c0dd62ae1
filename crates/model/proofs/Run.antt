-- Tables in order: from an address on, one mapping behind the other, none empty; and what cuts make of one.
-- Assumes nothing.
use mathlib.Core.Path.{◌≡◌}
use mathlib.Core.Logic.{◌⊎◌, inl, inr}
use mathlib.Core.List.{List, [], ◌∷◌, ◌++◌}
use Prim.Native.Nat.{ℕ, zero, suc, ◌≤◌, ◌<◌}
use native.Mathlib.Omega.{arith}
use Rattle.model.specs.Prelude.{Mapping, Request}
use Rattle.model.specs.Rules.{end, stop}
use Rattle.model.specs.Cut.{lower_part, upper_part, prepend, below, above, mapping_of, new_for, new, after}
use Rattle.model.specs.Exactly.{Each, Ascends}
use Rattle.model.proofs.Actions.{each_map}
use Rattle.model.proofs.Numbers.{order}
use Rattle.model.proofs.Window.{prepend-zero, prepend_pos, below_over, above_over}

-- from `from` on, in order, none empty
abbrev pub Run : ℕ → List Mapping → Type 0
Run from [] = Unit {0}
Run from (m ∷ ms) = (from ≤ m.address) × (0 < m.size) × Run (end m) ms

pub run-from : (a from : ℕ) (ms : List Mapping) → Run from ms → a ≤ from → Each (λ m. (a ≤ m.address) × (0 < m.size)) ms
run-from a from [] h k = tt
run-from a from (m ∷ ms) h k = (omega arith, run-from a (end m) ms h.2 (omega arith))

pub run_starts : (a from : ℕ) (ms : List Mapping) → Run from ms → a ≤ from → Each (λ m. a ≤ m.address) ms
run_starts a from ms h k = each_map (λ m. (a ≤ m.address) × (0 < m.size)) (λ m. a ≤ m.address) ms (λ m l. l.0) (run-from a from ms h k)

pub run_ascends : (from : ℕ) (ms : List Mapping) → Run from ms → Ascends ms
run_ascends from [] h = tt
run_ascends from (m ∷ ms) h = (run_starts (end m) (end m) ms h.2 (omega arith), run_ascends (end m) ms h.2)

-- nothing of a run is under its start, and all of it is from there on
pub below_none : (a from : ℕ) (ms : List Mapping) → Run from ms → a ≤ from → below a ms ≡ []
below_none a from ms h k = below_over a ms (run_starts a from ms h k)

pub above-all : (b from : ℕ) (ms : List Mapping) → Run from ms → b ≤ from → above b ms ≡ ms
above-all b from ms h k = above_over b ms (run-from b from ms h k)

-- ── after a request ──

run_earlier : (from to : ℕ) (ms : List Mapping) → from ≤ to → Run to ms → Run from ms
run_earlier from to [] h run = tt
run_earlier from to (m ∷ ms) h run = (omega arith, run.1, run.2)

run-above : (b from : ℕ) (ms : List Mapping) → Run from ms → Run b (above b ms)
unfolding above
run-above b from [] run = tt
run-above b from (m ∷ ms) run = go (order (end m) b) (run-above b (end m) ms run.2)
  where
    u : Mapping
    u = upper_part b m

    go : (end m ≤ b) ⊎ (b < end m) → Run b (above b ms) → Run b (prepend u (above b ms))
    go (inl h) ih = rw (prepend-zero u (above b ms) (omega arith)) ih
    go (inr h) ih = rw (prepend_pos u (above b ms) (omega arith), above-all b (end m) ms run.2 (omega arith))
        (omega arith, omega arith, run_earlier (end u) (end m) ms (omega arith) run.2)

-- the parts under a, and others from a on
run-below : (a from : ℕ) (ms ns : List Mapping) → Run from ms → from ≤ a → Run a ns → Run from (below a ms ++ ns)
unfolding below
run-below a from [] ns run h k = run_earlier from a ns h k
run-below a from (m ∷ ms) ns run h k = go (order a m.address) (order a (end m)) (λ l. run-below a (end m) ms ns run.2 l k)
  where
    l : Mapping
    l = lower_part a m

    none : a ≤ end m → below a ms ≡ []
    none q = below_none a (end m) ms run.2 q

    go : (a ≤ m.address) ⊎ (m.address < a) → (a ≤ end m) ⊎ (end m < a) → (end m ≤ a → Run (end m) (below a ms ++ ns))
        → Run from (prepend l (below a ms) ++ ns)
    go (inl p) q ih = rw (prepend-zero l (below a ms) (omega arith), none (omega arith)) (run_earlier from a ns h k)
    go (inr p) (inl q) ih = rw (prepend_pos l (below a ms) (omega arith), none q) (run.0, omega arith, run_earlier (end l) a ns (omega arith) k)
    go (inr p) (inr q) ih = rw (prepend_pos l (below a ms) (omega arith))
        (run.0, omega arith, run_earlier (end l) (end m) (below a ms ++ ns) (omega arith) (ih (omega arith)))

pub run-after : (r : Request) (ms : List Mapping) → Run 0 ms → 0 < r.size → Run 0 (after r ms)
run-after r ms run z = run-below r.address 0 ms (new r ++ above (stop r) ms) run (omega arith) (go r.op)
  where
    go : (op : ℕ) → Run r.address (new_for op (mapping_of r) ++ above (stop r) ms)
    go zero = (omega arith, z, run-above (stop r) 0 ms run)
    go (suc n) = run_earlier r.address (stop r) (above (stop r) ms) (omega arith) (run-above (stop r) 0 ms run)
