-- Tables that keep their rules: a chain of mappings that fit, from one address to another. A granted request leaves a
-- chain.
-- Assumes nothing.
use mathlib.Core.Path.{◌≡◌, sym, subst, ◌∙◌}
use mathlib.Core.Logic.{◌⊎◌, inl, inr}
use mathlib.Core.List.{List, [], ◌∷◌, ◌++◌}
use Prim.Native.Nat.{ℕ, ◌+◌, ◌-◌, ◌%◌, ◌≤◌, ◌<◌, min, max}
use native.Mathlib.Omega.{arith}
use Rattle.model.specs.Prelude.{Space, Mapping}
use Rattle.model.specs.Rules.{page, limit, last_object, end}
use Rattle.model.specs.Table.{fit_tests}
use Rattle.model.specs.Cut.{lower_part, upper_part, prepend, below, above, put}
use Rattle.model.proofs.Numbers.{order}
use Rattle.model.proofs.Tests.{tests, Says}
use Rattle.model.proofs.Window.{upper_clamp, prepend-zero, prepend_pos}
use Rattle.model.proofs.Run.{Run, below_none, above-all}

-- the mapping keeps its rules and starts at or after `from`: the tests, in numbers
pub record Fit (s : Space) (from : ℕ) (m : Mapping) : Type 0 where
  pub start : from ≤ m.address
  pub address_page : m.address % page ≡ 0
  pub size_page : m.size % page ≡ 0
  pub offset_page : m.offset % page ≡ 0
  pub size_least : page ≤ m.size
  pub object_least : 1 ≤ m.object
  pub object_most : m.object ≤ last_object
  pub offset_most : m.offset + m.size ≤ limit
  pub low : s.start ≤ m.address
  pub high : end m ≤ s.start + s.size
  pub free : min (end m) (s.reserved.start + s.reserved.size) ≤ max m.address s.reserved.start

pub fit_says : (s : Space) (from : ℕ) (m : Mapping) → Says (fit_tests s from m) (Fit s from m)
fit_says s from m = (λ h. omega tests, λ f. omega tests)

abbrev pub Chain : Space → ℕ → ℕ → List Mapping → Type 0
Chain s from to [] = from ≤ to
Chain s from to (m ∷ ms) = Fit s from m × Chain s (end m) to ms

pub chain_append : (s : Space) (a b c : ℕ) (ms ns : List Mapping) → Chain s a b ms → Chain s b c ns → Chain s a c (ms ++ ns)
chain_append s a b c [] ns h k = chain_from ns k
  where
    fit_from : (m : Mapping) → Fit s b m → Fit s a m
    fit_from m f = omega arith

    chain_from : (ns : List Mapping) → Chain s b c ns → Chain s a c ns
    chain_from [] k = omega arith
    chain_from (m ∷ ns) k = (fit_from m k.0, k.1)
chain_append s a b c (m ∷ ms) ns h k = (h.0, chain_append s (end m) b c ms ns h.1 k)

pub chain_run : (s : Space) (from to : ℕ) (ms : List Mapping) → Chain s from to ms → Run from ms
chain_run s from to [] h = tt
chain_run s from to (m ∷ ms) h = (h.0.start, omega (arith, h.0.size_least), chain_run s (end m) to ms h.1)

-- ── the parts of a mapping that fits, cut at a multiple of a page ──

cut_fit : (s : Space) (from : ℕ) (m : Mapping) → Fit s from m → (z : ℕ) → z % page ≡ 0 → m.address < z → z ≤ end m
    → Fit s from (record { address = m.address; size = z - m.address; object = m.object; offset = m.offset })
cut_fit s from m f z p h k = omega arith

lower_fit : (s : Space) (a from : ℕ) (m : Mapping) → Fit s from m → a % page ≡ 0 → m.address < a → Fit s from (lower_part a m)
lower_fit s a from m f p h =
    cut_fit s from m f (min a (end m)) (omega (arith, f.address_page, f.size_page)) (omega (arith, f.size_least)) (omega arith)

upper_fit : (s : Space) (b from : ℕ) (m : Mapping) → Fit s from m → b % page ≡ 0 → b < end m → Fit s b (upper_part b m)
upper_fit s b from m f p h = subst (Fit s b) (sym (upper_clamp b m))
    (from_inside (max b m.address) (omega (arith, f.address_page)) (omega arith) (omega (arith, f.size_least)) (omega arith))
  where
    from_inside : (y : ℕ) → y % page ≡ 0 → m.address ≤ y → y < end m → b ≤ y → Fit s b (upper_part y m)
    from_inside y p h k l = omega arith

chain_prepend : (s : Space) (from to : ℕ) (m : Mapping) (ms : List Mapping) → Fit s from m → Chain s (end m) to ms → Chain s from to (prepend m ms)
chain_prepend s from to m ms f h = subst (Chain s from to) (sym (prepend_pos m ms (omega (arith, f.size_least)))) (f, h)

chain_below : (s : Space) (a from to : ℕ) (ms : List Mapping) → Chain s from to ms → from ≤ a → a % page ≡ 0 → Chain s from a (below a ms)
unfolding below
chain_below s a from to [] h k p = k
chain_below s a from to (m ∷ ms) h k p =
    go (λ q. chain_below s a (end m) to ms h.1 q p) (order a m.address) (order a (end m))
  where
    go : (end m ≤ a → Chain s (end m) a (below a ms)) → (a ≤ m.address) ⊎ (m.address < a) → (a ≤ end m) ⊎ (end m < a)
        → Chain s from a (prepend (lower_part a m) (below a ms))
    go ih (inl l) q =
        let none = prepend-zero (lower_part a m) (below a ms) (omega (arith, l)) ∙ below_none a (end m) ms (chain_run s (end m) to ms h.1) (omega (arith, l)) in
        subst (Chain s from a) (sym none) k
    go ih (inr l) (inl q) =
        chain_prepend s from a (lower_part a m) (below a ms) (lower_fit s a from m h.0 p l)
        (subst (Chain s (end (lower_part a m)) a) (sym (below_none a (end m) ms (chain_run s (end m) to ms h.1) q)) (omega (arith, l)))
    go ih (inr l) (inr q) =
        chain_prepend s from a (lower_part a m) (below a ms) (lower_fit s a from m h.0 p l)
        (subst (λ (z : ℕ). Chain s z a (below a ms)) (omega (arith, l, q)) (ih (omega (arith, q))))

chain_above : (s : Space) (b from to : ℕ) (ms : List Mapping) → Chain s from to ms → b ≤ to → b % page ≡ 0 → Chain s b to (above b ms)
unfolding above
chain_above s b from to [] h k p = k
chain_above s b from to (m ∷ ms) h k p = go (chain_above s b (end m) to ms h.1 k p) (order (end m) b)
  where
    go : Chain s b to (above b ms) → (end m ≤ b) ⊎ (b < end m) → Chain s b to (prepend (upper_part b m) (above b ms))
    go ih (inl l) = subst (Chain s b to) (sym (prepend-zero (upper_part b m) (above b ms) (omega (arith, l)))) ih
    go ih (inr l) =
        chain_prepend s b to (upper_part b m) (above b ms) (upper_fit s b from m h.0 p l)
        (subst (λ (z : ℕ). Chain s z to (above b ms)) (omega (arith, l, h.0.size_least))
        (subst (Chain s (end m) to) (sym (above-all b (end m) ms (chain_run s (end m) to ms h.1) (omega (arith, l)))) h.1))

-- what a put leaves
pub chain_put : (s : Space) (a b to : ℕ) (new ms : List Mapping) → Chain s 0 to ms → Chain s a b new → b ≤ to → a % page ≡ 0 → b % page ≡ 0
    → Chain s 0 to (put a b new ms)
chain_put s a b to new ms h n k p q =
    chain_append s 0 a to (below a ms) (new ++ above b ms) (chain_below s a 0 to ms h (omega arith) p)
    (chain_append s a b to new (above b ms) n (chain_above s b 0 to ms h k q))
