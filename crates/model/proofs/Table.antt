-- A table's rules: kept in words, kept by the tests, and a chain are the same; the place that number 5 answers is the
-- lowest bad one.
-- Assumes nothing.
use mathlib.Core.Path.{◌≡◌, refl, sym, ap, subst, ◌∙◌}
use mathlib.Core.Logic.{◌⊎◌, inl, inr}
use mathlib.Core.Bool.{Bool, true, false}
use mathlib.Core.List.{List, [], ◌∷◌}
use Prim.Native.Nat.{ℕ, suc, ◌+◌, ◌≤◌, ◌<◌}
use native.Mathlib.Omega.{arith}
use lib.Dec.{eqb}
use lib.ListN.{length, take}
use lib.Seq.{take-length}
use Rattle.model.specs.Prelude.{Space, Mapping}
use Rattle.model.specs.Rows.{all}
use Rattle.model.specs.Rules.{end}
use Rattle.model.specs.Table.{fit_tests, bad_place}
use Rattle.model.specs.Exactly.{Each, TableRules}
use Rattle.model.proofs.Actions.{each}
use Rattle.model.proofs.Numbers.{order}
use Rattle.model.proofs.Tests.{tests, Says, all_facts, not_facts}
use Rattle.model.proofs.Rules.{mapping_says}
use Rattle.model.proofs.Run.{Run, run_ascends}
use Rattle.model.proofs.Chain.{Fit, fit_says, Chain, chain_run}

-- where a space ends
abbrev pub top : Space → ℕ
top s = s.start + s.size

-- ── in words ──

pub chain_rules : (s : Space) (from to : ℕ) (ms : List Mapping) → Chain s from to ms → TableRules s ms
chain_rules s from to [] h = (tt, tt)
chain_rules s from to (m ∷ ms) h =
    let k = chain_rules s (end m) to ms h.1 in
    (((mapping_says s m).0 ((fit_says s from m).1 h.0).1, k.0), run_ascends from (m ∷ ms) (chain_run s from to (m ∷ ms) h))

pub rules_chain : (s : Space) (from : ℕ) (ms : List Mapping) → from ≤ top s → Each (λ n. from ≤ n.address) ms → TableRules s ms
    → Chain s from (top s) ms
rules_chain s from [] h k r = h
rules_chain s from (m ∷ ms) h k r =
    let f : Fit s from m = (fit_says s from m).0 (omega tests, (mapping_says s m).1 r.0.0) in
    (f, rules_chain s (end m) ms f.high r.1.0 (r.0.1, r.1.1))

-- ── by the tests ──

-- the first mapping fits and the bad place is among the others, or it is the first
data First (s : Space) (from : ℕ) (m : Mapping) (ms : List Mapping) : Type 0 where
  fits : Fit s from m → bad_place s from (m ∷ ms) ≡ suc (bad_place s (end m) ms) → First s from m ms
  fails : (Fit s from m → ⊥) → bad_place s from (m ∷ ms) ≡ 0 → First s from m ms

bad_first : (s : Space) (from : ℕ) (m : Mapping) (ms : List Mapping) → First s from m ms
unfolding bad_place
bad_first s from m ms = go (all (fit_tests s from m)) refl
  where
    go : (b : Bool) → all (fit_tests s from m) ≡ b → First s from m ms
    go true e = fits ((fit_says s from m).0 (all_facts (fit_tests s from m) e)) (rw (e, bad_place))
    go false e = fails (λ f. not_facts (fit_tests s from m) e ((fit_says s from m).1 f)) (rw (e, bad_place))

-- the mappings before the bad place are a chain, and with the one at it no more
before_bad : (s : Space) (from : ℕ) (ms : List Mapping) → from ≤ top s → Chain s from (top s) (take (bad_place s from ms) ms)
unfolding bad_place
before_bad s from [] h = h
before_bad s from (m ∷ ms) h = go (before_bad s (end m) ms) (bad_first s from m ms)
  where
    go : (end m ≤ top s → Chain s (end m) (top s) (take (bad_place s (end m) ms) ms)) → First s from m ms
        → Chain s from (top s) (take (bad_place s from (m ∷ ms)) (m ∷ ms))
    go ih (fits f e) = subst (λ (n : ℕ). Chain s from (top s) (take n (m ∷ ms))) (sym e) (f, ih f.high)
    go ih (fails n e) = subst (λ (n : ℕ). Chain s from (top s) (take n (m ∷ ms))) (sym e) h

with_bad : (s : Space) (from : ℕ) (ms : List Mapping) → bad_place s from ms < length ms
    → Chain s from (top s) (take (suc (bad_place s from ms)) ms) → ⊥
unfolding bad_place
with_bad s from [] h c = omega arith
with_bad s from (m ∷ ms) h c = go (with_bad s (end m) ms) (bad_first s from m ms)
  where
    go : (bad_place s (end m) ms < length ms → Chain s (end m) (top s) (take (suc (bad_place s (end m) ms)) ms) → ⊥) → First s from m ms → ⊥
    go ih (fits f e) = ih (omega (arith, h, e)) (subst (λ (n : ℕ). Chain s from (top s) (take (suc n) (m ∷ ms))) e c).1
    go ih (fails n e) = n (subst (λ (n : ℕ). Chain s from (top s) (take (suc n) (m ∷ ms))) e c).0

pub bad_most : (s : Space) (from : ℕ) (ms : List Mapping) → bad_place s from ms ≤ length ms
unfolding bad_place
bad_most s from [] = omega arith
bad_most s from (m ∷ ms) = go (bad_most s (end m) ms) (bad_first s from m ms)
  where
    go : bad_place s (end m) ms ≤ length ms → First s from m ms → bad_place s from (m ∷ ms) ≤ suc (length ms)
    go ih (fits f e) = omega (arith, ih, e)
    go ih (fails n e) = omega (arith, e)

pub chain_good : (s : Space) (from to : ℕ) (ms : List Mapping) → Chain s from to ms → bad_place s from ms ≡ length ms
unfolding bad_place
chain_good s from to [] h = refl
chain_good s from to (m ∷ ms) h = go (bad_first s from m ms) (chain_good s (end m) to ms h.1)
  where
    go : First s from m ms → bad_place s (end m) ms ≡ length ms → bad_place s from (m ∷ ms) ≡ suc (length ms)
    go (fits f e) ih = e ∙ ap suc ih
    go (fails n e) ih = absurd (n h.0)

-- ── both ──

pub good_chain : (s : Space) (ms : List Mapping) → bad_place s 0 ms ≡ length ms → Chain s 0 (top s) ms
good_chain s ms e = subst (Chain s 0 (top s)) (ap (λ (n : ℕ). take n ms) e ∙ take-length ms) (before_bad s 0 ms (omega arith))

rules_chain_all : (s : Space) (ms : List Mapping) → TableRules s ms → Chain s 0 (top s) ms
rules_chain_all s ms r = rules_chain s 0 ms (omega arith) (each (λ n. 0 ≤ n.address) ms (λ n i. omega arith)) r

pub rules_run : (s : Space) (ms : List Mapping) → TableRules s ms → Run 0 ms
rules_run s ms r = chain_run s 0 (top s) ms (rules_chain_all s ms r)

pub table_says : (s : Space) (ms : List Mapping) → Says (eqb (bad_place s 0 ms) (length ms) ∷ []) (TableRules s ms)
table_says s ms = (
  λ h. chain_rules s 0 (top s) ms (good_chain s ms (omega tests)),
  λ r. let e = chain_good s 0 (top s) ms (rules_chain_all s ms r) in (omega (tests, e), tt),
)

pub lowest : (s : Space) (ms : List Mapping) (p : ℕ) → (TableRules s ms → ⊥) → bad_place s 0 ms ≡ p
    → (p < length ms) × TableRules s (take p ms) × (TableRules s (take (suc p) ms) → ⊥)
lowest s ms p n e = subst
    (λ (p : ℕ). (p < length ms) × TableRules s (take p ms) × (TableRules s (take (suc p) ms) → ⊥)) e (
      inside,
      chain_rules s 0 (top s) (take (bad_place s 0 ms) ms) (before_bad s 0 ms (omega arith)),
      λ r. let ns : List Mapping = take (suc (bad_place s 0 ms)) ms in with_bad s 0 ms inside (rules_chain_all s ns r),
    )
  where
    inside : bad_place s 0 ms < length ms
    inside = go (order (length ms) (bad_place s 0 ms))
      where
        go : (length ms ≤ bad_place s 0 ms) ⊎ (bad_place s 0 ms < length ms) → bad_place s 0 ms < length ms
        go (inl h) = absurd (n (chain_rules s 0 (top s) ms (good_chain s ms (omega (arith, h, bad_most s 0 ms)))))
        go (inr h) = h
