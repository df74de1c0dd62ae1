-- Tables in order, searched for the mappings that share a byte with a range.
-- Assumes nothing.
use mathlib.Core.Path.{◌≡◌, refl, ap}
use mathlib.Core.Bool.{Bool, true, false}
use mathlib.Core.List.{List, [], ◌∷◌, ◌++◌}
use Prim.Native.Nat.{ℕ, zero, suc, ◌≤◌, ◌<◌}
use native.Mathlib.Omega.{arith}
use lib.ListN.{take, drop}
use borrow.Author.Tests.{ltb-true, ltb-false}
use Rattle.model.specs.declared.Mapping.{Mapping}
use Rattle.model.specs.declared.Request.{Request}
use Rattle.model.specs.Rows.{choose}
use Rattle.model.specs.Rules.{end}
use Rattle.model.specs.Cut.{spared, hits}
use Rattle.model.specs.Exactly.{Each}
use Rattle.model.proofs.Run.{Run}
use Rattle.table.specs.Places.{first_where, starts_behind, ends_behind}

-- ── parts of a run ──

pub run_drop : (from i : ℕ) (ms : List Mapping) → Run from ms → (f : ℕ) × Run f (drop i ms)
run_drop from zero ms h = (from, h)
run_drop from (suc i) [] h = (from, tt)
run_drop from (suc i) (m ∷ ms) h = run_drop (end m) i ms h.2

pub run-left : (from : ℕ) (ms ns : List Mapping) → Run from (ms ++ ns) → Run from ms
run-left from [] ns h = tt
run-left from (m ∷ ms) ns h = (h.0, h.1, run-left (end m) ms ns h.2)

pub each_left : (P : Mapping → Type 0) (ms ns : List Mapping) → Each P (ms ++ ns) → Each P ms
each_left P [] ns h = tt
each_left P (m ∷ ms) ns h = (h.0, each_left P ms ns h.1)

-- all but the last end before it
pub run_before : (from : ℕ) (ms : List Mapping) (n : Mapping) → Run from (ms ++ (n ∷ [])) → Each (λ m. end m ≤ n.address) ms
run_before from [] n h = tt
run_before from (m ∷ ms) n h = (starts (end m) ms h.2, run_before (end m) ms n h.2)
  where
    starts : (from : ℕ) (ms : List Mapping) → Run from (ms ++ (n ∷ [])) → from ≤ n.address
    starts from [] h = h.0
    starts from (m ∷ ms) h = let k = starts (end m) ms h.2 in omega arith

-- ── the first that ends behind a: those before it end at or before a, and all from it on behind a ──

module _ (a : ℕ) where
  pub ends_before : (from : ℕ) (ms : List Mapping) → Run from ms → Each (λ m. (end m ≤ a) × (0 < m.size)) (take (first_where (ends_behind a) ms) ms)
  unfolding first_where
  ends_before from [] h = tt
  ends_before from (m ∷ ms) h = go (ends_behind a m) refl (ends_before (end m) ms h.2)
    where
      go : (b : Bool) → ends_behind a m ≡ b → Each (λ m. (end m ≤ a) × (0 < m.size)) (take (first_where (ends_behind a) ms) ms)
          → Each (λ m. (end m ≤ a) × (0 < m.size)) (take (choose b 0 (suc (first_where (ends_behind a) ms))) (m ∷ ms))
      go true e ih = tt
      go false e ih = ((ltb-false a (end m) e, h.1), ih)

  later : (from : ℕ) (ms : List Mapping) → Run from ms → a < from → Each (λ m. (a < end m) × (0 < m.size)) ms
  later from [] h k = tt
  later from (m ∷ ms) h k = ((omega arith, h.1), later (end m) ms h.2 (omega arith))

  pub ends-behind : (from : ℕ) (ms : List Mapping) → Run from ms → Each (λ m. (a < end m) × (0 < m.size)) (drop (first_where (ends_behind a) ms) ms)
  unfolding first_where
  ends-behind from [] h = tt
  ends-behind from (m ∷ ms) h = go (ends_behind a m) refl (ends-behind (end m) ms h.2)
    where
      go : (b : Bool) → ends_behind a m ≡ b → Each (λ m. (a < end m) × (0 < m.size)) (drop (first_where (ends_behind a) ms) ms)
          → Each (λ m. (a < end m) × (0 < m.size)) (drop (choose b 0 (suc (first_where (ends_behind a) ms))) (m ∷ ms))
      go true e ih = let k = ltb-true a (end m) e in ((k, h.1), later (end m) ms h.2 k)
      go false e ih = ih

-- ── the first that starts behind x: a run from behind x on ──

module _ (x : ℕ) where
  pub starts-behind : (from : ℕ) (ms : List Mapping) → Run from ms → Run (suc x) (drop (first_where (starts_behind x) ms) ms)
  unfolding first_where
  starts-behind from [] h = tt
  starts-behind from (m ∷ ms) h = go (starts_behind x m) refl (starts-behind (end m) ms h.2)
    where
      go : (b : Bool) → starts_behind x m ≡ b → Run (suc x) (drop (first_where (starts_behind x) ms) ms)
          → Run (suc x) (drop (choose b 0 (suc (first_where (starts_behind x) ms))) (m ∷ ms))
      go true e ih = (ltb-true x m.address e, h.1, h.2)
      go false e ih = ih

-- ── the mappings hit, of parts of a table ──

module _ (r : Request) where
  pub hits-append : (ms ns : List Mapping) → hits r (ms ++ ns) ≡ hits r ms ++ hits r ns
  unfolding hits
  hits-append [] ns = refl
  hits-append (m ∷ ms) ns = go (spared r m) (hits-append ms ns)
    where
      go : (b : Bool) → hits r (ms ++ ns) ≡ hits r ms ++ hits r ns
          → choose b (hits r (ms ++ ns)) (m ∷ hits r (ms ++ ns)) ≡ choose b (hits r ms) (m ∷ hits r ms) ++ hits r ns
      go true e = e
      go false e = ap (◌∷◌ m) e

  pub hits_none : (ms : List Mapping) → Each (λ m. spared r m ≡ true) ms → hits r ms ≡ []
  unfolding hits
  hits_none [] h = refl
  hits_none (m ∷ ms) h = rw h.0 (hits_none ms h.1)

  pub hits-all : (ms : List Mapping) → Each (λ m. spared r m ≡ false) ms → hits r ms ≡ ms
  unfolding hits
  hits-all [] h = refl
  hits-all (m ∷ ms) h = rw h.0 (ap (◌∷◌ m) (hits-all ms h.1))
