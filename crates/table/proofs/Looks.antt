-- The search by halves as a loop over words goes, and the place that it finds in a table that passed its check.
-- Assumes nothing.
use mathlib.Core.Path.{◌≡◌, sym, ap, subst, ◌∙◌}
use mathlib.Core.List.{List}
use Prim.Native.Nat.{ℕ, ◌^◌, ◌≤◌, ◌<◌}
use native.Mathlib.Omega.{arith}
use lib.ListN.{length, drop}
use Rattle.model.specs.declared.Mapping.{Mapping}
use Rattle.model.specs.Rules.{limit, end}
use Rattle.model.specs.Table.{mappings_in}
use Rattle.model.specs.Exactly.{Each}
use Rattle.model.proofs.Store.{length-mappings}
use Rattle.table.specs.declared.Search.{Search}
use Rattle.table.specs.Places.{first_where, ends_behind, Valid}
use Rattle.table.specs.Halving.{middle, at, step, halving, Halvable, InOrder, Steppable}
use Rattle.table.proofs.Places.{at_place, from_place, each_at, valid_ascends}
use Rattle.table.specs.Kept.{kept_order}
use Rattle.table.proofs.First.{first_most}
use Rattle.table.proofs.Kept.{widest_kept}
use Rattle.table.proofs.Ends.{ends-behind}
use Rattle.table.proofs.Digits.{binary-digits}
use Rattle.table.proofs.Halving.{finds, Left, left_some, left_step}

-- ── the loop ──

module _ {ms : List Mapping} (o : InOrder ms) (x : ℕ) where
  pub end-at : {m : Mapping} (i : ℕ) → i < length ms → at ms i ≡ m → end m ≤ limit
  end-at i h e =
      let t : end (at ms i) ≤ limit = each_at (λ k. end k ≤ limit) ms i _ o.ends_most h in
      rw e at t

  module _ {s : Search} (g : Left ms x s) where
    pub looks_few : length ms < 2 ^ 64 → 0 < s.left → s.looks < 64
    looks_few l h = omega (arith, (binary-digits (length ms) 64).1 l, left_some ms x g h)

    pub looks_steppable : length ms < 2 ^ 64 → Steppable ms s
    looks_steppable l = record { most = g.within.most; places = omega (arith, g.within.most, l); few = looks_few l }

    pub looks_step : {r : Search} → r ≡ step ms x s → Left ms x r
    looks_step {r} q = subst (Left ms x) (sym q) (left_step ms x g o.ascends)

  pub looks_halvable : {s : Search} {m : Mapping} → Steppable ms s → 0 < s.left → at ms (middle s) ≡ m → Halvable s m
  looks_halvable {s} g h e = record {
    some = h;
    places = g.places;
    few = g.few h;
    end_most = end-at (middle s) (omega (arith, g.most)) e;
  }

  pub place_is : {s : Search} → s ≡ halving ms x → s.lo ≡ first_where (ends_behind x) ms
  place_is e = ap (λ (s : Search). s.lo) e ∙ (finds ms x o.ascends).first

-- ── in a table ──

module _ {ws : List ℕ} {n : ℕ} (v : Valid ws n) where
  abbrev ms : List Mapping
  ms = mappings_in n ws

  pub valid_order : InOrder ms
  valid_order = kept_order ws n (widest_kept v)

  module _ (x : ℕ) where
    abbrev first : ℕ
    first = first_where (ends_behind x) ms

    pub first_place : first ≤ n
    first_place = omega (arith, first_most (ends_behind x) ms, length-mappings n ws)

    -- the mapping there ends behind x
    pub found_ends : {m : Mapping} (i : ℕ) → i ≡ first → i < n → m ≡ at ms i → x < end m
    found_ends {m} i e h r =
        let b : Each (λ k. x < end k) (drop i ms) = rw e (ends-behind x ms (valid_ascends v)) in
        (subst (Each (λ k. x < end k)) (from_place ws n i m h (r ∙ at_place n ws i _ h)) b).0
