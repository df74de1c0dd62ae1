-- Demand 2: what byte addresses show in the table that a grant leaves, and that look-ups there are answered.
-- Assumes nothing.
use mathlib.Core.Path.{◌≡◌, refl, sym, ap, subst, ◌∙◌}
use mathlib.Core.Logic.{◌⊎◌, inl, inr}
use mathlib.Core.List.{List, []}
use Prim.Native.Nat.{ℕ, ◌≤◌, ◌<◌}
use native.Mathlib.Omega.{arith}
use lib.ListN.{length}
use Rattle.model.specs.Prelude.{Space, Mapping, Request, Grant}
use Rattle.model.specs.Rows.{answered}
use Rattle.model.specs.Rules.{stop}
use Rattle.model.specs.Table.{Table, capacity, mappings}
use Rattle.model.specs.Cut.{after, translate}
use Rattle.model.specs.Calls.{asked, Lent, lent_rows, Outcome, cut, lent_after, see_in, lookup}
use Rattle.model.specs.Exactly.{TableRules}
use Rattle.model.specs.Grants.{off_mappings, shows, Effect, Demand2}
use Rattle.model.specs.Demand3.{Holds}
use Rattle.model.proofs.Rows.{passes}
use Rattle.model.proofs.Groups.{passed_lent, none_between}
use Rattle.model.proofs.Table.{top, chain_rules}
use Rattle.model.proofs.Store.{rewritten, holds_rewritten, holds_mappings, zeros_behind}
use Rattle.model.proofs.Ask.{Asked}
use Rattle.model.proofs.Granted.{Good, Granting, granting, table_chain, after_chain, relent, good_relent}
use Rattle.model.proofs.Translate.{translate_under, translate_over, translate-map, translate_unmap}

-- a look-up in what passes 1 to 5, 17 and 18 is answered
pub lookup_good : (s : Space) (n : ℕ) (l : Lent) (x : ℕ) → Good s n l → lookup s l x ≡ answered (see_in s l x)
unfolding lookup
lookup_good s n l x g = passes (lent_rows s [] l) (see_in s l x) (passed_lent (none_between g))

effect : (s : Space) (n : ℕ) (r : Request) (l : Lent) → Good s n l → Asked s r → Good s n (relent l (after r (mappings l.table)))
    → length (after r (mappings l.table)) ≤ capacity l.table → Effect s r l (relent l (after r (mappings l.table)))
effect s n r l g a k room = record {
  maps = λ e x h b. shown x ∙ translate-map (off_mappings l x) r ms e x h b;
  unmaps = λ e x h b. shown x ∙ translate_unmap (off_mappings l x) r ms (λ z. omega (arith, z, e)) x h b;
  elsewhere = λ x o. shown x ∙ outside x o;
  valid = subst (TableRules s) (sym there) (chain_rules s 0 (top s) (after r ms) (after_chain s r ms a (table_chain s n l g)));
  zeros = (zeros_behind (length l.table.words) (after r ms), held.length_kept);
  list = refl;
  answers = λ x. lookup_good s n (relent l (after r ms)) x k;
}
  where
    ms : List Mapping
    ms = mappings l.table

    u : Table
    u = rewritten l.table (after r ms)

    held : Holds l.table (after r ms) u
    held = holds_rewritten l.table (after r ms) room

    there : mappings u ≡ after r ms
    there = holds_mappings l.table u (after r ms) held

    shown : (x : ℕ) → shows (relent l (after r ms)) x ≡ translate (off_mappings l x) (after r ms) x
    shown x = ap (λ (ns : List Mapping). translate (off_mappings l x) ns x) there

    outside : (x : ℕ) → (x < r.address) ⊎ (stop r ≤ x) → translate (off_mappings l x) (after r ms) x ≡ shows l x
    outside x (inl h) = translate_under (off_mappings l x) r ms x h
    outside x (inr h) = translate_over (off_mappings l x) r ms x h

pub demand_2 : Demand2
demand_2 s l os q g off e =
    let w : Granting s l os q g = granting s l os q g off e in
    let c = after_chain s r ms w.may (table_chain s (length os) l w.good) in
    let k = good_relent s (length os) l (after r ms) w.good c w.room in
    subst (λ (o : Outcome). Effect s r l (lent_after l o)) (sym w.outcome)
    (subst (λ (g : Grant). Effect s r l (lent_after l (cut g r l os))) (sym w.grant)
    (effect s (length os) r l w.good w.may k w.room))
  where
    r : Request
    r = asked q

    ms : List Mapping
    ms = mappings l.table
