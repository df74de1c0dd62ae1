-- What the keep mark means to a driver: where the old mapping's bytes inside the range show after the grant what they
-- showed.
-- Assumes nothing.
use mathlib.Core.Path.{◌≡◌, sym, ap, ap₂, subst, ◌∙◌}
use mathlib.Core.Logic.{◌⊎◌, inl, inr, ◌↔◌}
use mathlib.Core.Bool.{Bool, true, false}
use mathlib.Core.List.Memᴰ
use mathlib.Core.List.{List, [], ◌∷◌}
use Prim.Native.Nat.{ℕ, ◌+◌, ◌-◌, ◌≤◌, ◌<◌}
use native.Mathlib.Omega.{arith}
use lib.ListN.{length}
use Rattle.model.specs.Prelude.{Range, Space, Mapping, Request, Operation, Shown, Sparse, Object}
use Rattle.model.specs.Rows.{all, choose, Reply, answered}
use Rattle.model.specs.Rules.{end, stop}
use Rattle.model.specs.Table.{mappings}
use Rattle.model.specs.Ranges.{in_range_tests, bare}
use Rattle.model.specs.Cut.{mapping_of, hits, operation_of, old}
use Rattle.model.specs.Calls.{asked, Lent, ranges, bind, lent_after, lookup, shown_reply}
use Rattle.model.specs.Exactly.{◌∈◌, TableRules}
use Rattle.model.specs.Grants.{off_mappings, Effect, keep_word, KeepShows}
use Rattle.model.proofs.Numbers.{order}
use Rattle.model.proofs.Translate.{shows-member}
use Rattle.model.proofs.Table.{top, chain_rules}
use Rattle.model.proofs.Hits.{hits_hit}
use Rattle.model.proofs.Operations.{old_only, each_operation}
use Rattle.model.proofs.Agreement.{agree_crosswise}
use Rattle.model.proofs.Keep.{Kept, word_kept}
use Rattle.model.proofs.Ask.{Asked}
use Rattle.model.proofs.Granted.{Good, Granting, granting, table_chain}
use Rattle.model.proofs.Demand2.{lookup_good, demand_2}

-- answers that are alike
same_shown : {o f p g : ℕ} → ◌≡◌ {A = Reply Shown} (answered (Object o f)) (answered (Object p g)) → (o ≡ p) × (f ≡ g)
same_shown e = (cc, cc)

-- off mappings no object is shown
shown_bare : {o f : ℕ} (ys : List Range) (x : ℕ) → ◌≡◌ {A = Reply Shown} (answered (bare ys x)) (answered (Object o f)) → ⊥
unfolding bare
shown_bare [] x e = let z : ◌≡◌ {A = ℕ} 0 1 = cc in omega arith
shown_bare {o} {f} (y ∷ ys) x e = go (all (in_range_tests y x)) (shown_bare ys x) e
  where
    go : (b : Bool) → (◌≡◌ {A = Reply Shown} (answered (bare ys x)) (answered (Object o f)) → ⊥)
        → ◌≡◌ {A = Reply Shown} (answered (choose b Sparse (bare ys x))) (answered (Object o f)) → ⊥
    go true ih e = let z : ◌≡◌ {A = ℕ} 0 1 = cc in omega arith
    go false ih e = ih e

-- a granted request on a table in order: l before it, k after it
module _ (s : Space) (n : ℕ) (r : Request) (l k : Lent) (good : Good s n l) (may : Asked s r) (done : Effect s r l k) where
  abbrev ms : List Mapping
  ms = mappings l.table

  rules : TableRules s ms
  rules = chain_rules s 0 (top s) ms (table_chain s n l good)

  before : (m : Mapping) → m ∈ ms → (x : ℕ) → m.address ≤ x → x < end m → shown_reply (lookup s l x) ≡ answered (Object m.object (m.offset + (x - m.address)))
  before m i x a b = ap shown_reply (lookup_good s n l x good) ∙ ap answered (shows-member (off_mappings l x) ms m x rules.1 i (a, b))

  mapped : r.op ≡ 0 → (x : ℕ) → r.address ≤ x → x < stop r → shown_reply (lookup s k x) ≡ answered (Object r.object (r.offset + (x - r.address)))
  mapped e x a b = ap shown_reply (done.answers x) ∙ ap answered (done.maps e x a b)

  -- a byte of m in the range shows what it showed
  same : (m : Mapping) → m ∈ ms → (x : ℕ) → m.address ≤ x → x < end m → r.address ≤ x → x < stop r
      → Kept r m ↔ (shown_reply (lookup s k x) ≡ shown_reply (lookup s l x))
  same m i x a b lo hi = (stays, kept (order r.op 0))
    where
      stays : Kept r m → shown_reply (lookup s k x) ≡ shown_reply (lookup s l x)
      stays h =
          let c = (agree_crosswise m (mapping_of r)).0 h.1 in
          let f : r.offset + (x - r.address) ≡ m.offset + (x - m.address) = omega (arith, c.1) in
          mapped h.0 x lo hi ∙ ap₂ (λ (o k : ℕ). answered (Object o k)) (sym c.0) f ∙ sym (before m i x a b)

      kept : (r.op ≤ 0) ⊎ (0 < r.op) → shown_reply (lookup s k x) ≡ shown_reply (lookup s l x) → Kept r m
      kept (inl z) h =
          let e : r.op ≡ 0 = omega arith in
          let w = same_shown (sym (mapped e x lo hi) ∙ h ∙ before m i x a b) in
          (e, (agree_crosswise m (mapping_of r)).1 (sym w.0, omega (arith, w.1)))
      kept (inr z) h =
          absurd (shown_bare (ranges l.ranges) x
          (sym (ap shown_reply (done.answers x) ∙ ap answered (done.unmaps (omega (arith, may.form)) x lo hi)) ∙ h ∙ before m i x a b))

pub keep_shows : KeepShows
keep_shows s l os q g off e = each_operation (λ o. (m : Mapping) → m ∈ old o → Shows o m) r (mappings l.table) of_hit (λ n m i. absurd (Memᴰ.not-nil i))
  where
    r : Request
    r = asked q

    k : Lent
    k = lent_after l (bind s l os q)

    w : Granting s l os q g
    w = granting s l os q g off e

    Shows : Operation → Mapping → Type 0
    Shows o m = (x : ℕ) → m.address ≤ x → x < end m → r.address ≤ x → x < stop r → (keep_word o ≡ 1) ↔ (shown_reply (lookup s k x) ≡ shown_reply (lookup s l x))

    of_hit : (m : Mapping) → m ∈ hits r (mappings l.table) → (n : Mapping) → n ∈ old (operation_of r m) → Shows (operation_of r m) n
    of_hit m i n j = subst (Shows (operation_of r m)) (sym (old_only r m n j)) shows
      where
        shows : Shows (operation_of r m) m
        shows x b c lo hi =
            let a = same s (length os) r l k w.good w.may (demand_2 s l os q g off e) m (hits_hit r (mappings l.table) m i).0 x b c lo hi in
            (λ v. a.0 ((word_kept r m).0 v), λ v. (word_kept r m).1 (a.1 v))
