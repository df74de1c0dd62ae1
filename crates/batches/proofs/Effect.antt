-- Demand 2 of a batch: the last of its requests that names a byte says what it shows.
-- Assumes nothing.
use mathlib.Core.Path.{◌≡◌, refl, sym, ap, subst, ◌∙◌}
use mathlib.Core.Logic.{◌⊎◌, inl, inr}
use mathlib.Core.List.{List, [], ◌∷◌, ◌++◌}
use Prim.Native.Nat.{ℕ, ◌≤◌, ◌<◌}
use native.Mathlib.Omega.{arith}
use lib.ListN.{length}
use Rattle.model.specs.Rules.{stop}
use Rattle.model.specs.Table.{capacity, mappings}
use Rattle.model.specs.Cut.{after, translate}
use Rattle.model.specs.Calls.{Lent}
use Rattle.model.specs.Grants.{off_mappings, shows}
use Rattle.model.specs.declared.Shown.{Shown}
use Rattle.model.proofs.Numbers.{order}
use Rattle.model.proofs.Table.{table_says}
use Rattle.model.proofs.Store.{holds_rewritten, zeros_behind}
use Rattle.model.proofs.Granted.{Good, relent}
use Rattle.model.proofs.Demand2.{lookup_good}
use Rattle.model.proofs.Translate.{translate_under, translate_over, translate-map, translate_unmap}
use Rattle.batches.specs.Prelude.{Space, Mapping, Request, Grant}
use Rattle.batches.specs.Batch.{requests_in, after_all, bind_batch, lent_after_batch}
use Rattle.batches.specs.Grants.{Names, NoneNames, EffectAll}
use Rattle.batches.proofs.Turns.{after-all-append}
use Rattle.batches.proofs.Batch.{Granting, room, leaves, kept}
use Rattle.batches.proofs.Relent.{relent_mappings}

-- ── what a byte address shows, off all mappings `off` ──

module _ (off : Shown) (x : ℕ) where
  translate_unnamed : (r : Request) (ms : List Mapping) → (Names r x → ⊥) → translate off (after r ms) x ≡ translate off ms x
  translate_unnamed r ms n = go (order r.address x) (order (stop r) x)
    where
      go : (r.address ≤ x) ⊎ (x < r.address) → (stop r ≤ x) ⊎ (x < stop r) → translate off (after r ms) x ≡ translate off ms x
      go (inr h) k = translate_under off r ms x h
      go (inl h) (inl k) = translate_over off r ms x k
      go (inl h) (inr k) = absurd (n (h, k))

  translate_none : (rs : List Request) (ms : List Mapping) → NoneNames rs x → translate off (after_all rs ms) x ≡ translate off ms x
  unfolding after_all
  translate_none [] ms n = refl
  translate_none (r ∷ rs) ms n = translate_none rs (after r ms) n.1 ∙ translate_unnamed r ms n.0

  -- requests behind r that don't name the address leave what r says
  translate_last : (rs before behind : List Request) (r : Request) (ms : List Mapping) → rs ≡ before ++ (r ∷ behind) → NoneNames behind x
      → translate off (after_all rs ms) x ≡ translate off (after r (after_all before ms)) x
  unfolding after_all
  translate_last rs before behind r ms e n =
      ap (λ (qs : List Request). translate off (after_all qs ms) x) e
      ∙ ap (λ (ns : List Mapping). translate off ns x) (after-all-append before (r ∷ behind) ms)
      ∙ translate_none behind (after r (after_all before ms)) n

-- ── the claim ──

effect_relent : (s : Space) (n : ℕ) (rs : List Request) (l : Lent) → length (after_all rs (mappings l.table)) ≤ capacity l.table
    → Good s n (relent l (after_all rs (mappings l.table))) → EffectAll s rs l (relent l (after_all rs (mappings l.table)))
effect_relent s n rs l room k = record {
  maps = λ before behind r e o x i m.
      shown x ∙ translate_last (off_mappings l x) x rs before behind r ms e m ∙ translate-map (off_mappings l x) r (after_all before ms) o x i.0 i.1;
  unmaps = λ before behind r e o x i m.
      shown x ∙ translate_last (off_mappings l x) x rs before behind r ms e m
      ∙ translate_unmap (off_mappings l x) r (after_all before ms) (λ z. omega (arith, z, o)) x i.0 i.1;
  elsewhere = λ x m. shown x ∙ translate_none (off_mappings l x) x rs ms m;
  valid = (table_says s (mappings (relent l (after_all rs ms)).table)).0 k.table.places;
  zeros = (zeros_behind (length l.table.words) (after_all rs ms), (holds_rewritten l.table (after_all rs ms) room).length_kept);
  list = refl;
  answers = λ x. lookup_good s n (relent l (after_all rs ms)) x k;
}
  where
    ms : List Mapping
    ms = mappings l.table

    shown : (x : ℕ) → shows (relent l (after_all rs ms)) x ≡ translate (off_mappings l x) (after_all rs ms) x
    shown x = ap (λ (ns : List Mapping). translate (off_mappings l x) ns x) (relent_mappings l (after_all rs ms) room)

pub effect_all : (s : Space) (l : Lent) (ws os bs : List ℕ) (g : Grant) → Granting s l ws os bs g
    → EffectAll s (requests_in bs) l (lent_after_batch l (bind_batch s l ws os bs))
effect_all s l ws os bs g k =
    let e = leaves s l ws os bs g k in
    subst (EffectAll s (requests_in bs) l) (sym e)
    (effect_relent s (length os) (requests_in bs) l (room s l ws os bs g k) (subst (Good s (length os)) e (kept s l ws os bs g k)))
