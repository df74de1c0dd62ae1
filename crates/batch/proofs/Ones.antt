-- One request in its turn, by what its rows say; and what a grant keeps.
-- Assumes nothing.
use mathlib.Core.Path.{◌≡◌, refl, sym, ap, subst, ◌∙◌}
use mathlib.Core.Logic.{inl, inr}
use mathlib.Core.List.{List, ◌++◌}
use Prim.Native.Nat.{ℕ, ◌*◌, ◌≤◌}
use native.Mathlib.Omega.{arith}
use lib.Dec.{eqb, eqb→eq}
use lib.ListN.{length}
use Rattle.model.specs.declared.Request.{Request}
use Rattle.model.specs.declared.Space.{Space}
use Rattle.model.specs.Rows.{Row, Reply, refused, answered, decide, verdict}
use Rattle.model.specs.Rules.{form_rows, request_rows}
use Rattle.model.specs.Table.{Table, capacity, mappings, bad_place}
use Rattle.model.specs.Cut.{after}
use Rattle.model.specs.Calls.{numbered, refusal_reply}
use Rattle.model.specs.Demand3.{Holds}
use Rattle.model.proofs.Tests.{tests, or_cases}
use Rattle.model.proofs.Rows.{passed_split, answered_passed, and_then, decide-append}
use Rattle.model.proofs.Groups.{form_passed, request_passed}
use Rattle.model.proofs.Chain.{Chain}
use Rattle.model.proofs.Table.{top, chain_good}
use Rattle.model.proofs.Store.{rewritten, holds_rewritten, holds_mappings, zeros_behind}
use Rattle.model.proofs.Ask.{asked_by as may-ask}
use Rattle.model.proofs.Granted.{after_chain}
use Rattle.batches.specs.Batch.{turn_rows}
use Rattle.batches.specs.Place.{place_in}
use Rattle.batches.proofs.Refusals.{refusal_of}
use Rattle.model.specs.declared.Refusal.{Refusal}
use Rattle.model.specs.declared.Refusal.TheVariants.{BadMapping}
use Rattle.table.specs.Places.{lent}
use Rattle.table.proofs.Places.{valid_chain}
use Rattle.change.specs.declared.Made.{Made}
use Rattle.change.specs.Change.{Changed, changed_for, made, room_rows}
use Rattle.request.specs.Bound.{Checked, bound_known}
use Rattle.batch.specs.Turns.{one}

-- ── by what the record says ──

-- past 14 a request has no flags
pub no_flags : (r : Request) → answered tt ≡ verdict (form_rows 0 r) → r.flags ≡ 0
no_flags r e =
    let k = form_passed 0 r (answered_passed (form_rows 0 r) tt tt (sym e)).0 in
    elim (or_cases (eqb r.flags 0) (eqb r.flags 0) k.flags.0) [ inl e ↦ eqb→eq _ 0 e | inr e ↦ eqb→eq _ 0 e ]

module _ (s : Space) (t : Table) (os : List ℕ) where
  abbrev by : Request → List Row → Changed
  by r ws = changed_for (decide ws (made r t)) r t os

  -- a reply's refusal, or what comes after its answer
  abbrev then : {A : Type 0} → Reply A → (A → Changed) → Changed
  then (refused n p) f = record { reply = refused n p; table = t.words; operations = os }
  then (answered a) f = f a

  changed_then : (r : Request) (ws vs : List Row) → by r (ws ++ vs) ≡ then (verdict ws) (λ _. by r vs)
  changed_then r ws vs = rw (decide-append ws vs (made r t)) (go (verdict ws))
    where
      go : (u : Reply (Unit {0})) → changed_for (and_then u (decide vs (made r t))) r t os ≡ then u (λ _. by r vs)
      go (refused n p) = refl
      go (answered v) = refl

  -- u is what the rows of its form say
  pub form_by : (r : Request) {u : Reply (Unit {0})} → u ≡ verdict (form_rows 0 r) → one s t os r ≡ then u (λ _. bound_known s t os r)
  unfolding one bound_known
  form_by r e = changed_then r (form_rows 0 r) _ ∙ ap (λ u. then u (λ _. by r (request_rows s r ++ room_rows r t (length os)))) (sym e)

-- ── the place of its refusal ──

reply_is : (s : Space) (t : Table) (os : List ℕ) (d : Reply Made) (r : Request) → (changed_for d r t os).reply ≡ d
reply_is s t os (refused n p) r = refl
reply_is s t os (answered g) r = refl

not_own : (w : Refusal) (p : ℕ) → ((numbered w).0 ≡ 5 → ⊥) → place_in w p ≡ p
not_own (BadMapping q) p h = absurd (h refl)
not_own _ p h = refl

-- no row of a request in its turn is 5
pub turn_place : (s : Space) (t : Table) (os : List ℕ) (r : Request) (w : Refusal) (p : ℕ) {us vs : List ℕ}
    → one s t os r ≡ record { reply = refusal_reply w; table = us; operations = vs } → place_in w p ≡ p
unfolding one form_rows request_rows
turn_place s t os r w p e =
    not_own w p (refusal_of (λ n q. n ≡ 5 → ⊥) (turn_rows s (capacity t) (length os) r (mappings t)) (made r t) _ _
    (λ e. cc, (λ e. cc, (λ e. cc, (λ e. cc, (λ e. cc, (λ e. cc, (λ e. cc, (λ e. cc, (λ e. cc, tt)))))))))
    (sym (reply_is s t os _ r) ∙ ap (λ (o : Changed). o.reply) e))

-- ── what a grant keeps ──

module _ (s : Space) (t : Table) (os : List ℕ) where
  chain : Checked s t → Chain s 0 (top s) (mappings t)
  chain c = subst (λ (s : Space). Chain s 0 (top s) (mappings t)) c.table.1 (valid_chain c.table.0)

  rewritten_checked : (r : Request) → Checked s t → Chain s 0 (top s) (after r (mappings t)) → length (after r (mappings t)) ≤ capacity t
      → Checked s (rewritten t (after r (mappings t)))
  rewritten_checked r c h room = record {
    space = c.space;
    table = (
      record {
        held = omega (arith, held.length_kept, room);
        space = s;
        top = omega (tests, c.space);
        kept = ap (bad_place s 0) (holds_mappings t (rewritten t (after r (mappings t))) (after r (mappings t)) held) ∙ chain_good s 0 (top s) (after r (mappings t)) h;
      },
      refl,
    );
    behind = rw held.length_kept (zeros_behind (length t.words) (after r (mappings t)));
  }
    where
      held : Holds t (after r (mappings t)) (rewritten t (after r (mappings t)))
      held = holds_rewritten t (after r (mappings t)) room

  pub record Kept (r : Request) (g : Made) : Type 0 where
    pub checked : Checked s (lent (one s t os r).table g.count)
    pub fits : 14 * g.operations ≤ length os

  pub kept : (r : Request) (g : Made) → Checked s t → (one s t os r).reply ≡ answered g → Kept r g
  unfolding one
  kept r g c e =
      let d = sym (reply_is s t os _ r) ∙ e in
      let p = answered_passed (turn_rows s (capacity t) (length os) r (mappings t)) (made r t) g d in
      let form = passed_split (form_rows 0 r) _ p.0 in
      let ask = passed_split (request_rows s r) _ form.1 in
      let room : length (after r (mappings t)) ≤ capacity t = omega (tests, ask.1.0) in
      let after-all = after_chain s r (mappings t) (may-ask (λ e. e) (form_passed 0 r form.0) (request_passed s r ask.0)) (chain c) in
      let out = ap (λ (d : Reply Made). changed_for d r t os) (d ∙ ap answered p.1) in
      record {
        checked = subst (λ (o : Changed). Checked s (lent o.table g.count)) (sym out)
            (subst (λ (g : Made). Checked s (lent (rewritten t (after r (mappings t))).words g.count)) (sym p.1) (rewritten_checked r c after-all room));
        fits = subst (λ (g : Made). 14 * g.operations ≤ length os) (sym p.1) (omega (tests, ask.1.1.0));
      }
