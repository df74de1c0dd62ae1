-- A request by what its rows say: a refusal changes nothing, and rows that pass leave the answer to those behind them.
-- Assumes nothing.
use mathlib.Core.Path.{◌≡◌, refl, sym, ap, subst, ◌∙◌}
use mathlib.Core.List.{List, [], ◌∷◌, ◌++◌, append_assoc}
use Prim.Native.Nat.{ℕ, zero, suc, ◌<◌}
use native.Mathlib.Omega.{arith}
use lib.ListN.{length}
use Rattle.model.specs.declared.Grant.{Grant}
use Rattle.model.specs.declared.Request.{Request}
use Rattle.model.specs.declared.Space.{Space}
use Rattle.model.specs.Rows.{Row, Reply, refused, answered, decide, verdict}
use Rattle.model.specs.Rules.{request_rows}
use Rattle.model.specs.Table.{operations_row}
use Rattle.model.specs.Calls.{Lent, lent_rows, purpose, last_rows, grant_for, Outcome, untouched, outcome_for}
use Rattle.model.specs.Demand3.{IsGrant}
use Rattle.model.proofs.Rows.{and_then, decide-append, decide-verdict, not_both}
use Rattle.request.specs.Bound.{lent_words, checked_rows, Relistable, then, decided, bound, partly_for, partly}
use Rattle.request.proofs.Checked.{relistable}

module _ (l : Lent) (os : List ℕ) (r : Request) where
  abbrev by : List Row → Outcome
  by ws = outcome_for (decide ws (grant_for (purpose r) r l)) (purpose r) r l os

  outcome_then : (ws vs : List Row) → by (ws ++ vs) ≡ then (verdict ws) l os (λ _. by vs)
  outcome_then ws vs = rw (decide-append ws vs (grant_for (purpose r) r l)) (go (verdict ws))
    where
      go : (u : Reply (Unit {0})) → outcome_for (and_then u (decide vs (grant_for (purpose r) r l))) (purpose r) r l os ≡ then u l os (λ _. by vs)
      go (refused n p) = refl
      go (answered v) = refl

  module _ (s : Space) where
    pub bound_by : {u : Reply (Unit {0})} → u ≡ verdict (checked_rows s l (length os) r) → bound s l os r ≡ then u l os (λ _. decided (purpose r) r l os)
    unfolding bound decided
    bound_by e = rw e (outcome_then (checked_rows s l (length os) r) (last_rows (purpose r) r l))

    -- rows of a request's form, in front of the others
    pub form_then : (ws : List Row)
        → by (ws ++ (lent_rows s (operations_row (length os) l.table ∷ []) l ++ (request_rows s r ++ last_rows (purpose r) r l))) ≡ then (verdict ws) l os (λ _. bound s l os r)
    unfolding bound
    form_then ws = rw (← append_assoc (lent_rows s (operations_row (length os) l.table ∷ []) l) (request_rows s r) (last_rows (purpose r) r l)) (outcome_then ws _)

-- ── a request that may have the flag, up to row 10 ──

pub some : (n : ℕ) → (n ≡ 0 → ⊥) → 0 < n
some zero h = absurd (h refl)
some (suc n) h = omega arith

module _ (s : Space) (l : Lent) (os : List ℕ) (r : Request) where
  -- the grant that says that these rows passed
  abbrev pub pass : Grant
  pass = record { operations = 0; count = l.table.count; ranges = l.ranges.count }

  abbrev rows : List Row
  rows = checked_rows s l (length os) r

  pub partly_plain : r.flags ≡ 0 → partly s l os r ≡ bound s l os r
  partly_plain e = ap (λ (f : ℕ). partly_for f s l os r) e

  partly_flagged : 0 < r.flags → partly s l os r ≡ untouched (decide rows pass) l os
  partly_flagged h = go r.flags h
    where
      go : (f : ℕ) → 0 < f → partly_for f s l os r ≡ untouched (decide rows pass) l os
      go zero h = absurd (omega arith)
      go (suc f) h = refl

  pub partly_passed : 0 < r.flags → answered tt ≡ verdict rows → partly s l os r ≡ untouched (answered pass) l os
  partly_passed h e =
      partly_flagged h ∙ ap (λ (a : Reply Grant). untouched a l os) (decide-verdict rows pass ∙ ap (λ u. and_then u (answered pass)) (sym e))

  pub partly_refused : {n p : ℕ} → refused n p ≡ verdict rows → partly s l os r ≡ untouched (refused n p) l os
  partly_refused {n} {p} e = go r.flags
    where
      go : (f : ℕ) → partly_for f s l os r ≡ untouched (refused n p) l os
      go zero = bound_by l os r s e
      go (suc f) = ap (λ (a : Reply Grant). untouched a l os) (decide-verdict rows pass ∙ ap (λ u. and_then u (answered pass)) (sym e))

  -- what was answered and left
  module _ {a : Reply Grant} {ws rs vs : List ℕ} (h : 0 < r.flags) (e : partly s l os r ≡ record { answer = a; table = ws; ranges = rs; operations = vs }) where
    left : untouched (decide rows pass) l os ≡ record { answer = a; table = ws; ranges = rs; operations = vs }
    left = sym (partly_flagged h) ∙ e

    same_table : l.table.words ≡ ws
    same_table = ap (λ (o : Outcome). o.table) left

    same_operations : os ≡ vs
    same_operations = ap (λ (o : Outcome). o.operations) left

    answered_so : a ≡ and_then (verdict rows) (answered pass)
    answered_so = sym (ap (λ (o : Outcome). o.answer) left) ∙ decide-verdict rows pass

    rows_passed : IsGrant a → answered tt ≡ verdict rows
    rows_passed g = go (verdict rows) (sym g.1 ∙ answered_so)
      where
        go : (u : Reply (Unit {0})) → answered g.0 ≡ and_then u (answered pass) → answered tt ≡ u
        go (refused n p) d = absurd (not_both (sym d))
        go (answered v) d = refl

    bound-behind : bound s l os r ≡ then a l os (λ _. decided (purpose r) r l os)
    bound-behind = bound_by l os r s refl ∙ go (verdict rows) ∙ ap (λ (a : Reply Grant). then a l os (λ _. decided (purpose r) r l os)) (sym answered_so)
      where
        go : (u : Reply (Unit {0})) → then u l os (λ _. decided (purpose r) r l os) ≡ then (and_then u (answered pass)) l os (λ _. decided (purpose r) r l os)
        go (refused n p) = refl
        go (answered v) = refl

-- the same of lent words, which these rows left as they were
module _ (s : Space) (rs : List ℕ) (n : ℕ) (ws : List ℕ) (count : ℕ) (os : List ℕ) (r : Request) {a : Reply Grant} {us vs qs : List ℕ} (h : 0 < r.flags)
    (e : partly s (lent_words rs n ws count) os r ≡ record { answer = a; table = us; ranges = qs; operations = vs }) where
  abbrev l : Lent
  l = lent_words rs n ws count

  pub relistable_there : IsGrant a → Relistable r (lent_words rs n us count)
  relistable_there g =
      subst (λ (us : List ℕ). Relistable r (lent_words rs n us count)) (same_table s l os r h e)
      (relistable s l (length os) r (rows_passed s l os r h e g))

  -- what comes behind them
  abbrev rest : List ℕ → Outcome
  rest us = then a (lent_words rs n us count) os (λ _. decided (purpose r) r (lent_words rs n us count) os)

  pub bound_is : {b : Reply Grant} {ps : List ℕ} → rest us ≡ record { answer = b; table = us; ranges = ps; operations = os }
      → bound s l os r ≡ record { answer = b; table = us; ranges = ps; operations = vs }
  bound_is {b} {ps} f =
      bound-behind s l os r h e ∙ ap rest (same_table s l os r h e) ∙ f
      ∙ ap (λ (vs : List ℕ). record { answer = b; table = us; ranges = ps; operations = vs }) (same_operations s l os r h e)

-- their refusal is that of the whole, with the flag or without
pub refused_there : (s : Space) (rs : List ℕ) (k : ℕ) (ws : List ℕ) (count : ℕ) (os : List ℕ) (r : Request) {n p : ℕ} {us vs : List ℕ}
    → partly s (lent_words rs k ws count) os r ≡ record { answer = refused n p; table = us; ranges = rs; operations = vs }
    → bound s (lent_words rs k ws count) os r ≡ record { answer = refused n p; table = us; ranges = rs; operations = vs }
refused_there s rs k ws count os r {n} {p} {us} {vs} e = go r.flags refl
  where
    go : (f : ℕ) → r.flags ≡ f → bound s (lent_words rs k ws count) os r ≡ record { answer = refused n p; table = us; ranges = rs; operations = vs }
    go zero q = sym (partly_plain s (lent_words rs k ws count) os r q) ∙ e
    go (suc f) q = bound_is s rs k ws count os r (omega (arith, q)) e refl
