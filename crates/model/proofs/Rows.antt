-- Laws of a list of rows, and of a table in words.
-- Assumes nothing.
use mathlib.Core.Path.{◌≡◌, refl, sym, ap, subst, ◌∙◌}
use mathlib.Core.Logic.{◌⊎◌, inl, inr}
use Prim.Native.Nat.{ℕ}
use mathlib.Core.Bool.{Bool, true, false}
use mathlib.Core.List.{List, [], ◌∷◌, ◌++◌, append-nil}
use Rattle.model.specs.Rows.{all, Row, Reply, refused, answered, choose, decide, verdict}
use Rattle.model.specs.Exactly.{Each, RefusalTable, line, otherwise, Gives}
use Rattle.model.proofs.Tests.{Alls, Says, all_facts, all_true, not_facts}

-- rows in front of others: their refusal, else what the others say
abbrev pub and_then : {A : Type 0} → Reply (Unit {0}) → Reply A → Reply A
and_then (refused n p) b = refused n p
and_then (answered u) b = b

pub decide-append : {A : Type 0} (ws vs : List Row) (a : A) → decide (ws ++ vs) a ≡ and_then (verdict ws) (decide vs a)
unfolding decide
decide-append [] vs a = refl
decide-append (w ∷ ws) vs a = go (all w.tests) (decide-append ws vs a)
  where
    go : (b : Bool) → decide (ws ++ vs) a ≡ and_then (verdict ws) (decide vs a)
        → choose b (decide (ws ++ vs) a) (refused w.number w.place)
        ≡ and_then (choose b (verdict ws) (refused w.number w.place)) (decide vs a)
    go true ih = ih
    go false ih = refl

-- what the rows say, and then the answer
pub decide-verdict : {A : Type 0} (ws : List Row) (a : A) → decide ws a ≡ and_then (verdict ws) (answered a)
unfolding decide
decide-verdict ws a = rw append-nil at (decide-append ws [] a)

-- ── rows that pass ──

abbrev pub Passed : List Row → Type 0
Passed [] = Unit {0}
Passed (w ∷ ws) = Alls w.tests × Passed ws

pub passed_split : (ws vs : List Row) → Passed (ws ++ vs) → Passed ws × Passed vs
passed_split [] vs h = (tt, h)
passed_split (w ∷ ws) vs h = let k = passed_split ws vs h.1 in ((h.0, k.0), k.1)

pub passed_join : (ws vs : List Row) → Passed ws → Passed vs → Passed (ws ++ vs)
passed_join [] vs h k = k
passed_join (w ∷ ws) vs h k = (h.0, passed_join ws vs h.1 k)

module _ {A : Type 0} where
  abbrev IsRefusal : Reply A → Type 0
  IsRefusal (refused n p) = Unit {0}
  IsRefusal (answered a) = ⊥

  pub not_both : {n p : ℕ} {a : A} → refused n p ≡ answered a → ⊥
  not_both e = subst IsRefusal e tt

  -- past rows that pass, the others decide
  pub past : (ws vs : List Row) (a : A) → Passed ws → decide (ws ++ vs) a ≡ decide vs a
  unfolding decide
  past [] vs a h = refl
  past (w ∷ ws) vs a h =
      ap (λ (b : Bool). choose b (decide (ws ++ vs) a) (refused w.number w.place)) (all_true w.tests h.0) ∙ past ws vs a h.1

  pub passes : (ws : List Row) (a : A) → Passed ws → decide ws a ≡ answered a
  unfolding decide
  passes ws a h = rw append-nil at (past ws [] a h)

  -- an answer passed every row
  pub answered_passed : (ws : List Row) (a b : A) → decide ws a ≡ answered b → Passed ws × (b ≡ a)
  unfolding decide
  answered_passed [] a b e = (tt, sym (answered_same e))
    where
      value : Reply A → A
      value (refused n p) = a
      value (answered c) = c

      answered_same : answered a ≡ answered b → a ≡ b
      answered_same e = ap value e
  answered_passed (w ∷ ws) a b e = go (all w.tests) refl (answered_passed ws a b) e
    where
      go : (t : Bool) → all w.tests ≡ t → (decide ws a ≡ answered b → Passed ws × (b ≡ a))
          → choose t (decide ws a) (refused w.number w.place) ≡ answered b → (Alls w.tests × Passed ws) × (b ≡ a)
      go true q ih e = let k = ih e in ((all_facts w.tests q, k.0), k.1)
      go false q ih e = absurd (not_both e)

  -- rows pass, or refuse
  pub passed_or_refused : (ws : List Row) (a : A) → (Passed ws × (decide ws a ≡ answered a)) ⊎ ((n : ℕ) × (p : ℕ) × (decide ws a ≡ refused n p))
  passed_or_refused ws a = go (decide ws a) refl
    where
      go : (u : Reply A) → decide ws a ≡ u → (Passed ws × (decide ws a ≡ answered a)) ⊎ ((n : ℕ) × (p : ℕ) × (decide ws a ≡ refused n p))
      go (refused n p) e = inr (n, p, e)
      go (answered b) e = let k = answered_passed ws a b e in inl (k.0, e ∙ ap answered k.1)

  -- where only the last row is open, it decides
  abbrev Decides : Row → A → Reply A → Type 0
  Decides w a u = (Alls w.tests × (u ≡ answered a)) ⊎ ((Alls w.tests → ⊥) × (u ≡ refused w.number w.place))

  pub last_row : (ws : List Row) (w : Row) (a : A) → Passed ws → Decides w a (decide (ws ++ w ∷ []) a)
  unfolding decide
  last_row ws w a h = go (all w.tests) refl (past ws (w ∷ []) a h)
    where
      go : (b : Bool) → all w.tests ≡ b → {u : Reply A} → u ≡ choose b (answered a) (refused w.number w.place) → Decides w a u
      go true q e = inl (all_facts w.tests q, e)
      go false q e = inr (not_facts w.tests q, e)

-- what holds of the answer, and of the refusal of each row that does not pass, holds of the reply
pub decide_holds : {A : Type 0} (P : Reply A → Type 0) (ws : List Row) (a : A) → Each (λ w. Alls w.tests ⊎ P (refused w.number w.place)) ws
    → P (answered a) → P (decide ws a)
unfolding decide
decide_holds P [] a h k = k
decide_holds P (w ∷ ws) a h k = go (all w.tests) refl h.0 (decide_holds P ws a h.1 k)
  where
    go : (b : Bool) → all w.tests ≡ b → Alls w.tests ⊎ P (refused w.number w.place) → P (decide ws a)
        → P (choose b (decide ws a) (refused w.number w.place))
    go true e h k = k
    go false e (inl h) k = absurd (not_facts w.tests e h)
    go false e (inr h) k = h

-- ── rows as a table in words, f being how an answer is read ──

module _ {A B : Type 0} (f : Reply A → B) (a : A) where
  -- row by row the same answer and the same rule; a rule that is kept may be used further down
  abbrev pub Match : List Row → RefusalTable B → Type 0
  Match [] (otherwise n) = f (answered a) ≡ n
  Match [] (line n Rule t) = ⊥
  Match (w ∷ ws) (otherwise n) = ⊥
  Match (w ∷ ws) (line n Rule t) = (f (refused w.number w.place) ≡ n) × Says w.tests Rule × (Rule → Match ws t)

  pub match_gives : (ws : List Row) (t : RefusalTable B) → Match ws t → Gives t (f (decide ws a))
  unfolding decide
  match_gives [] (otherwise n) m = m
  match_gives [] (line n Rule t) m = absurd m
  match_gives (w ∷ ws) (otherwise n) m = absurd m
  match_gives (w ∷ ws) (line n Rule t) m = go (all w.tests) refl (λ rule. match_gives ws t (m.2 rule))
    where
      go : (b : Bool) → all w.tests ≡ b → (Rule → Gives t (f (decide ws a)))
          → Gives (line n Rule t) (f (choose b (decide ws a) (refused w.number w.place)))
      go true e rest = let rule : Rule = m.1.0 (all_facts w.tests e) in inr (rule, rest rule)
      go false e rest = inl (λ rule. not_facts w.tests e (m.1.1 rule), m.0)

-- a table gives one answer
pub gives_one : {A : Type 0} (t : RefusalTable A) {a b : A} → Gives t a → Gives t b → a ≡ b
gives_one (otherwise n) p q = p ∙ sym q
gives_one (line n Rule t) (inl p) (inl q) = p.1 ∙ sym q.1
gives_one (line n Rule t) (inl p) (inr q) = absurd (p.0 q.0)
gives_one (line n Rule t) (inr p) (inl q) = absurd (q.0 p.0)
gives_one (line n Rule t) (inr p) (inr q) = gives_one t p.1 q.1
