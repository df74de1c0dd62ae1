-- An operation's words are laid out as document 01 has them, and 14 words are read as the operation that they say.
-- Assumes nothing.
use mathlib.Core.Path.{◌≡◌, refl, sym, ap, ap₂, subst, ◌∙◌}
use mathlib.Core.Logic.{◌↔◌}
use mathlib.Core.Bool.{Bool, true, false}
use Rattle.std.specs.Prelude.{None, Option, Some}
use mathlib.Core.List.Memᴰ
use mathlib.Core.List.{List, [], ◌∷◌, map}
use Prim.Native.Nat.{ℕ, zero, suc, ◌<◌}
use native.Mathlib.Omega.{arith}
use lib.Dec.{eqb}
use lib.ListN.{length, get_or}
use borrow.Author.Tests.{eqb-true, eqb-false, eq-eqb, ne_eqb}
use Rattle.model.specs.Prelude.{Mapping, Request, Lower, Upper, Both, Operation, Map, Remap, Unmap}
use Rattle.model.specs.Rows.{choose}
use Rattle.model.specs.Rules.{stop}
use Rattle.model.specs.Table.{mapping_from}
use Rattle.model.specs.Cut.{lower_part, upper_part, new, hits, operation_for, operation_of, operations, rests}
use Rattle.model.specs.Layout.{is_absent, rests_by, operation_by, operation_in, words_of_operation}
use Rattle.model.specs.Exactly.{Each}
use Rattle.model.specs.Grants.{rest_laid, OperationLayout, SameWords, Spells, OperationReading}
use Rattle.model.proofs.Tests.{tests, all_facts, all_true, all_false, not_facts}
use Rattle.model.proofs.Actions.{each_map, each_append}

pub operation_layout : OperationLayout
operation_layout (Map m) = refl
operation_layout (Unmap keep m) = refl
operation_layout (Remap keep m (Lower l)) = refl
operation_layout (Remap keep m (Upper u)) = refl
operation_layout (Remap keep m (Both l u)) = refl

pub operation_length : (o : Operation) → length (words_of_operation o) ≡ 14
operation_length (Map m) = ap length (operation_layout (Map m))
operation_length (Unmap keep m) = ap length (operation_layout (Unmap keep m))
operation_length (Remap keep m (Lower l)) = ap length (operation_layout (Remap keep m (Lower l)))
operation_length (Remap keep m (Upper u)) = ap length (operation_layout (Remap keep m (Upper u)))
operation_length (Remap keep m (Both l u)) = ap length (operation_layout (Remap keep m (Both l u)))

-- ── an absent rest ──

abbrev Zeros : Mapping → Type 0
Zeros m = (m.address ≡ 0) × (m.size ≡ 0) × (m.object ≡ 0) × (m.offset ≡ 0)

abbrev absent_tests : Mapping → List Bool
absent_tests m = eqb m.address 0 ∷ eqb m.size 0 ∷ eqb m.object 0 ∷ eqb m.offset 0 ∷ []

absent_zeros : (m : Mapping) → is_absent m ≡ true → Zeros m
absent_zeros m e = let h = all_facts (absent_tests m) e in (omega tests, omega tests, omega tests, omega tests)

zeros_absent : (m : Mapping) → Zeros m → is_absent m ≡ true
zeros_absent m z = all_true (absent_tests m) (omega tests)

zeros_laid : (m : Mapping) → Zeros m → rest_laid m ≡ 0 ∷ 0 ∷ 0 ∷ 0 ∷ []
zeros_laid m z = λ i. z.0 i ∷ z.1 i ∷ z.2 i ∷ z.3 i ∷ []

present : (m : Mapping) → is_absent m ≡ false → rest_laid m ≡ 0 ∷ 0 ∷ 0 ∷ 0 ∷ [] → ⊥
present m e h = not_facts (absent_tests m) e (omega (tests, word 0, word 1, word 2, word 3))
  where
    word : (i : ℕ) → get_or (rest_laid m) i 0 ≡ get_or (0 ∷ 0 ∷ 0 ∷ 0 ∷ []) i 0
    word i = ap (λ (ws : List ℕ). get_or ws i 0) h

present_false : (m : Mapping) → (rest_laid m ≡ 0 ∷ 0 ∷ 0 ∷ 0 ∷ [] → ⊥) → is_absent m ≡ false
present_false m n = all_false (absent_tests m) (λ h. n (zeros_laid m (omega tests, omega tests, omega tests, omega tests)))

-- ── words and what they say ──

module _ (ws : List ℕ) where
  abbrev M : Mapping
  M = mapping_from 2 ws

  abbrev L : Mapping
  L = mapping_from 6 ws

  abbrev U : Mapping
  U = mapping_from 10 ws

  abbrev keep : Bool
  keep = eqb (get_or ws 1 0) 1

  by_parts : {k : ℕ} {a b : Bool} → get_or ws 0 0 ≡ k → is_absent L ≡ a → is_absent U ≡ b
      → operation_in ws ≡ operation_by k keep M (rests_by a b L U)
  unfolding operation_in
  by_parts p q r = λ i. operation_by (p i) keep M (rests_by (q i) (r i) L U)

  abbrev mark : Bool → ℕ
  mark k = choose k 1 0

  kept : (k : Bool) → keep ≡ k → (get_or ws 1 0 ≡ 1) ↔ (mark k ≡ 1)
  kept true e = (λ _. refl, λ _. eqb-true (get_or ws 1 0) 1 e)
  kept false e = (λ h. absurd (eqb-false (get_or ws 1 0) 1 e h), λ h. absurd (omega (arith, h)))

  spells_map : get_or ws 0 0 ≡ 0 → Zeros L → Zeros U → Spells ws (Map M)
  spells_map p l u = record {
    words = (p, (refl, (refl, (refl, (refl, (l.0, (l.1, (l.2, (l.3, (u.0, (u.1, (u.2, (u.3, tt)))))))))))));
    keep = λ m i. absurd (Memᴰ.not-nil i);
    there = tt;
  }

  spells_unmap : get_or ws 0 0 ≡ 2 → Zeros L → Zeros U → Spells ws (Unmap keep M)
  spells_unmap p l u = record {
    words = (p, (refl, (refl, (refl, (refl, (l.0, (l.1, (l.2, (l.3, (u.0, (u.1, (u.2, (u.3, tt)))))))))))));
    keep = λ m i. kept keep refl;
    there = tt;
  }

  spells_lower : get_or ws 0 0 ≡ 1 → is_absent L ≡ false → Zeros U → Spells ws (Remap keep M (Lower L))
  spells_lower p l u = record {
    words = (p, (refl, (refl, (refl, (refl, (refl, (refl, (refl, (refl, (u.0, (u.1, (u.2, (u.3, tt)))))))))))));
    keep = λ m i. kept keep refl;
    there = (present L l, tt);
  }

  spells_upper : get_or ws 0 0 ≡ 1 → Zeros L → is_absent U ≡ false → Spells ws (Remap keep M (Upper U))
  spells_upper p l u = record {
    words = (p, (refl, (refl, (refl, (refl, (l.0, (l.1, (l.2, (l.3, (refl, (refl, (refl, (refl, tt)))))))))))));
    keep = λ m i. kept keep refl;
    there = (present U u, tt);
  }

  spells_both : get_or ws 0 0 ≡ 1 → is_absent L ≡ false → is_absent U ≡ false → Spells ws (Remap keep M (Both L U))
  spells_both p l u = record {
    words = (p, (refl, (refl, (refl, (refl, (refl, (refl, (refl, (refl, (refl, (refl, (refl, (refl, tt)))))))))))));
    keep = λ m i. kept keep refl;
    there = (present L l, (present U u, tt));
  }

  never : {A : Type 0} {o : Operation} → None ≡ Some o → A
  never e = absurd (subst Empty e tt)
    where
      Empty : Option Operation → Type 0
      Empty None = Unit {0}
      Empty (Some o) = ⊥

  to : {o p : Operation} → Some p ≡ Some o → Spells ws p → Spells ws o
  to {o} {p} e h = let same : p ≡ o = cc in subst (Spells ws) same h

  read_spells : (o : Operation) → operation_in ws ≡ Some o → Spells ws o
  read_spells o e = go (get_or ws 0 0) (is_absent L) (is_absent U) refl refl refl
    where
      at : {k : ℕ} {a b : Bool} → get_or ws 0 0 ≡ k → is_absent L ≡ a → is_absent U ≡ b → operation_by k keep M (rests_by a b L U) ≡ Some o
      at p q r = sym (by_parts p q r) ∙ e

      go : (k : ℕ) (a b : Bool) → get_or ws 0 0 ≡ k → is_absent L ≡ a → is_absent U ≡ b → Spells ws o
      go zero true true p q r = to (at p q r) (spells_map p (absent_zeros L q) (absent_zeros U r))
      go zero true false p q r = never (at p q r)
      go zero false true p q r = never (at p q r)
      go zero false false p q r = never (at p q r)
      go (suc zero) true true p q r = never (at p q r)
      go (suc zero) true false p q r = to (at p q r) (spells_upper p (absent_zeros L q) r)
      go (suc zero) false true p q r = to (at p q r) (spells_lower p q (absent_zeros U r))
      go (suc zero) false false p q r = to (at p q r) (spells_both p q r)
      go (suc (suc zero)) true true p q r = to (at p q r) (spells_unmap p (absent_zeros L q) (absent_zeros U r))
      go (suc (suc zero)) true false p q r = never (at p q r)
      go (suc (suc zero)) false true p q r = never (at p q r)
      go (suc (suc zero)) false false p q r = never (at p q r)
      go (suc (suc (suc k))) a b p q r = never (at p q r)

  -- a mapping word by word
  is : (i : ℕ) (m : Mapping) → get_or ws i 0 ≡ m.address → get_or ws (suc i) 0 ≡ m.size → get_or ws (suc (suc i)) 0 ≡ m.object
      → get_or ws (suc (suc (suc i))) 0 ≡ m.offset
      → ◌≡◌ {A = Mapping} (record { address = get_or ws i 0; size = get_or ws (suc i) 0; object = get_or ws (suc (suc i)) 0; offset = get_or ws (suc (suc (suc i))) 0 }) m
  is i m a s o f = λ j. record { address = a j; size = s j; object = o j; offset = f j }

  keep_is : (k : Bool) → (get_or ws 1 0 ≡ 1) ↔ (mark k ≡ 1) → keep ≡ k
  keep_is true h = eq-eqb (get_or ws 1 0) 1 (h.1 refl)
  keep_is false h = ne_eqb (get_or ws 1 0) 1 (λ e. omega (arith, h.0 e))

  spells_read : (o : Operation) → Spells ws o → operation_in ws ≡ Some o
  spells_read (Map m) h = go h.words
    where
      go : SameWords ws (words_of_operation (Map m)) → operation_in ws ≡ Some (Map m)
      go (k, (a, (s, (o, (f, (l0, (l1, (l2, (l3, (u0, (u1, (u2, (u3, _))))))))))))) =
          by_parts k (zeros_absent L (l0, l1, l2, l3)) (zeros_absent U (u0, u1, u2, u3)) ∙ ap (λ (n : Mapping). Some (Map n)) (is 2 m a s o f)
  spells_read (Unmap keep m) h = go h.words
    where
      go : SameWords ws (words_of_operation (Unmap keep m)) → operation_in ws ≡ Some (Unmap keep m)
      go (k, (a, (s, (o, (f, (l0, (l1, (l2, (l3, (u0, (u1, (u2, (u3, _))))))))))))) =
          by_parts k (zeros_absent L (l0, l1, l2, l3)) (zeros_absent U (u0, u1, u2, u3))
          ∙ ap₂ (λ (b : Bool) (n : Mapping). Some (Unmap b n)) (keep_is keep (h.keep m (Memᴰ.head refl))) (is 2 m a s o f)
  spells_read (Remap keep m (Lower l)) h = go h.words
    where
      go : SameWords ws (words_of_operation (Remap keep m (Lower l))) → operation_in ws ≡ Some (Remap keep m (Lower l))
      go (k, (a, (s, (o, (f, (l0, (l1, (l2, (l3, (u0, (u1, (u2, (u3, _))))))))))))) =
          let e = is 6 l l0 l1 l2 l3 in
          by_parts k (ap is_absent e ∙ present_false l h.there.0) (zeros_absent U (u0, u1, u2, u3))
          ∙ λ i. Some (Remap (keep_is keep (h.keep m (Memᴰ.head refl)) i) (is 2 m a s o f i) (Lower (e i)))
  spells_read (Remap keep m (Upper u)) h = go h.words
    where
      go : SameWords ws (words_of_operation (Remap keep m (Upper u))) → operation_in ws ≡ Some (Remap keep m (Upper u))
      go (k, (a, (s, (o, (f, (l0, (l1, (l2, (l3, (u0, (u1, (u2, (u3, _))))))))))))) =
          let e = is 10 u u0 u1 u2 u3 in
          by_parts k (zeros_absent L (l0, l1, l2, l3)) (ap is_absent e ∙ present_false u h.there.0)
          ∙ λ i. Some (Remap (keep_is keep (h.keep m (Memᴰ.head refl)) i) (is 2 m a s o f i) (Upper (e i)))
  spells_read (Remap keep m (Both l u)) h = go h.words
    where
      go : SameWords ws (words_of_operation (Remap keep m (Both l u))) → operation_in ws ≡ Some (Remap keep m (Both l u))
      go (k, (a, (s, (o, (f, (l0, (l1, (l2, (l3, (u0, (u1, (u2, (u3, _))))))))))))) =
          let d = is 6 l l0 l1 l2 l3 in
          let e = is 10 u u0 u1 u2 u3 in
          by_parts k (ap is_absent d ∙ present_false l h.there.0) (ap is_absent e ∙ present_false u h.there.1.0)
          ∙ λ i. Some (Remap (keep_is keep (h.keep m (Memᴰ.head refl)) i) (is 2 m a s o f i) (Both (d i) (e i)))

-- ── a request's own ──

-- read as it was written
abbrev pub Own : Operation → Type 0
Own o = operation_in (words_of_operation o) ≡ Some o

own_spells : (o : Operation) → Each (λ m. 0 < m.size) (rests o) → Spells (words_of_operation o) o
own_spells o h = record {
  words = same_words (words_of_operation o);
  keep = λ n i. (λ e. e, λ e. e);
  there = each_map (λ m. 0 < m.size) (λ m. rest_laid m ≡ 0 ∷ 0 ∷ 0 ∷ 0 ∷ [] → ⊥) (rests o)
      (λ m z e. omega (arith, z, ap (λ (ws : List ℕ). get_or ws 1 0) e)) h;
}
  where
    same_words : (ws : List ℕ) → SameWords ws ws
    same_words ws = (refl, (refl, (refl, (refl, (refl, (refl, (refl, (refl, (refl, (refl, (refl, (refl, (refl, tt)))))))))))))

-- the rests of a mapping hit are not empty
own_operation : (r : Request) (m : Mapping) → Own (operation_of r m)
own_operation r m = spells_read (words_of_operation (operation_of r m)) (operation_of r m) (own_spells (operation_of r m) (go l.size u.size refl refl _))
  where
    l : Mapping
    l = lower_part r.address m

    u : Mapping
    u = upper_part (stop r) m

    go : (i j : ℕ) → l.size ≡ i → u.size ≡ j → (keep : Bool) → Each (λ n. 0 < n.size) (rests (operation_for i j keep m l u))
    go zero zero p q keep = tt
    go (suc i) zero p q keep = (omega (arith, p), tt)
    go zero (suc j) p q keep = (omega (arith, q), tt)
    go (suc i) (suc j) p q keep = (omega (arith, p), (omega (arith, q), tt))

pub own_operations : (r : Request) (ms : List Mapping) → Each Own (operations r ms)
unfolding operations
own_operations r ms = each_append Own (map (operation_of r) (hits r ms)) (map Map (new r)) (olds (hits r ms)) (news (new r))
  where
    olds : (hs : List Mapping) → Each Own (map (operation_of r) hs)
    olds [] = tt
    olds (m ∷ hs) = (own_operation r m, olds hs)

    news : (ns : List Mapping) → Each Own (map Map ns)
    news [] = tt
    news (n ∷ ns) = (spells_read (words_of_operation (Map n)) (Map n) (own_spells (Map n) tt), news ns)

pub operation_reading : OperationReading
operation_reading = record {
  exactly = λ ws o. (read_spells ws o, spells_read ws o);
  own = own_operations;
  pinned = λ a b e. e;
}
