-- Calls for one request that go by rows, the one for room the last: their laws from what the rows say. A service with
-- other rows, or another test for room, gives a ByRows of its own.
-- Assumes nothing.
use mathlib.Core.Path.{◌≡◌, sym, ap, subst, ◌∙◌}
use mathlib.Core.Logic.{◌⊎◌, inl, inr}
use mathlib.Core.Bool.{Bool}
use mathlib.Core.List.{List, [], ◌∷◌, ◌++◌, head-eq_of_cons-eq}
use Prim.Native.Nat.{ℕ}
use lib.Dec.{T}
use lib.ListN.{length}
use Rattle.model.specs.Prelude.{Space, Mapping, Request}
use Rattle.model.specs.Rows.{Row, row, Reply, refused, answered, decide}
use Rattle.model.specs.Exactly.{Each}
use Rattle.model.proofs.Actions.{run}
use Rattle.model.proofs.Rows.{Passed, passed_split, passed_or_refused, last_row}
use Rattle.model.proofs.Ask.{Asked}
use Rattle.model.proofs.Service.{Service, ForWhole, View, GrantLaws, CallLaws}

module _ {S C A : Type 0} (act : Request → List Mapping → List Mapping) (v : Service S C A) (w : View S) (space : Space) where
  -- what a proper call's rows say
  pub record ByRows (s : S) (c : C) : Type 1 where
    pub request : Request
    pub asks : v.asks c ≡ request ∷ []
    -- the rows, what they reply with where they pass, and what the call answers and leaves by their reply
    pub front : List Row
    pub room_number : ℕ
    pub room_test : Bool
    pub Value : Type 0
    pub value : Value
    pub answer : Reply Value → A
    pub next : Reply Value → S
    pub answer_is : v.answer s c ≡ answer (decide (front ++ row room_number (room_test ∷ []) ∷ []) value)
    pub next_is : v.next s c ≡ next (decide (front ++ row room_number (room_test ∷ []) ∷ []) value)
    pub grants : v.Granted (answer (answered value))
    pub refuses : (n p : ℕ) → v.Granted (answer (refused n p)) → ⊥
    pub wants : v.Wants c (answer (refused room_number 0))
    pub leaves : (n p : ℕ) → next (refused n p) ≡ s
    -- the rows in front: the state is good and the request may be asked; the last: there is room
    pub says : Passed front → w.Good s × Asked space request
    pub passes : w.Good s → Asked space request → Passed front
    pub room : T room_test → w.Room s (length (act request (w.table s)))
    pub has_room : w.Room s (length (act request (w.table s))) → T room_test
    -- a grant writes the request's cut
    pub holds : w.Good s → w.Room s (length (act request (w.table s))) → v.Holds s (act request (w.table s)) (next (answered value))
    pub kept : w.Good s → Asked space request → w.Room s (length (act request (w.table s))) → w.Good (next (answered value))

  -- the laws of one call
  module _ (s : S) (c : C) (k : ByRows s c) where
    abbrev last : Row
    last = row k.room_number (k.room_test ∷ [])

    abbrev reply : Reply k.Value
    reply = decide (k.front ++ last ∷ []) k.value

    granted : reply ≡ answered k.value → v.Granted (v.answer s c)
    granted e = subst v.Granted (sym (k.answer_is ∙ ap k.answer e)) k.grants

    -- the rows pass, or the call refuses and leaves the state
    decided : (Passed (k.front ++ last ∷ []) × (reply ≡ answered k.value)) ⊎ ((v.Granted (v.answer s c) → ⊥) × (v.next s c ≡ s))
    decided = elim (passed_or_refused (k.front ++ last ∷ []) k.value) [
      | inl h ↦ inl h
      | inr h ↦ inr (
        λ g. k.refuses h.0 h.1 (subst v.Granted (k.answer_is ∙ ap k.answer h.2) g),
        k.next_is ∙ ap k.next h.2 ∙ k.leaves h.0 h.1,
      )
    ]

    refusal : v.Granted (v.answer s c) ⊎ ((v.Granted (v.answer s c) → ⊥) × (v.next s c ≡ s))
    refusal = elim decided [ inl h ↦ inl (granted h.1) | inr h ↦ inr h ]

    grant : v.Granted (v.answer s c) → GrantLaws act v w space s c
    grant g = record {
      good = a.0;
      asked = subst (Each (Asked space)) (sym k.asks) (a.1, tt);
      room = subst (λ (rs : List Request). w.Room s (length (run act rs (w.table s)))) (sym k.asks) room;
      holds = subst (λ (rs : List Request). v.Holds s (run act rs (w.table s)) (v.next s c)) (sym k.asks)
          (subst (v.Holds s _) (sym left) (k.holds a.0 room));
      kept = subst w.Good (sym left) (k.kept a.0 a.1 room);
    }
      where
        e : Passed (k.front ++ last ∷ []) × (reply ≡ answered k.value)
        e = elim decided [ inl h ↦ h | inr h ↦ absurd (h.0 g) ]

        rows : Passed k.front × Passed (last ∷ [])
        rows = passed_split k.front (last ∷ []) e.0

        a : w.Good s × Asked space k.request
        a = k.says rows.0

        room : w.Room s (length (act k.request (w.table s)))
        room = k.room rows.1.0.0

        left : v.next s c ≡ k.next (answered k.value)
        left = k.next_is ∙ ap k.next e.1

    -- where the rows in front pass, only room may be wanting
    past_front : Passed k.front → v.Granted (v.answer s c) ⊎ ((T k.room_test → ⊥) × v.Wants c (v.answer s c))
    past_front h = elim (last_row k.front last k.value h) [
      | inl e ↦ inl (granted e.1)
      | inr e ↦ inr (λ t. e.0 (t, tt), subst (v.Wants c) (sym (k.answer_is ∙ ap k.answer e.1)) k.wants)
    ]

    serves : w.Good s → Each (Asked space) (v.asks c) → v.Granted (v.answer s c) ⊎ v.Wants c (v.answer s c)
    serves g a = elim (past_front (k.passes g (subst (Each (Asked space)) k.asks a).0)) [ inl h ↦ inl h | inr h ↦ inr h.1 ]

    single : (r : Request) → ForWhole v r c → w.Good s → Asked space r → w.Room s (length (act r (w.table s))) → v.Granted (v.answer s c)
    single r f g a h = elim (past_front (k.passes g (subst (Asked space) (sym e) a))) [
      | inl d ↦ d
      | inr d ↦ absurd (d.0 (k.has_room (subst (λ (q : Request). w.Room s (length (act q (w.table s)))) (sym e) h)))
    ]
      where
        e : k.request ≡ r
        e = head-eq_of_cons-eq (sym k.asks ∙ f.2)

  pub calls_by_rows : ((s : S) (c : C) → v.Proper c → ByRows s c) → CallLaws act v w space
  calls_by_rows k = record {
    grant = λ s c p. grant s c (k s c p);
    refusal = λ s c p. refusal s c (k s c p);
    serves = λ s c p. serves s c (k s c p);
    single = λ s c r f. single s c (k s c f.0) r f;
  }
