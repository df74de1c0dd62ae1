-- What the loop leaves is what the definition says: the first row that applies is the answer, and a grant leaves what
-- all requests make of the table.
-- Assumes nothing.
use mathlib.Core.Path.{◌≡◌, refl, sym, ap, ap₂, ◌∙◌}
use mathlib.Core.Bool.{Bool, true, false}
use mathlib.Core.List.{List, [], ◌∷◌, ◌++◌, flat_map, append_assoc}
use Prim.Native.Nat.{ℕ, suc, ◌+◌, ◌-◌, ◌*◌, ◌≤◌}
use native.Mathlib.Omega.{arith}
use lib.ListN.{length, drop, length-append, length-drop}
use lib.Seq.{take_at, drop_at, drop-drop}
use Rattle.model.specs.declared.Mapping.{Mapping}
use Rattle.model.specs.declared.Request.{Request}
use Rattle.model.specs.declared.Space.{Space}
use Rattle.model.specs.Rows.{all, choose, Row, placed, Reply, refused, answered, decide}
use Rattle.model.specs.Rules.{form_rows, request_rows}
use Rattle.model.specs.Table.{Table, capacity, mappings, written}
use Rattle.model.specs.Cut.{after, operations}
use Rattle.model.specs.Layout.{words_of_operation}
use Rattle.model.proofs.Tests.{tests}
use Rattle.model.proofs.Rows.{Passed, passed_split, answered_passed, not_both}
use Rattle.model.proofs.Store.{rewritten, holds_rewritten, holds_mappings, holds_capacity}
use Rattle.model.proofs.Operations.{flat_map-append, operations-words}
use Rattle.batches.specs.Batch.{turn_rows, turns_rows, after_all, operations_all}
use Rattle.table.specs.Places.{lent}
use Rattle.change.specs.declared.Made.{Made}
use Rattle.change.specs.Change.{Changed, changed_for, made}
use Rattle.batch.specs.Turns.{one, more, behind, next, turned}

-- ── rows with a place ──

abbrev there : {A B : Type 0} → ℕ → Reply A → Reply B → Reply B
there p (refused n q) b = refused n p
there p (answered a) b = b

placed_decides : {A B : Type 0} (p : ℕ) (ws vs : List Row) (a : A) (b : B) → decide (placed p ws ++ vs) b ≡ there p (decide ws a) (decide vs b)
unfolding decide
placed_decides p [] vs a b = refl
placed_decides p (w ∷ ws) vs a b = go (all w.tests) (placed_decides p ws vs a b)
  where
    go : (t : Bool) → decide (placed p ws ++ vs) b ≡ there p (decide ws a) (decide vs b)
        → choose t (decide (placed p ws ++ vs) b) (refused w.number p) ≡ there p (choose t (decide ws a) (refused w.number w.place)) (decide vs b)
    go true ih = ih
    go false ih = refl

more_decides : (k : ℕ) (ws : List Row) (g : Made) → more k (decide ws g) ≡ decide ws (record { operations = k + g.operations; count = g.count })
unfolding decide
more_decides k [] g = refl
more_decides k (w ∷ ws) g = go (all w.tests) (more_decides k ws g)
  where
    go : (t : Bool) → more k (decide ws g) ≡ decide ws (record { operations = k + g.operations; count = g.count })
        → more k (choose t (decide ws g) (refused w.number w.place)) ≡ choose t (decide ws (record { operations = k + g.operations; count = g.count })) (refused w.number w.place)
    go true ih = ih
    go false ih = refl

-- ── the law ──

-- the numbers of all operations and of the mappings afterwards
abbrev pub made_all : List Request → List Mapping → Made
made_all rs ms = record { operations = length (operations_all rs ms); count = length (after_all rs ms) }

-- zeros behind the last mapping
abbrev pub Whole : Table → Type 0
Whole t = (t.words ≡ written (length t.words) (mappings t)) × (length (mappings t) ≡ t.count)

pub record Is (s : Space) (p : ℕ) (rs : List Request) (t : Table) (os : List ℕ) : Type 0 where
  pub reply : (turned s p rs t os).reply ≡ decide (turns_rows s (capacity t) (length os) p rs (mappings t)) (made_all rs (mappings t))
  pub leaves : (g : Made) → (turned s p rs t os).reply ≡ answered g
      → ((turned s p rs t os).table ≡ written (length t.words) (after_all rs (mappings t)))
      × ((turned s p rs t os).operations ≡ flat_map words_of_operation (operations_all rs (mappings t)) ++ drop (14 * length (operations_all rs (mappings t))) os)

-- an answer with more operations is a grant only if the answer is
more_granted : (k : ℕ) (a : Reply Made) (g : Made) → more k a ≡ answered g → (h : Made) × (a ≡ answered h)
more_granted k (refused n p) g e = absurd (not_both e)
more_granted k (answered h) g e = (h, refl)

room_of : (s : Space) (c n : ℕ) (r : Request) (ms : List Mapping) → Passed (turn_rows s c n r ms) → length (after r ms) ≤ c
room_of s c n r ms h =
    let a = passed_split (form_rows 0 r) _ h in
    let b = passed_split (request_rows s r) _ a.1 in
    omega (tests, b.1.0)

abbrev left : Table → Request → Table
left t r = rewritten t (after r (mappings t))

whole-left : (t : Table) (r : Request) → length (after r (mappings t)) ≤ capacity t → Whole (left t r)
whole-left t r room =
    let h = holds_rewritten t (after r (mappings t)) room in
    let e = holds_mappings t (left t r) (after r (mappings t)) h in
    (ap₂ written (sym h.length_kept) (sym e), ap length e)

step : (s : Space) (p : ℕ) (r : Request) (rs : List Request) (t : Table) (os : List ℕ)
    → (length (after r (mappings t)) ≤ capacity t → Is s (suc p) rs (left t r) (drop (14 * length (operations r (mappings t))) os)) → Is s p (r ∷ rs) t os
unfolding turned turns_rows one after_all operations_all
step s p r rs t os ih = go (decide rows (made r t)) refl
  where
    ms : List Mapping
    ms = mappings t

    rows : List Row
    rows = turn_rows s (capacity t) (length os) r ms

    n : ℕ
    n = length (operations r ms)

    vs : List Row
    vs = turns_rows s (capacity t) (length os - 14 * n) (suc p) rs (after r ms)

    after_one : Reply Made → Changed
    after_one d = next p (changed_for d r t os).reply (changed_for d r t os).table (changed_for d r t os).operations
        (λ g. turned s (suc p) rs (lent (changed_for d r t os).table g.count) (drop (14 * g.operations) (changed_for d r t os).operations))

    decided : decide (placed p rows ++ vs) (made_all (r ∷ rs) ms) ≡ there p (decide rows (made r t)) (decide vs (made_all (r ∷ rs) ms))
    decided = placed_decides p rows vs (made r t) (made_all (r ∷ rs) ms)

    go : (d : Reply Made) → decide rows (made r t) ≡ d → Is s p (r ∷ rs) t os
    go (refused k q) e = record {
      reply = ap (λ (d : Reply Made). (after_one d).reply) e ∙ sym (decided ∙ ap (λ (d : Reply Made). there p d (decide vs (made_all (r ∷ rs) ms))) e);
      leaves = λ g f. absurd (not_both (sym (ap (λ (d : Reply Made). (after_one d).reply) e) ∙ f));
    }
    go (answered g) e = record {
      reply = ap (λ (o : Changed). o.reply) on ∙ ap (more n) (w.reply ∙ same_rows) ∙ more_decides n vs (made_all rs (after r ms)) ∙ ap (decide vs) total
          ∙ sym (decided ∙ ap (λ (d : Reply Made). there p d (decide vs (made_all (r ∷ rs) ms))) e);
      leaves = λ h f.
          let k = more_granted n (turned s (suc p) rs (left t r) tail).reply h (sym (ap (λ (o : Changed). o.reply) on) ∙ f) in
          let l = w.leaves k.0 k.1 in (
            ap (λ (o : Changed). o.table) on ∙ l.0 ∙ ap₂ (λ (m : ℕ) (ns : List Mapping). written m (after_all rs ns)) held in_left,
            ap (λ (o : Changed). o.operations) on ∙ ap (λ (us : List ℕ). flat_map words_of_operation (operations r ms) ++ us) (l.1 ∙ ap behind-words in_left) ∙ words,
          );
    }
      where
        passed : Passed rows × (g ≡ made r t)
        passed = answered_passed rows (made r t) g e

        room : length (after r ms) ≤ capacity t
        room = room_of s (capacity t) (length os) r ms passed.0

        tail : List ℕ
        tail = drop (14 * n) os

        w : Is s (suc p) rs (left t r) tail
        w = ih room

        held : length (left t r).words ≡ length t.words
        held = (holds_rewritten t (after r ms) room).length_kept

        in_left : mappings (left t r) ≡ after r ms
        in_left = holds_mappings t (left t r) (after r ms) (holds_rewritten t (after r ms) room)

        -- what the request left, and what came after it
        on : after_one (decide rows (made r t)) ≡ behind (flat_map words_of_operation (operations r ms)) n (turned s (suc p) rs (left t r) tail)
        on = ap after_one (e ∙ ap answered passed.1)
            ∙ ap₂ (λ (f us : List ℕ). behind f n (turned s (suc p) rs (left t r) us))
            (take_at (flat_map words_of_operation (operations r ms)) tail (14 * n) (operations-words (operations r ms)))
            (drop_at (flat_map words_of_operation (operations r ms)) tail (14 * n) (operations-words (operations r ms)))

        same_rows : decide (turns_rows s (capacity (left t r)) (length tail) (suc p) rs (mappings (left t r))) (made_all rs (mappings (left t r))) ≡ decide vs (made_all rs (after r ms))
        same_rows =
            ap₂ (λ (c : ℕ) (ns : List Mapping). decide (turns_rows s c (length tail) (suc p) rs ns) (made_all rs ns)) (holds_capacity t (left t r) (after r ms) (holds_rewritten t (after r ms) room)) in_left
            ∙ ap (λ (m : ℕ). decide (turns_rows s (capacity t) m (suc p) rs (after r ms)) (made_all rs (after r ms))) (length-drop (14 * n) os)

        total : record { operations = n + length (operations_all rs (after r ms)); count = length (after_all rs (after r ms)) } ≡ made_all (r ∷ rs) ms
        total = ap (λ (m : ℕ). record { operations = m; count = length (after_all rs (after r ms)) }) (sym (length-append (operations r ms) (operations_all rs (after r ms))))

        behind-words : List Mapping → List ℕ
        behind-words ns = flat_map words_of_operation (operations_all rs ns) ++ drop (14 * length (operations_all rs ns)) tail

        words : flat_map words_of_operation (operations r ms) ++ behind-words (after r ms)
            ≡ flat_map words_of_operation (operations r ms ++ operations_all rs (after r ms)) ++ drop (14 * length (operations r ms ++ operations_all rs (after r ms))) os
        words =
            sym (append_assoc (flat_map words_of_operation (operations r ms)) (flat_map words_of_operation (operations_all rs (after r ms))) (drop (14 * length (operations_all rs (after r ms))) tail))
            ∙ ap₂ ◌++◌ (sym (flat_map-append words_of_operation (operations r ms) (operations_all rs (after r ms))))
            (drop-drop (14 * length (operations_all rs (after r ms))) (14 * n) os ∙ ap (λ (m : ℕ). drop m os) sums)
          where
            sums : 14 * n + 14 * length (operations_all rs (after r ms)) ≡ 14 * length (operations r ms ++ operations_all rs (after r ms))
            sums = omega (arith, length-append (operations r ms) (operations_all rs (after r ms)))

pub turned_is : (s : Space) (p : ℕ) (rs : List Request) (t : Table) (os : List ℕ) → Whole t → Is s p rs t os
unfolding turned turns_rows after_all operations_all decide flat_map
turned_is s p [] t os w = record { reply = λ i. answered (record { operations = 0; count = sym w.1 i }); leaves = λ g e. (w.0, refl) }
turned_is s p (r ∷ rs) t os w = step s p r rs t os
    (λ room. turned_is s (suc p) rs (left t r) (drop (14 * length (operations r (mappings t))) os) (whole-left t r room))
