-- Each public call gives a line's answer exactly if the line's rule is broken and no line's above it.
-- Assumes nothing.
use mathlib.Core.Path.{◌≡◌, refl, sym, ap, subst, ◌∙◌}
use mathlib.Core.Logic.{◌⊎◌, ◌↔◌, inl, inr}
use mathlib.Core.List.Memᴰ
use mathlib.Core.List.{List, [], ◌∷◌, ◌++◌, flat_map, append-nil}
use Prim.Native.Nat.{ℕ, zero, suc, ◌+◌, ◌≤◌, ◌<◌}
use lib.Dec.{leb}
use native.Mathlib.Omega.{arith}
use lib.ListN.{length}
use Rattle.model.specs.Prelude.{Space, Mapping, Request, Seen, Grant}
use Rattle.model.specs.Rows.{Row, Reply, refused, answered, decide, number_of}
use Rattle.model.specs.Rules.{sparse_flag, space_row, form_rows, request_rows}
use Rattle.model.specs.Table.{capacity, mappings, operations_row}
use Rattle.model.specs.Cut.{new, after, operations, old, rests}
use Rattle.model.specs.Calls.{Asking, numbers, bytes, asked, record_row, Lent, lent_rows, Purpose, cuts, adds, removes, purpose_for, purpose, range_of, ranges, overlap_tests, removal_tests, room_tests, last_rows, bind_rows, grant_for, outcome_for, bind, see_in, lookup, check_rows, check_request, request_of, record_rows}
use Rattle.model.specs.Exactly.{◌∈◌, SpaceRules, RefusalTable, line, otherwise, Gives, SparseToo, request_lines, check_refusals, refusal, WellFormed, lent_lines, operations_line, RoomRule, OverlapRule, RemovalRule, RoomRules, last_lines, bind_refusals, lookup_refusals, TableRules, Exactly}
use Rattle.model.proofs.Tests.{tests, Alls, Says}
use Rattle.model.proofs.Rows.{Match, match_gives, gives_one, not_both}
use Rattle.model.proofs.Numbers.{order}
use Rattle.model.proofs.New.{new-map, new_unmap}
use Rattle.model.proofs.Run.{Run}
use Rattle.model.proofs.Counts.{count_rule}
use Rattle.model.proofs.Rules.{Flags, space_says}
use Rattle.model.proofs.Ranges.{listed_says, ranges_apart, mappings-apart}
use Rattle.model.proofs.Table.{rules_run, lowest}
use Rattle.model.proofs.Groups.{sparse_too, form_match, request_match, lent_match, operations_match}

-- an answer is b exactly if the table gives b
abbrev pub Answers : {B : Type 0} → B → RefusalTable B → Type 0
Answers {B} answer t = (b : B) → (answer ≡ b) ↔ Gives t b

pub match_answers : {A B : Type 0} (f : Reply A → B) (a : A) (ws : List Row) (t : RefusalTable B) → Match f a ws t → Answers (f (decide ws a)) t
match_answers f a ws t m b =
    let g : Gives t (f (decide ws a)) = match_gives f a ws t m in
    (λ e. subst (Gives t) e g, λ h. gives_one t g h)

-- ── the request check ──

of_check : (bs : List ℕ) (s : Space) → Answers (check_request bs s) (check_refusals bs s)
unfolding check_request check_rows record_rows form_rows request_rows
of_check bs s = match_answers number_of (tt {0}) (check_rows bs s) (check_refusals bs s) (
  refl,
  (λ h. omega tests, λ h. omega tests),
  λ _. form_match number_of (tt {0}) 0 (λ n. n) (λ n. refl) sparse_flag SparseToo (request_of bs) (sparse_too (request_of bs))
      (space_row s ∷ request_rows s (request_of bs)) (line 1 (SpaceRules s) (request_lines (λ n. n) s (request_of bs) (otherwise 0)))
      (λ op flags. (refl, space_says s, λ _. request_match number_of (tt {0}) 0 (λ n. n) (λ n. refl) s (request_of bs) [] (otherwise 0) op flags (λ _. refl))),
)

-- ── map and unmap ──

pub record_says : (q : Asking) → Says (record_row q).tests (WellFormed q)
record_says (numbers op address size object offset) = (λ h. tt, λ h. tt)
record_says (bytes bs) = (λ h. omega tests, λ h. omega tests)

-- document 01's count afterwards is the count of the table after
pub room_says : (capacity : ℕ) (r : Request) (ms : List Mapping) → Run 0 ms → r.op < 2 → 0 < r.size
    → Says (leb (length (after r ms)) capacity ∷ []) (RoomRule r capacity ms)
room_says capacity r ms run k z = (
  λ room. record {
    for_map = λ o. omega (tests, room, e, ap length (new-map r o));
    for_unmap = λ o. omega (tests, room, e, ap length (new_unmap r (λ p. omega (tests, o, p))));
  },
  λ rule. by_op (order r.op 0) rule,
)
  where
    e : length (after r ms) + length (flat_map old (operations r ms)) ≡ length ms + length (flat_map rests (operations r ms)) + length (new r)
    e = count_rule r ms run z

    by_op : (r.op ≤ 0) ⊎ (0 < r.op) → RoomRule r capacity ms → Alls (leb (length (after r ms)) capacity ∷ [])
    by_op (inl o) rule =
        let p : r.op ≡ 0 = omega tests in
        omega (tests, rule.for_map p, e, ap length (new-map r p))
    by_op (inr o) rule =
        let p : r.op ≡ 1 = omega tests in
        omega (tests, rule.for_unmap p, e, ap length (new_unmap r (λ q. omega (tests, o, q))))

-- what a request is for, in the words of its flags and op
pub data For (r : Request) : Purpose → Type 0 where
  for_table : r.flags ≡ 0 → For r cuts
  for_adding : r.flags ≡ 256 → r.op ≡ 0 → For r adds
  for_removing : r.flags ≡ 256 → r.op ≡ 1 → For r removes

pub is_for : (r : Request) → r.op < 2 → Flags r → For r (purpose r)
is_for r op flags = go r.flags refl r.op refl flags
  where
    go : (f : ℕ) → r.flags ≡ f → (o : ℕ) → r.op ≡ o → Flags r → For r (purpose_for f o)
    go zero e o d h = for_table e
    go (suc f) e o d (inl h) = absurd (omega (arith, e, h))
    go (suc f) e zero d (inr h) = for_adding h d
    go (suc f) e (suc o) d (inr h) = for_removing h (omega (arith, op))

-- 19, 20 and 11, by what the request is for
module _ (s : Space) (l : Lent) (r : Request) where
  overlap_says : {for : Purpose} → For r for → Says (overlap_tests for r l) (OverlapRule r l)
  overlap_says (for_table f) = (λ _ g. absurd (omega (arith, f, g)), λ _. tt)
  overlap_says (for_adding f o) = let k = ranges_apart r (ranges l.ranges) in (λ h _ _. k.0 h, λ h. k.1 (h f o))
  overlap_says (for_removing f o) = (λ _ g p. absurd (omega (arith, o, p)), λ _. tt)

  removal_says : {for : Purpose} → For r for → Says (removal_tests for r l) (RemovalRule r l)
  removal_says (for_table f) = (λ _ g. absurd (omega (arith, f, g)), λ _. tt)
  removal_says (for_adding f o) = (λ _ g p. absurd (omega (arith, o, p)), λ _. tt)
  removal_says (for_removing f o) =
      let k = listed_says (range_of r) (ranges l.ranges) in
      let m = mappings-apart r (mappings l.table) in
      (λ h _ _. (k.0 h.0, m.0 h.1), λ h. let w = h f o in (k.1 w.0, m.1 w.1))

  rooms_say : {for : Purpose} → TableRules s (mappings l.table) → r.op < 2 → 0 < r.size → For r for → Says (room_tests for r l) (RoomRules r l)
  rooms_say five op six (for_table f) =
      let k = room_says (capacity l.table) r (mappings l.table) (rules_run s (mappings l.table) five) op six in
      (λ h. (λ _. k.0 h, λ g. absurd (omega (arith, f, g))), λ h. k.1 (h.0 f))
  rooms_say five op six (for_adding f o) = (λ h. (λ g. absurd (omega (arith, f, g)), λ _ _. omega (tests, h)), λ h. omega (tests, h.1 f o))
  rooms_say five op six (for_removing f o) = (λ h. (λ g. absurd (omega (arith, f, g)), λ _ p. absurd (omega (arith, o, p))), λ _. tt)

of_rows : (s : Space) (l : Lent) (n : ℕ) (q : Asking) → Answers (decide (bind_rows s l n q) (grant_for (purpose (asked q)) (asked q) l)) (bind_refusals s l n q)
unfolding bind_rows form_rows request_rows
of_rows s l n q =
    let r : Request = asked q in
    let g : Grant = grant_for (purpose r) r l in
    let between : List Row = operations_row n l.table ∷ [] in
    let behind : List Row = request_rows s r ++ last_rows (purpose r) r l in
    let lines : RefusalTable (Reply Grant) = request_lines refusal s r (last_lines r l (otherwise (answered g))) in
    match_answers (λ a. a) g (bind_rows s l n q) (bind_refusals s l n q) (
      record_number q,
      record_says q,
      λ _. form_match (λ a. a) g 0 refusal (λ n. refl) sparse_flag SparseToo r (sparse_too r) (lent_rows s between l ++ behind) (lent_lines s (operations_line n l.table) l lines) (λ op flags.
          lent_match g s l between (operations_line n l.table) (operations_match g n l.table) behind lines (λ five.
          request_match (λ a. a) g 0 refusal (λ n. refl) s r (last_rows (purpose r) r l) (last_lines r l (otherwise (answered g))) op flags
          (λ six. let for = is_for r op flags in
          (refl, overlap_says s l r for, λ _. (refl, removal_says s l r for, λ _. (refl, rooms_say s l r five op six for, λ _. refl)))))),
    )
  where
    record_number : (q : Asking) → ◌≡◌ {A = Reply Grant} (refused (record_row q).number (record_row q).place) (refusal 12)
    record_number (numbers op address size object offset) = refl
    record_number (bytes bs) = refl

-- the answer is what the rows decide
pub answer_is : (a : Reply Grant) (for : Purpose) (r : Request) (l : Lent) (os : List ℕ) → (outcome_for a for r l os).answer ≡ a
answer_is (refused n p) for r l os = refl
answer_is (answered g) cuts r l os = refl
answer_is (answered g) adds r l os = refl
answer_is (answered g) removes r l os = refl

of_bind : (s : Space) (l : Lent) (os : List ℕ) (q : Asking) → Answers (bind s l os q).answer (bind_refusals s l (length os) q)
unfolding bind
of_bind s l os q a =
    let d : Reply Grant = decide (bind_rows s l (length os) q) (grant_for (purpose (asked q)) (asked q) l) in
    let e = answer_is d (purpose (asked q)) (asked q) l os in
    let k = of_rows s l (length os) q a in
    (λ h. k.0 (sym e ∙ h), λ h. e ∙ k.1 h)

pub unchanged : (s : Space) (l : Lent) (os : List ℕ) (q : Asking) (n p : ℕ) → (bind s l os q).answer ≡ refused n p
    → ((bind s l os q).table ≡ l.table.words) × ((bind s l os q).ranges ≡ l.ranges.words) × ((bind s l os q).operations ≡ os)
unfolding bind
unchanged s l os q n p e = go (decide (bind_rows s l (length os) q) (grant_for (purpose r) r l)) e
  where
    r : Request
    r = asked q

    go : (a : Reply Grant) → (outcome_for a (purpose r) r l os).answer ≡ refused n p
        → ((outcome_for a (purpose r) r l os).table ≡ l.table.words) × ((outcome_for a (purpose r) r l os).ranges ≡ l.ranges.words)
        × ((outcome_for a (purpose r) r l os).operations ≡ os)
    go (refused n p) e = (refl, refl, refl)
    go (answered g) e = absurd (not_both (sym e ∙ answer_is (answered g) (purpose r) r l os))

-- ── look-up ──

of_lookup : (s : Space) (l : Lent) (x : ℕ) → Answers (lookup s l x) (lookup_refusals s l x)
unfolding lookup
of_lookup s l x =
    let v : Seen = see_in s l x in
    subst (λ (ws : List Row). Answers (decide ws v) (lookup_refusals s l x)) (append-nil (lent_rows s [] l))
    (match_answers (λ a. a) v (lent_rows s [] l ++ []) (lookup_refusals s l x) (lent_match v s l [] (λ u. u) (λ vs u m. m) [] _ (λ _. refl)))

lookup_only : (s : Space) (l : Lent) (x n p : ℕ) → lookup s l x ≡ refused n p → n ∈ (1 ∷ 2 ∷ 4 ∷ 5 ∷ 17 ∷ 18 ∷ [])
lookup_only s l x n p e = go ((of_lookup s l x (refused n p)).0 e)
  where
    number : {a b c d : ℕ} → ◌≡◌ {A = Reply Seen} (refused a b) (refused c d) → a ≡ c
    number e = ap number_of e

    go : Gives (lookup_refusals s l x) (refused n p) → n ∈ (1 ∷ 2 ∷ 4 ∷ 5 ∷ 17 ∷ 18 ∷ [])
    go (inl h) = Memᴰ.head (number h.1)
    go (inr (_, inl h)) = Memᴰ.tail (Memᴰ.head (number h.1))
    go (inr (_, inr (_, inl h))) = Memᴰ.tail (Memᴰ.tail (Memᴰ.head (number h.1)))
    go (inr (_, inr (_, inr (_, inl h)))) = Memᴰ.tail (Memᴰ.tail (Memᴰ.tail (Memᴰ.head (number h.1))))
    go (inr (_, inr (_, inr (_, inr (_, inl h))))) = Memᴰ.tail (Memᴰ.tail (Memᴰ.tail (Memᴰ.tail (Memᴰ.head (number h.1)))))
    go (inr (_, inr (_, inr (_, inr (_, inr (_, inl h)))))) =
        Memᴰ.tail (Memᴰ.tail (Memᴰ.tail (Memᴰ.tail (Memᴰ.tail (Memᴰ.head (number h.1))))))
    go (inr (_, inr (_, inr (_, inr (_, inr (_, inr h)))))) = absurd (not_both h.1)

pub exactly : Exactly
exactly = record {
  of_check = of_check;
  of_bind = of_bind;
  of_lookup = of_lookup;
  lowest = lowest;
  unchanged = unchanged;
  lookup_only = lookup_only;
}
