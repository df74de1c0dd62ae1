-- No row has the number 0, so a refusal's words are told from a grant's, and each reply is read back from its words.
-- Assumes nothing.
use mathlib.Core.Path.{◌≡◌, refl, sym, ap, subst, ◌∙◌}
use mathlib.Core.Logic.{◌⊎◌, ◌↔◌, inl, inr}
use mathlib.Core.List.{List, [], ◌∷◌}
use Prim.Native.Nat.{ℕ, ◌<◌}
use native.Mathlib.Omega.{arith}
use lib.ListN.{length}
use Rattle.model.specs.declared.Grant.{Grant}
use Rattle.model.specs.declared.Request.{Request}
use Rattle.model.specs.declared.Seen.{Seen}
use Rattle.model.specs.declared.Shown.{Shown}
use Rattle.model.specs.declared.Shown.TheVariants.{Nothing, Sparse, Object}
use Rattle.model.specs.declared.Space.{Space}
use Rattle.model.specs.Rows.{Row, Reply, refused, answered, decide, verdict, number_of}
use Rattle.model.specs.Rules.{sparse_flag, form_rows, request_rows}
use Rattle.model.specs.Table.{operations_row}
use Rattle.model.specs.Calls.{Asking, numbers, bytes, asked, request_of, record_row, record_rows, Lent, lent_rows, purpose, last_rows, bind_rows, grant_for, bind, see_in, lookup, check_rows, check_request}
use Rattle.model.specs.Exactly.{Each}
use Rattle.model.proofs.Actions.{each_mem, each_append, each_map}
use Rattle.model.proofs.Rows.{not_both, decide_holds}
use Rattle.model.proofs.Groups.{each_lent, each_form, each_request}
use Rattle.model.proofs.Exactly.{answer_is}
use Rattle.batches.specs.Batch.{requests_in, bind_batch}
use Rattle.batches.specs.Exactly.{own_numbers, turn_numbers, Untouched, Emptied}
use Rattle.batches.proofs.Refusals.{refuses}
use Rattle.pages.specs.Pages.{largest, smaller, entry_count, page_rows, page_entries}
use Rattle.pages.proofs.LargePages.{answer_is as pages-answer-is}
use Rattle.waylluqen.specs.declared.AnswerWords.{AnswerWords}
use Rattle.waylluqen.specs.declared.PagesWords.{PagesWords}
use Rattle.waylluqen.specs.declared.Translation.{Translation}
use Rattle.waylluqen.specs.Words.{shown_words, translation_of, answer_of, pages_of}
use Rattle.waylluqen.specs.Readings.{BindGives, BatchGives, LookupGives, PagesGives, Readings}

-- ── no row has the number 0 ──

abbrev Numbered : Row → Type 0
Numbered w = 0 < w.number

abbrev Told : {A : Type 0} → Reply A → Type 0
Told (refused n p) = 0 < n
Told (answered a) = Unit {0}

told : {A : Type 0} (ws : List Row) (a : A) → Each Numbered ws → Told (decide ws a)
told ws a h = decide_holds Told ws a (each_map Numbered _ ws (λ w k. inr k) h) tt

request_numbered : (s : Space) (r : Request) → Each Numbered (request_rows s r)
request_numbered s r = each_request Numbered s r (omega arith) (omega arith) (omega arith) (omega arith) (omega arith)

form_numbered : (r : Request) → Each Numbered (form_rows sparse_flag r)
form_numbered r = each_form Numbered sparse_flag r (omega arith) (omega arith)

lent-numbered : (s : Space) (between : List Row) (l : Lent) → Each Numbered between → Each Numbered (lent_rows s between l)
lent-numbered s between l k =
    each_lent Numbered s between l (omega arith) (omega arith) k (omega arith) (omega arith) (omega arith) (omega arith)

bind-numbered : (s : Space) (l : Lent) (n : ℕ) (q : Asking) → Each Numbered (bind_rows s l n q)
unfolding bind_rows
bind-numbered s l n q = (
  twelve q,
  each_append Numbered (form_rows sparse_flag r) _ (form_numbered r)
      (each_append Numbered (lent_rows s (operations_row n l.table ∷ []) l) _ (lent-numbered s (operations_row n l.table ∷ []) l (omega arith, tt))
      (each_append Numbered (request_rows s r) (last_rows (purpose r) r l) (request_numbered s r) (omega arith, (omega arith, (omega arith, tt))))),
)
  where
    r : Request
    r = asked q

    twelve : (q : Asking) → Numbered (record_row q)
    twelve (numbers op address size object offset) = omega arith
    twelve (bytes bs) = omega arith

bind-told : (a : Reply Grant) → BindGives a → Told a
unfolding bind
bind-told a (s, l, os, q, e) =
    let rows = bind_rows s l (length os) q in
    let grant = grant_for (purpose (asked q)) (asked q) l in
    subst Told (sym (answer_is (decide rows grant) (purpose (asked q)) (asked q) l os) ∙ e) (told rows grant (bind-numbered s l (length os) q))

batch_told : (a : Reply Grant) → BatchGives a → Told a
batch_told (answered g) b = tt
batch_told (refused n p) (s, l, ws, os, bs, e) = go (refuses s l ws os bs n p e)
  where
    go : Untouched l ws os n p (bind_batch s l ws os bs) ⊎ Emptied l ws os (requests_in bs) n p (bind_batch s l ws os bs) → 0 < n
    go (inl k) = each_mem (λ m. 0 < m) own_numbers n (omega arith, (omega arith, (omega arith, (omega arith, (omega arith, (omega arith, (omega arith, (omega arith, (omega arith, tt))))))))) k.number
    go (inr k) = each_mem (λ m. 0 < m) turn_numbers n (omega arith, (omega arith, (omega arith, (omega arith, (omega arith, (omega arith, (omega arith, (omega arith, (omega arith, tt))))))))) k.number

lookup-told : (a : Reply Seen) → LookupGives a → Told a
unfolding lookup
lookup-told a (s, l, x, e) = subst Told e (told (lent_rows s [] l) (see_in s l x) (lent-numbered s [] l tt))

pages_told : (a : Reply ℕ) → PagesGives a → Told a
unfolding page_entries page_rows
pages_told a (m, ws, e) =
    let rows = page_rows m (length ws) in
    let n = entry_count largest smaller m in
    subst Told (sym (pages-answer-is (decide rows n) m ws) ∙ e) (told rows n (omega arith, (omega arith, tt)))

check_told : (bs : List ℕ) (s : Space) → Told (verdict (check_rows bs s))
unfolding check_rows record_rows
check_told bs s = told (check_rows bs s) tt (
  omega arith,
  each_append Numbered (form_rows sparse_flag (request_of bs)) _ (form_numbered (request_of bs))
      (omega arith, request_numbered s (request_of bs)),
)

-- ── replies by their words ──

module _ (count ranges : ℕ) where
  abbrev grant_in : AnswerWords → Grant
  grant_in w = record { operations = w.operations; count = w.count; ranges = w.ranges }

  bind_pins : (a b : Reply Grant) → Told a → Told b → answer_of count ranges a ≡ answer_of count ranges b → a ≡ b
  bind_pins (refused n p) (refused m q) h k e = λ i. refused (e i).refusal (e i).place
  bind_pins (refused n p) (answered g) h k e = absurd (omega (arith, h, ap (λ (w : AnswerWords). w.refusal) e))
  bind_pins (answered g) (refused n p) h k e = absurd (omega (arith, k, ap (λ (w : AnswerWords). w.refusal) e))
  bind_pins (answered g) (answered f) h k e = λ i. answered (grant_in (e i))

-- words of what is shown
shown_zero : (v : Shown) (n : ℕ) → (shown_words v n).refusal ≡ 0
shown_zero Nothing n = refl
shown_zero Sparse n = refl
shown_zero (Object o f) n = refl

shown_pins : (v w : Shown) (n m : ℕ) → shown_words v n ≡ shown_words w m → v ≡ w
shown_pins Nothing Nothing n m e = refl
shown_pins Nothing Sparse n m e = absurd (omega (arith, ap (λ (w : Translation). w.shown) e))
shown_pins Sparse Nothing n m e = absurd (omega (arith, ap (λ (w : Translation). w.shown) e))
shown_pins Sparse Sparse n m e = refl
shown_pins Sparse (Object o f) n m e = absurd (omega (arith, ap (λ (w : Translation). w.shown) e))
shown_pins (Object o f) Sparse n m e = absurd (omega (arith, ap (λ (w : Translation). w.shown) e))
shown_pins Nothing (Object o f) n m e = absurd (omega (arith, ap (λ (w : Translation). w.shown) e))
shown_pins (Object o f) Nothing n m e = absurd (omega (arith, ap (λ (w : Translation). w.shown) e))
shown_pins (Object o f) (Object p g) n m e = λ i. Object (e i).object (e i).offset

bytes_word : (v : Shown) (n : ℕ) → (shown_words v n).bytes ≡ n
bytes_word Nothing n = refl
bytes_word Sparse n = refl
bytes_word (Object o f) n = refl

lookup_pins : (a b : Reply Seen) → Told a → Told b → translation_of a ≡ translation_of b → a ≡ b
lookup_pins (refused n p) (refused m q) h k e = λ i. refused (e i).refusal (e i).place
lookup_pins (refused n p) (answered v) h k e =
    absurd (omega (arith, h, ap (λ (w : Translation). w.refusal) e, shown_zero v.shown v.bytes))
lookup_pins (answered v) (refused n p) h k e =
    absurd (omega (arith, k, ap (λ (w : Translation). w.refusal) e, shown_zero v.shown v.bytes))
lookup_pins (answered v) (answered u) h k e =
    let n : v.bytes ≡ u.bytes = sym (bytes_word v.shown v.bytes) ∙ ap (λ (w : Translation). w.bytes) e ∙ bytes_word u.shown u.bytes in
    let o : v.shown ≡ u.shown = shown_pins v.shown u.shown v.bytes u.bytes e in
    λ i. answered (record { shown = o i; bytes = n i })

pages_pins : (a b : Reply ℕ) → Told a → Told b → pages_of a ≡ pages_of b → a ≡ b
pages_pins (refused n p) (refused m q) h k e = λ i. refused (e i).refusal (e i).place
pages_pins (refused n p) (answered m) h k e = absurd (omega (arith, h, ap (λ (w : PagesWords). w.refusal) e))
pages_pins (answered n) (refused m p) h k e = absurd (omega (arith, k, ap (λ (w : PagesWords). w.refusal) e))
pages_pins (answered n) (answered m) h k e = λ i. answered (e i).entries

pub readings : Readings
unfolding check_request
readings = record {
  bind_zero = λ count ranges a g. bind_zero count ranges a (bind-told a g);
  batch_zero = λ count ranges a g. bind_zero count ranges a (batch_told a g);
  lookup_zero = λ a g. lookup_zero a (lookup-told a g);
  pages_zero = λ a g. pages_zero a (pages_told a g);
  check_zero = λ bs s. check_zero (verdict (check_rows bs s)) (check_told bs s);
  bind_pins = λ count ranges a b g h. bind_pins count ranges a b (bind-told a g) (bind-told b h);
  batch_pins = λ count ranges a b g h. bind_pins count ranges a b (batch_told a g) (batch_told b h);
  lookup_pins = λ a b g h. lookup_pins a b (lookup-told a g) (lookup-told b h);
  pages_pins = λ a b g h. pages_pins a b (pages_told a g) (pages_told b h);
}
  where
    bind_zero : (count ranges : ℕ) (a : Reply Grant) → Told a → ((answer_of count ranges a).refusal ≡ 0) ↔ ((g : Grant) × (a ≡ answered g))
    bind_zero count ranges (refused n p) h = (λ z. absurd (omega (arith, h, z)), λ w. absurd (not_both w.1))
    bind_zero count ranges (answered g) h = (λ _. (g, refl), λ _. refl)

    lookup_zero : (a : Reply Seen) → Told a → ((translation_of a).refusal ≡ 0) ↔ ((v : Seen) × (a ≡ answered v))
    lookup_zero (refused n p) h = (λ z. absurd (omega (arith, h, z)), λ w. absurd (not_both w.1))
    lookup_zero (answered v) h = (λ _. (v, refl), λ _. shown_zero v.shown v.bytes)

    pages_zero : (a : Reply ℕ) → Told a → ((pages_of a).refusal ≡ 0) ↔ ((n : ℕ) × (a ≡ answered n))
    pages_zero (refused n p) h = (λ z. absurd (omega (arith, h, z)), λ w. absurd (not_both w.1))
    pages_zero (answered n) h = (λ _. (n, refl), λ _. refl)

    check_zero : (u : Reply (Unit {0})) → Told u → (number_of u ≡ 0) ↔ (u ≡ answered tt)
    check_zero (refused n p) h = (λ z. absurd (omega (arith, h, z)), λ e. absurd (not_both e))
    check_zero (answered v) h = (λ _. refl, λ _. refl)
