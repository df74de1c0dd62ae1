-- The named groups of rows: that a group says what its lines in words say, and what a group that passes says, fact by
-- fact.
-- Assumes nothing.
use mathlib.Core.Path.{◌≡◌, refl, sym, subst}
use mathlib.Core.Logic.{inl, inr}
use mathlib.Core.List.{List, [], ◌∷◌, ◌++◌, append_assoc}
use Prim.Native.Nat.{ℕ, ◌<◌}
use lib.Dec.{eqb, eqb→eq}
use Rattle.model.specs.Prelude.{Space, Request}
use Rattle.model.specs.Rows.{Row, placed, Reply, refused}
use Rattle.model.specs.Rules.{space_tests, space_row, op_row, flags_row, alignment_row, inside_row, reservation_row, object_row, offset_row, form_rows, request_rows}
use Rattle.model.specs.Table.{Table, mappings, length_row, operations_row, count_row, mappings_row, stale_row, content_rows, table_rows}
use Rattle.model.specs.Ranges.{list_row}
use Rattle.model.specs.Calls.{sparse_flag, Lent, lent_rows}
use Rattle.model.specs.Exactly.{Each, RefusalTable, line, SparseToo, form_lines, request_lines, content_lines, table_lines, lent_lines, operations_line, refusal, TableRules, ListRules}
use Rattle.model.proofs.Tests.{tests, Alls, Says, or_cases, or_left, or_right, eq→eqb}
use Rattle.model.proofs.Actions.{each_append}
use Rattle.model.proofs.Rows.{Passed, passed_split, passed_join, Match}
use Rattle.model.proofs.Rules.{Flags, apart_shares, shares_apart, space_says, object_says, offset_says}
use Rattle.model.proofs.Table.{table_says}
use Rattle.model.proofs.Zeros.{stale_says}
use Rattle.model.proofs.Ranges.{list_row_says}

-- flags 0 and the sparse flag are let through
pub sparse_too : (r : Request) → Says (flags_row sparse_flag r).tests (SparseToo r.flags × (r.pad ≡ 0))
sparse_too r = (
  λ h. (elim (or_cases (eqb r.flags 0) (eqb r.flags 256) h.0) [ inl e ↦ inl (eqb→eq _ 0 e) | inr e ↦ inr (eqb→eq _ 256 e) ], omega (tests, h.1)),
  λ h. (
    elim h.0 [
      | inl e ↦ or_left (eqb r.flags 0) (eqb r.flags 256) (eq→eqb _ 0 e)
      | inr e ↦ or_right (eqb r.flags 0) (eqb r.flags 256) (eq→eqb _ 256 e)
    ],
    (omega (tests, h.1), tt),
  ),
)

-- ── rows and lines, f being how an answer is read, and p the place of the request; a single one's is 0 ──

module _ {A B : Type 0} (f : Reply A → B) (a : A) (p : ℕ) (refuse : ℕ → B) (reads : (n : ℕ) → f (refused n p) ≡ refuse n) where
  pub form_match : (served : ℕ) (Served : ℕ → Type 0) (r : Request) → Says (flags_row served r).tests (Served r.flags × (r.pad ≡ 0))
      → (ws : List Row) (t : RefusalTable B) → (r.op < 2 → Served r.flags → Match f a ws t)
      → Match f a (placed p (form_rows served r) ++ ws) (form_lines refuse Served r t)
  unfolding form_rows
  form_match served Served r flags ws t rest = (
    reads 13,
    (λ h. omega tests, λ h. omega tests),
    λ op. (reads 14, flags, λ h. rest op h.0),
  )

  pub request_match : (s : Space) (r : Request) (ws : List Row) (t : RefusalTable B) → r.op < 2 → Flags r → (0 < r.size → Match f a ws t)
      → Match f a (placed p (request_rows s r) ++ ws) (request_lines refuse s r t)
  unfolding request_rows
  request_match s r ws t op flags rest = (
    reads 6,
    (λ h. omega tests, λ h. omega tests),
    λ six. (
      reads 7,
      (λ h. omega tests, λ h. omega tests),
      λ _. (
        reads 8,
        (λ h. apart_shares _ _ _ _ (omega tests), λ h. let k = shares_apart _ _ _ _ h in omega tests),
        λ _. (reads 9, object_says r op flags, λ _. (reads 10, offset_says r, λ _. rest six.3)),
      ),
    ),
  )

module _ {A : Type 0} (a : A) where
  abbrev Matches : List Row → RefusalTable (Reply A) → Type 0
  Matches = Match (λ u. u) a

  content_match : (s : Space) (t : Table) (ws : List Row) (rest : RefusalTable (Reply A)) → (TableRules s (mappings t) → Matches ws rest)
      → Matches (content_rows s t ++ ws) (content_lines s t rest)
  content_match s t ws rest m =
      (refl, (λ h. omega tests, λ h. omega tests), λ _. (refl, table_says s (mappings t), λ five. (refl, stale_says t, λ _. m five)))

  -- with rows between that match lines between
  table_match : (s : Space) (t : Table) (between : List Row) (lines : RefusalTable (Reply A) → RefusalTable (Reply A))
      → ((vs : List Row) (u : RefusalTable (Reply A)) → Matches vs u → Matches (between ++ vs) (lines u))
      → (ws : List Row) (rest : RefusalTable (Reply A)) → (TableRules s (mappings t) → Matches ws rest)
      → Matches (table_rows s between t ++ ws) (table_lines s lines t rest)
  unfolding table_rows
  table_match s t between lines through ws rest m = (
    refl,
    space_says s,
    λ _. (
      refl,
      (λ h. omega tests, λ h. omega tests),
      λ _. subst (λ (vs : List Row). Matches vs (lines (content_lines s t rest))) (sym (append_assoc between (content_rows s t) ws))
          (through (content_rows s t ++ ws) (content_lines s t rest) (content_match s t ws rest m)),
    ),
  )

  pub lent_match : (s : Space) (l : Lent) (between : List Row) (lines : RefusalTable (Reply A) → RefusalTable (Reply A))
      → ((vs : List Row) (u : RefusalTable (Reply A)) → Matches vs u → Matches (between ++ vs) (lines u))
      → (ws : List Row) (rest : RefusalTable (Reply A)) → (TableRules s (mappings l.table) → Matches ws rest)
      → Matches (lent_rows s between l ++ ws) (lent_lines s lines l rest)
  unfolding lent_rows
  lent_match s l between lines through ws rest m =
      subst (λ (vs : List Row). Matches vs (lent_lines s lines l rest)) (sym (append_assoc (table_rows s between l.table) (list_row s l.ranges ∷ []) ws))
      (table_match s l.table between lines through (list_row s l.ranges ∷ ws) (line (refusal 18) (ListRules s l.ranges) rest)
      (λ five. (refl, list_row_says s l.ranges, λ _. m five)))

  pub operations_match : (n : ℕ) (t : Table) (vs : List Row) (u : RefusalTable (Reply A)) → Matches vs u
      → Matches (operations_row n t ∷ vs) (operations_line n t u)
  operations_match n t vs u m = (refl, (λ h. omega tests, λ h. omega tests), λ _. m)

-- ── groups that pass ──

pub record TablePassed (s : Space) (between : List Row) (t : Table) : Type 0 where
  pub space : Alls (space_tests s)
  pub length_right : Alls (length_row t).tests
  pub others : Passed between
  pub count : Alls (count_row t).tests
  pub places : Alls (mappings_row s t).tests
  pub behind : Alls (stale_row t).tests

pub record LentPassed (s : Space) (between : List Row) (l : Lent) : Type 0 where
  pub table : TablePassed s between l.table
  pub list : Alls (list_row s l.ranges).tests

pub record FormPassed (served : ℕ) (r : Request) : Type 0 where
  pub op : Alls (op_row r).tests
  pub flags : Alls (flags_row served r).tests

pub record RequestPassed (s : Space) (r : Request) : Type 0 where
  pub alignment : Alls (alignment_row r).tests
  pub range : Alls (inside_row s r).tests
  pub reservation : Alls (reservation_row s r).tests
  pub object : Alls (object_row r).tests
  pub offset : Alls (offset_row r).tests

table_passed : (s : Space) (between : List Row) (t : Table) → Passed (table_rows s between t) → TablePassed s between t
unfolding table_rows
table_passed s between t (one, (two, rest)) = go (passed_split between (content_rows s t) rest)
  where
    go : Passed between × Passed (content_rows s t) → TablePassed s between t
    go (others, (four, (five, (stale, _)))) =
        record { space = one; length_right = two; others = others; count = four; places = five; behind = stale }

passed_table : {s : Space} {between : List Row} {t : Table} → TablePassed s between t → Passed (table_rows s between t)
unfolding table_rows
passed_table {s} {between} {t} p =
    (p.space, (p.length_right, passed_join between (content_rows s t) p.others (p.count, (p.places, (p.behind, tt)))))

pub lent_passed : (s : Space) (between : List Row) (l : Lent) → Passed (lent_rows s between l) → LentPassed s between l
unfolding lent_rows
lent_passed s between l h =
    let k = passed_split (table_rows s between l.table) _ h in
    record { table = table_passed s between l.table k.0; list = k.1.0 }

pub passed_lent : {s : Space} {between : List Row} {l : Lent} → LentPassed s between l → Passed (lent_rows s between l)
unfolding lent_rows
passed_lent {s} {between} {l} p = passed_join (table_rows s between l.table) _ (passed_table p.table) (p.list, tt)

-- a call that has other rows between passes too, if they pass; one that has none
pub other_between : {s : Space} {between others : List Row} {l : Lent} → LentPassed s between l → Passed others → LentPassed s others l
other_between w h =
    let p = w.table in
    record {
      table = record { space = p.space; length_right = p.length_right; others = h; count = p.count; places = p.places; behind = p.behind };
      list = w.list;
    }

pub none_between : {s : Space} {between : List Row} {l : Lent} → LentPassed s between l → LentPassed s [] l
none_between w = other_between w tt

pub form_passed : (served : ℕ) (r : Request) → Passed (form_rows served r) → FormPassed served r
unfolding form_rows
form_passed served r (thirteen, (fourteen, _)) = record { op = thirteen; flags = fourteen }

pub passed_form : {served : ℕ} {r : Request} → FormPassed served r → Passed (form_rows served r)
unfolding form_rows
passed_form p = (p.op, (p.flags, tt))

pub request_passed : (s : Space) (r : Request) → Passed (request_rows s r) → RequestPassed s r
unfolding request_rows
request_passed s r (six, (seven, (eight, (nine, (ten, _))))) =
    record { alignment = six; range = seven; reservation = eight; object = nine; offset = ten }

pub passed_request : {s : Space} {r : Request} → RequestPassed s r → Passed (request_rows s r)
unfolding request_rows
passed_request p = (p.alignment, (p.range, (p.reservation, (p.object, (p.offset, tt)))))

-- ── what holds of each row of a group ──

module _ (P : Row → Type 0) where
  pub each_lent : (s : Space) (between : List Row) (l : Lent) → P (space_row s) → P (length_row l.table) → Each P between
      → P (count_row l.table) → P (mappings_row s l.table) → P (stale_row l.table) → P (list_row s l.ranges) → Each P (lent_rows s between l)
  unfolding table_rows lent_rows
  each_lent s between l one two others four five stale list =
      each_append P (table_rows s between l.table) _
      (one, (two, each_append P between (content_rows s l.table) others (four, (five, (stale, tt))))) (list, tt)

  pub each_form : (served : ℕ) (r : Request) → P (op_row r) → P (flags_row served r) → Each P (form_rows served r)
  unfolding form_rows
  each_form served r thirteen fourteen = (thirteen, (fourteen, tt))

  pub each_request : (s : Space) (r : Request) → P (alignment_row r) → P (inside_row s r) → P (reservation_row s r) → P (object_row r) → P (offset_row r)
      → Each P (request_rows s r)
  unfolding request_rows
  each_request s r six seven eight nine ten = (six, (seven, (eight, (nine, (ten, tt)))))
