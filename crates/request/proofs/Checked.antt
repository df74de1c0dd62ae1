-- Rows that pass leave a table and a list that can be searched and changed.
-- Assumes nothing.
use mathlib.Core.Path.{◌≡◌, refl, sym, subst, ◌∙◌}
use mathlib.Core.Bool.{true, ◌&&◌}
use mathlib.Core.List.{List, [], ◌∷◌, ◌++◌, append_assoc}
use Prim.Native.Nat.{ℕ, zero, suc, ◌+◌, ◌*◌, ◌≤◌}
use native.Mathlib.Omega.{arith}
use lib.Dec.{T, eqb, eqb→eq}
use lib.ListN.{length}
use borrow.Author.Tests.{eq-eqb}
use Rattle.model.specs.declared.Request.{Request}
use Rattle.model.specs.declared.Space.{Space}
use Rattle.model.specs.Rows.{all, Row, Reply, answered, verdict}
use Rattle.model.specs.Rules.{limit, space_tests, space_row, object_tests, offset_tests, request_rows}
use Rattle.model.specs.Table.{Table, mappings, operations_row, content_rows, table_rows}
use Rattle.model.specs.Cut.{operations}
use Rattle.model.specs.Ranges.{list_row}
use Rattle.model.specs.Calls.{Lent, lent_rows}
use Rattle.model.proofs.Tests.{tests, Alls, and_both, all_facts, all_true}
use Rattle.model.proofs.Rows.{past, passed_split, answered_passed, passes, and_then, decide-append}
use Rattle.model.proofs.Groups.{LentPassed, lent_passed, RequestPassed, request_passed}
use Rattle.model.proofs.Store.{length-mappings}
use Rattle.model.proofs.Zeros.{stale_zeros}
use Rattle.model.proofs.Operations.{operations_most}
use Rattle.table.specs.Places.{ValidIn}
use Rattle.change.specs.Change.{Ready}
use Rattle.ranges.specs.Lists.{lent_list, ValidList}
use Rattle.ranges.proofs.Fits.{empty_decides}
use Rattle.inspect.specs.Rows.{own_rows}
use Rattle.request.specs.Bound.{length_rows, contents_rows, checked_rows, Checked, Relistable}

-- a map's offset and size end by 2^48, and any other request has no offset
offset_most : {s : Space} (r : Request) → RequestPassed s r → r.offset ≤ limit
offset_most r p = go r.op (r.op + r.flags) (omega arith) p.object p.offset
  where
    go : (op n : ℕ) → op ≤ n → Alls (object_tests n r) → Alls (offset_tests op r) → r.offset ≤ limit
    go zero n l h k = omega (tests, k)
    go (suc op) zero l h k = absurd (omega arith)
    go (suc op) (suc n) l h k = omega (tests, h)

-- where rows 6 to 10 pass, a request can be carried out on a table that passed its check
ready_by : (s : Space) (t : Table) (r : Request) → Checked s t → RequestPassed s r → Ready r t
ready_by s t r c ask = record {
  table = c.table.0;
  behind = c.behind;
  not_empty = omega (tests, ask.alignment);
  stop_most = omega (tests, ask.range, c.space);
  offset_most = offset_most r ask;
}

pub ready_known : (s : Space) (t : Table) (r : Request) → Checked s t → answered tt ≡ verdict (request_rows s r) → Ready r t
ready_known s t r c e = ready_by s t r c (request_passed s r (answered_passed (request_rows s r) tt tt (sym e)).0)

-- no list keeps the rules
pub none_listed : (ws : List ℕ) (n : ℕ) → eqb (length ws) 0 && eqb n 0 ≡ true → (s : Space) → answered tt ≡ verdict (list_row s (lent_list ws n) ∷ [])
none_listed ws n e s =
    let k = and_both (eqb (length ws) 0) (eqb n 0) (subst T (sym e) tt) in
    let q : all (list_row s (lent_list ws n)).tests ≡ true = sym (empty_decides s ws n (eqb→eq _ 0 k.0)) ∙ eq-eqb n 0 (eqb→eq n 0 k.1) in
    sym (passes (list_row s (lent_list ws n) ∷ []) tt (all_facts (list_row s (lent_list ws n)).tests q, tt))

module _ (s : Space) (l : Lent) where
  valid_by : {between : List Row} → LentPassed s between l → ValidIn s l.table.words l.table.count
  valid_by p = (
    record {
      held = omega (tests, p.table.count);
      space = s;
      top = omega (tests, p.table.space);
      kept = eqb→eq _ _ p.table.places.0 ∙ length-mappings l.table.count l.table.words;
    },
    refl,
  )

  pub checked_of : {between : List Row} → LentPassed s between l → Checked s l.table
  checked_of p = record { space = p.table.space; table = valid_by p; behind = (stale_zeros l.table).0 p.table.behind }

  valid_list : {between : List Row} → LentPassed s between l → ValidList l.ranges.words l.ranges.count
  valid_list p = record { space = s; top = omega (tests, p.table.space); kept = all_true (list_row s l.ranges).tests p.list }

  pub passed : answered tt ≡ verdict (lent_rows s [] l) → LentPassed s [] l
  passed e = lent_passed s [] l (answered_passed (lent_rows s [] l) tt tt (sym e)).0

  pub valid : answered tt ≡ verdict (lent_rows s [] l) → ValidIn s l.table.words l.table.count
  valid e = valid_by (passed e)

  pub valid_ranges : answered tt ≡ verdict (lent_rows s [] l) → ValidList l.ranges.words l.ranges.count
  valid_ranges e = valid_list (passed e)

  -- the rows 1 to 5, 17 and 18 of a request, with n words lent for operations
  abbrev own : ℕ → List Row
  own n = lent_rows s (operations_row n l.table ∷ []) l

  module _ (n : ℕ) (r : Request) (e : answered tt ≡ verdict (checked_rows s l n r)) where
    groups : LentPassed s (operations_row n l.table ∷ []) l × RequestPassed s r
    groups =
        let p = passed_split (own n) (request_rows s r) (answered_passed (checked_rows s l n r) tt tt (sym e)).0 in
        (lent_passed s (operations_row n l.table ∷ []) l p.0, request_passed s r p.1)

    pub ready : Ready r l.table
    ready = ready_by s l.table r (checked_of groups.0) groups.1

    -- row 3 settles that the operations fit
    pub fits : 14 * length (operations r (mappings l.table)) ≤ n
    fits =
        let rows = groups.0.table in
        omega (tests, rows.others, rows.count, operations_most r (mappings l.table), length-mappings l.table.count l.table.words)

    pub relistable : Relistable r l
    relistable =
        let rows = groups.0 in
        let ask = groups.1 in
        record {
          table = (valid_by rows).0;
          list = valid_list rows;
          not_empty = omega (tests, ask.alignment);
          stop_most = omega (tests, ask.range, rows.table.space);
        }

  -- rows 1 to 5, 17 and 18, and those behind them
  pub checked_by : (n : ℕ) (r : Request) {u : Reply (Unit {0})} → u ≡ verdict (own n) → and_then u (verdict (request_rows s r)) ≡ verdict (checked_rows s l n r)
  checked_by n r e = rw e (sym (decide-append (own n) (request_rows s r) tt))

  -- past rows 1, 2 and 3 the space keeps its rules
  pub lengths_held : (n : ℕ) → answered tt ≡ verdict (length_rows s n l.table.words) → all (space_tests s) ≡ true
  lengths_held n e = all_true (space_tests s) (answered_passed (length_rows s n l.table.words) tt tt (sym e)).0.0

  -- rows 4, 5 and 17, and 18
  pub contents_by : {u v : Reply (Unit {0})} → u ≡ verdict (content_rows s l.table) → v ≡ verdict (list_row s l.ranges ∷ [])
      → and_then u v ≡ verdict (contents_rows s l)
  contents_by e f = rw (e, f) (sym (decide-append (content_rows s l.table) (list_row s l.ranges ∷ []) tt))

  -- rows 1, 2 and 3, those of a call that stand between, and the others
  pub lent_by : (n : ℕ) (between : List Row) {u v : Reply (Unit {0})} → u ≡ verdict (length_rows s n l.table.words)
      → v ≡ verdict (between ++ contents_rows s l) → and_then u v ≡ verdict (lent_rows s (operations_row n l.table ∷ between) l)
  unfolding lent_rows table_rows
  lent_by n between e f =
      rw (e, f, ← append_assoc between (content_rows s l.table) (list_row s l.ranges ∷ []))
      (sym (decide-append (length_rows s n l.table.words) ((between ++ content_rows s l.table) ++ list_row s l.ranges ∷ []) tt))

  -- a look-up's rows behind the first, and 18
  pub lookup_by : {u v : Reply (Unit {0})} → all (space_tests s) ≡ true → u ≡ verdict (own_rows s l.table) → v ≡ verdict (list_row s l.ranges ∷ [])
      → and_then u v ≡ verdict (lent_rows s [] l)
  unfolding lent_rows table_rows
  lookup_by h e f =
      rw (e, f) (sym (decide-append (own_rows s l.table) (list_row s l.ranges ∷ []) tt)
      ∙ sym (past (space_row s ∷ []) (own_rows s l.table ++ list_row s l.ranges ∷ []) tt (all_facts (space_tests s) h, tt)))
