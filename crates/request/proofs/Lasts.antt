-- Where the rows up to 10, 17 and 18 passed: what the last rows leave, by what the request is for.
-- Assumes nothing.
use mathlib.Core.Path.{◌≡◌, refl, sym, ap, ◌∙◌}
use mathlib.Core.Bool.{Bool, true, false}
use mathlib.Core.List.{List, [], ◌∷◌}
use Prim.Native.Nat.{ℕ, zero, suc, ◌+◌, ◌-◌, ◌*◌, ◌≤◌, ◌<◌}
use native.Mathlib.Omega.{arith}
use lib.ListN.{length}
use borrow.Author.Tests.{le-leb}
use Rattle.model.specs.declared.Grant.{Grant}
use Rattle.model.specs.declared.Range.{Range}
use Rattle.model.specs.declared.Request.{Request}
use Rattle.model.specs.Rows.{all, choose, Row, Reply, refused, answered, decide}
use Rattle.model.specs.Rules.{stop}
use Rattle.model.specs.Table.{mappings}
use Rattle.model.specs.Ranges.{RangeList, ranges, listed, insert_range, remove_range}
use Rattle.model.specs.Cut.{operations}
use Rattle.model.specs.Calls.{Lent, cuts, adds, removes, purpose_for, purpose, range_of, cut_grant, list_grant, Outcome, untouched, outcome_for}
use Rattle.model.specs.Exactly.{◌∈◌}
use Rattle.model.proofs.Tests.{all_facts, all_true, all_false, not_facts}
use Rattle.model.proofs.Rows.{and_then, not_both}
use Rattle.model.proofs.Ranges.{listed_says, length-ranges}
use Rattle.model.proofs.Relisted.{insert-length, remove_length}
use Rattle.table.specs.Places.{free_tests}
use Rattle.ranges.specs.Changes.{ListOutcome, overlap_row, full_row, added, removed}
use Rattle.change.specs.declared.Made.{Made}
use Rattle.change.specs.Change.{Changed, changed_for, made, room_rows, changed}
use Rattle.request.specs.Bound.{decided, cutting}

-- ── without the flag ──

-- a change of the table, with the list beside it
abbrev pub with_list : Reply Made → ℕ → Reply Grant
with_list (refused n p) k = refused n p
with_list (answered g) k = answered (record { operations = g.operations; count = g.count; ranges = k })

abbrev pub beside_list : Lent → Changed → Outcome
beside_list l c = record { answer = with_list c.reply l.ranges.count; table = c.table; ranges = l.ranges.words; operations = c.operations }

-- what rows decide of a request that cuts the table, with the list's count and without
pub list_beside : (r : Request) (l : Lent) (os : List ℕ) (ws : List Row)
    → outcome_for (decide ws (cut_grant r l)) cuts r l os ≡ beside_list l (changed_for (decide ws (made r l.table)) r l.table os)
unfolding decide
list_beside r l os [] = refl
list_beside r l os (w ∷ ws) = go (all w.tests) (list_beside r l os ws)
  where
    go : (b : Bool) → outcome_for (decide ws (cut_grant r l)) cuts r l os ≡ beside_list l (changed_for (decide ws (made r l.table)) r l.table os)
        → outcome_for (choose b (decide ws (cut_grant r l)) (refused w.number w.place)) cuts r l os
        ≡ beside_list l (changed_for (choose b (decide ws (made r l.table)) (refused w.number w.place)) r l.table os)
    go true ih = ih
    go false ih = refl

pub cuts_by : (r : Request) (l : Lent) (os : List ℕ) {u : Reply Made} {ws vs : List ℕ} → changed r l.table os ≡ record { reply = u; table = ws; operations = vs }
    → cutting r l os ≡ record { answer = with_list u l.ranges.count; table = ws; ranges = l.ranges.words; operations = vs }
unfolding changed cutting
cuts_by r l os e = list_beside r l os (room_rows r l.table (length os)) ∙ ap (beside_list l) e

-- row 16 has nothing to say where the operations fit
pub fits_settled : (r : Request) (l : Lent) (os : List ℕ) → 14 * length (operations r (mappings l.table)) ≤ length os → decided cuts r l os ≡ cutting r l os
unfolding decided cutting decide
fits_settled r l os fits = simp (le-leb (14 * length (operations r (mappings l.table))) (length os) fits)

-- ── with the flag ──

-- one that was removed was there
removed-listed : (x : Range) (l : RangeList) {ws : List ℕ} → record { answer = answered tt; words = ws } ≡ removed x l → x ∈ ranges l
unfolding removed decide
removed-listed x l {ws} e = go (listed x (ranges l)) refl
  where
    go : (b : Bool) → listed x (ranges l) ≡ b → x ∈ ranges l
    go true p = (listed_says x (ranges l)).0 (rw p tt)
    go false p =
        let d : ◌≡◌ {A = ListOutcome} (record { answer = answered tt; words = ws }) (record { answer = refused 20 0; words = l.words }) = rw p at e in
        absurd (not_both (sym (ap (λ (c : ListOutcome). c.answer) d)))

pub removed_some : (x : Range) (l : RangeList) {ws : List ℕ} → record { answer = answered tt; words = ws } ≡ removed x l → 0 < l.count
removed_some x l e = omega (arith, remove_length x (ranges l) (removed-listed x l e), length-ranges l.count l.words)

-- what a request with the flag is for
pub for_adding : (r : Request) → 0 < r.flags → r.op ≡ 0 → purpose r ≡ adds
for_adding r h e = go r.flags h
  where
    go : (f : ℕ) → 0 < f → purpose_for f r.op ≡ adds
    go zero h = absurd (omega arith)
    go (suc f) h = ap (purpose_for (suc f)) e

pub for_removing : (r : Request) → 0 < r.flags → (r.op ≡ 0 → ⊥) → purpose r ≡ removes
for_removing r h n = go r.flags h r.op refl
  where
    go : (f : ℕ) → 0 < f → (o : ℕ) → r.op ≡ o → purpose_for f o ≡ removes
    go zero h o e = absurd (omega arith)
    go (suc f) h zero e = absurd (n e)
    go (suc f) h (suc o) e = refl

module _ (r : Request) (l : Lent) (os : List ℕ) where
  abbrev ys : List Range
  ys = ranges l.ranges

  counted : length ys ≡ l.ranges.count
  counted = length-ranges l.ranges.count l.ranges.words

  -- a grant of so many ranges, in these words
  abbrev granted : ℕ → List ℕ → Outcome
  granted k ws = record {
    answer = answered (record { operations = 0; count = l.table.count; ranges = k });
    table = l.table.words;
    ranges = ws;
    operations = os;
  }

  -- the table and the operation words as they were, beside a change of the list to zs
  abbrev besides : List Range → ListOutcome → Outcome
  besides zs c = record { answer = and_then c.answer (answered (list_grant zs l)); table = l.table.words; ranges = c.words; operations = os }

  adds_by : decided adds r l os ≡ besides (insert_range (range_of r) ys) (added (range_of r) l.ranges)
  unfolding decided decide added
  adds_by = go (all (overlap_row (range_of r) l.ranges).tests) refl (all (full_row l.ranges).tests) refl
    where
      go : (a : Bool) → all (overlap_row (range_of r) l.ranges).tests ≡ a → (b : Bool) → all (full_row l.ranges).tests ≡ b
          → decided adds r l os ≡ besides (insert_range (range_of r) ys) (added (range_of r) l.ranges)
      go true p true q = simp (p, q)
      go true p false q = simp (p, q)
      go false p b q = simp p

  pub adds_refused : {n p : ℕ} {ws : List ℕ} → record { answer = refused n p; words = ws } ≡ added (range_of r) l.ranges
      → decided adds r l os ≡ record { answer = refused n p; table = l.table.words; ranges = ws; operations = os }
  adds_refused e = adds_by ∙ ap (besides (insert_range (range_of r) ys)) (sym e)

  pub adds_granted : {ws : List ℕ} → record { answer = answered tt; words = ws } ≡ added (range_of r) l.ranges
      → decided adds r l os ≡ granted (l.ranges.count + 1) ws
  adds_granted {ws} e =
      let n : length (insert_range (range_of r) ys) ≡ l.ranges.count + 1 = omega (arith, insert-length (range_of r) ys, counted) in
      adds_by ∙ ap (besides (insert_range (range_of r) ys)) (sym e) ∙ ap (λ (k : ℕ). granted k ws) n

  abbrev free : List Bool
  free = free_tests r.address (stop r) (mappings l.table)

  -- a mapping shares a byte with the range
  pub removes_mapped : false ≡ all free → decided removes r l os ≡ untouched (refused 20 0) l os
  unfolding decided decide
  removes_mapped e =
      let q : all (listed (range_of r) ys ∷ free) ≡ false = all_false (listed (range_of r) ys ∷ free) (λ h. not_facts free (sym e) h.1) in
      simp q

  module _ (f : true ≡ all free) where
    removes_by : decided removes r l os ≡ besides (remove_range (range_of r) ys) (removed (range_of r) l.ranges)
    unfolding decided decide removed
    removes_by = go (listed (range_of r) ys) refl
      where
        together : (b : Bool) → listed (range_of r) ys ≡ b → all (listed (range_of r) ys ∷ free) ≡ b
        together true p = all_true (listed (range_of r) ys ∷ free) (rw p tt, all_facts free (sym f))
        together false p = all_false (listed (range_of r) ys ∷ free) (λ h. rw p at h.0)

        go : (b : Bool) → listed (range_of r) ys ≡ b → decided removes r l os ≡ besides (remove_range (range_of r) ys) (removed (range_of r) l.ranges)
        go true p = simp (together true p) (simp p)
        go false p = simp (together false p) (simp p)

    pub removes_refused : {n p : ℕ} {ws : List ℕ} → record { answer = refused n p; words = ws } ≡ removed (range_of r) l.ranges
        → decided removes r l os ≡ record { answer = refused n p; table = l.table.words; ranges = ws; operations = os }
    removes_refused e = removes_by ∙ ap (besides (remove_range (range_of r) ys)) (sym e)

    pub removes_granted : {ws : List ℕ} → record { answer = answered tt; words = ws } ≡ removed (range_of r) l.ranges
        → decided removes r l os ≡ granted (l.ranges.count - 1) ws
    removes_granted {ws} e =
        let n : length (remove_range (range_of r) ys) ≡ l.ranges.count - 1 =
        omega (arith, remove_length (range_of r) ys (removed-listed (range_of r) l.ranges e), counted) in
        removes_by ∙ ap (besides (remove_range (range_of r) ys)) (sym e) ∙ ap (λ (k : ℕ). granted k ws) n
