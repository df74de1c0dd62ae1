-- A batch by what its own rows say: a refusal changes nothing, and where they pass, what the code leaves is what
-- `bind_batch` says.
-- Assumes nothing.
use mathlib.Core.Path.{◌≡◌, refl, sym, ap, ap₂, ◌∙◌}
use mathlib.Core.Bool.{Bool, true, false}
use mathlib.Core.List.{List, [], ◌∷◌}
use Prim.Native.Nat.{ℕ}
use lib.ListN.{length, replicate}
use Rattle.model.specs.declared.Grant.{Grant}
use Rattle.model.specs.declared.Mapping.{Mapping}
use Rattle.model.specs.declared.Request.{Request}
use Rattle.model.specs.declared.Space.{Space}
use Rattle.model.specs.Rows.{all, choose, Row, Reply, refused, answered, decide, verdict}
use Rattle.model.specs.Table.{capacity, mappings, operations_row}
use Rattle.model.specs.Calls.{Lent, lent_rows}
use Rattle.model.proofs.Tests.{tests}
use Rattle.model.proofs.Rows.{answered_passed}
use Rattle.model.proofs.Groups.{LentPassed, lent_passed, other_between}
use Rattle.model.proofs.Store.{length-mappings}
use Rattle.model.proofs.Granted.{Good}
use Rattle.batches.proofs.Relent.{relent_same}
use Rattle.batches.specs.Batch.{requests_in, batch_row, work_row, batch_rows, turns_rows, batch_outcome, turns, bind_batch}
use Rattle.request.specs.Bound.{Checked}
use Rattle.request.proofs.Checked.{checked_of}
use Rattle.change.specs.declared.Made.{Made}
use Rattle.change.specs.Change.{Changed}
use Rattle.batch.specs.Turns.{turned, committing, committed}
use Rattle.batch.proofs.Turned.{made_all, Whole, Is, turned_is}

-- with the count of sparse ranges
abbrev with_ranges : ℕ → Reply Made → Reply Grant
with_ranges k (refused n p) = refused n p
with_ranges k (answered g) = answered (record { operations = g.operations; count = g.count; ranges = k })

ranges-decide : (k : ℕ) (ws : List Row) (g : Made) → with_ranges k (decide ws g) ≡ decide ws (record { operations = g.operations; count = g.count; ranges = k })
unfolding decide
ranges-decide k [] g = refl
ranges-decide k (w ∷ ws) g = go (all w.tests) (ranges-decide k ws g)
  where
    go : (b : Bool) → with_ranges k (decide ws g) ≡ decide ws (record { operations = g.operations; count = g.count; ranges = k })
        → with_ranges k (choose b (decide ws g) (refused w.number w.place))
        ≡ choose b (decide ws (record { operations = g.operations; count = g.count; ranges = k })) (refused w.number w.place)
    go true ih = ih
    go false ih = refl

module _ (s : Space) (l : Lent) (ws os bs : List ℕ) where
  abbrev between : List Row
  between = operations_row (length os) l.table ∷ work_row (length ws) l.table ∷ []

  abbrev rows : List Row
  rows = batch_rows s l (length ws) (length os) bs

  refused_by : {n p : ℕ} → refused n p ≡ verdict rows → bind_batch s l ws os bs ≡ record { answer = refused n p; table = l.table.words; work = ws; operations = os }
  unfolding bind_batch
  refused_by e = ap (λ (u : Reply (Unit {0})). batch_outcome u (turns s l (length os) (requests_in bs)) (requests_in bs) l ws os) (sym e)

  -- row 12
  pub not_records : false ≡ all (batch_row bs).tests
      → bind_batch s l ws os bs ≡ record { answer = refused 12 0; table = l.table.words; work = ws; operations = os }
  unfolding batch_rows decide
  not_records e = refused_by (ap (λ (b : Bool). choose b (verdict (lent_rows s between l)) (refused 12 0)) e)

  -- and those behind it
  module _ (records : true ≡ all (batch_row bs).tests) where
    behind : {u : Reply (Unit {0})} → u ≡ verdict (lent_rows s between l) → u ≡ verdict rows
    unfolding batch_rows decide
    behind e = e ∙ ap (λ (b : Bool). choose b (verdict (lent_rows s between l)) (refused 12 0)) records

    pub not_taken : {n p : ℕ} → refused n p ≡ verdict (lent_rows s between l)
        → bind_batch s l ws os bs ≡ record { answer = refused n p; table = l.table.words; work = ws; operations = os }
    not_taken e = refused_by (behind e)

    module _ (e : answered tt ≡ verdict (lent_rows s between l)) where
      passed : LentPassed s between l
      passed = lent_passed s between l (answered_passed (lent_rows s between l) tt tt (sym e)).0

      pub checked : Checked s l.table
      checked = checked_of s l passed

      pub as_long : length ws ≡ length l.table.words
      as_long = omega (tests, passed.table.others)

      whole : Whole l.table
      whole =
          let good : Good s (length os) l = other_between passed (passed.table.others.0, tt) in
          (sym (ap (λ (k : Lent). k.table.words) (relent_same s (length os) l good)), length-mappings l.table.count l.table.words)

      pub batch_is : bind_batch s l ws os bs ≡ committed l.ranges.count (turned s 0 (requests_in bs) l.table os) l.table.words ws os
      unfolding bind_batch committed
      batch_is =
          ap (λ (u : Reply (Unit {0})). batch_outcome u (turns s l (length os) rs) rs l ws os) (sym (behind e))
          ∙ ap (λ (d : Reply Grant). batch_outcome (answered tt) d rs l ws os)
          (sym (ap (with_ranges k) w.reply ∙ ranges-decide k (turns_rows s (capacity l.table) (length os) 0 rs ms) (made_all rs ms)))
          ∙ go o.reply refl
        where
          rs : List Request
          rs = requests_in bs

          ms : List Mapping
          ms = mappings l.table

          k : ℕ
          k = l.ranges.count

          o : Changed
          o = turned s 0 rs l.table os

          w : Is s 0 rs l.table os
          w = turned_is s 0 rs l.table os whole

          go : (a : Reply Made) → o.reply ≡ a → batch_outcome (answered tt) (with_ranges k a) rs l ws os ≡ committing k a o l.table.words ws os
          go (refused n p) e = refl
          go (answered g) e =
              let x = w.leaves g e in
              ap₂ (λ (t us : List ℕ). record { answer = with_ranges k (answered g); table = t; work = replicate (length ws) 0; operations = us })
              (sym x.0) (sym x.1)
