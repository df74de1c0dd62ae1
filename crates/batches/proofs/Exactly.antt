-- A batch gives a line's answer exactly if the line's rule is broken and no line's above it; what an empty batch does;
-- and the whole claim.
-- Assumes nothing.
use mathlib.Core.Path.{◌≡◌, refl, sym, ap, ap₂, ◌∙◌}
use mathlib.Core.HLevel.{is_prop→PathP}
use mathlib.Core.List.{List, [], ◌∷◌, flat_map}
use Prim.Native.Nat.{ℕ, ◌+◌, ◌*◌, ◌/◌, ◌≤◌}
use lib.ListN.{length, replicate}
use Rattle.model.specs.Rows.{Row, Reply, answered, decide, verdict}
use Rattle.model.specs.Table.{capacity, mappings, operations_row}
use Rattle.model.specs.Calls.{Lent, lent_rows, see_in, lookup, numbered}
use Rattle.model.specs.declared.Refusal.{Refusal}
use Rattle.model.specs.declared.Refusal.TheVariants.{BadSpace, BadTableLength, ShortOperations, BadCount, BadMapping, Unaligned, OutsideSpace, Reserved, BadObject, BadOffset, NoRoom, BadRecordLength, BadOp, BadFlags, BadWorkLength, ShortOutput, StaleWords, BadRanges, RangeOverlaps, NoSuchRange}
use Rattle.std.specs.Prelude.{Result, Ok, Err}
use native.Mathlib.Nat.{ℕ_set}
use Rattle.model.specs.Exactly.{Pins, seen}
use Rattle.model.specs.declared.Seen.{Seen}
use Rattle.model.proofs.Tests.{tests}
use Rattle.model.proofs.Rows.{decide-append, passes, answered_passed}
use Rattle.model.proofs.Groups.{lent_passed, passed_lent, other_between}
use Rattle.model.proofs.Exactly.{Answers}
use Rattle.model.proofs.Store.{length-mappings}
use Rattle.model.proofs.Taken.{takes_whole}
use Rattle.model.proofs.Pinned.{named}
use Rattle.batches.specs.Place.{place_in}
use Rattle.batches.specs.Prelude.{Space, Request, Grant}
use Rattle.batches.specs.Batch.{records_in, requests_in, batch_row, work_row, batch_rows, turns_rows, after_all, operations_all, batch_grant, batch_outcome, turns, bind_batch, batch_reply}
use Rattle.batches.specs.Exactly.{batch_refusals, BatchExactly}
use Rattle.batches.specs.declared.BatchRefusal.{BatchRefusal}
use Rattle.batches.proofs.Lines.{of_rows}
use Rattle.batches.proofs.Records.{read_back}
use Rattle.batches.proofs.Batch.{batch_answer}
use Rattle.batches.proofs.Refusals.{refuses, never_short}

of_batch : (s : Space) (l : Lent) (ws os bs : List ℕ) → Answers (bind_batch s l ws os bs).answer (batch_refusals s l (length ws) (length os) bs)
unfolding bind_batch
of_batch s l ws os bs a =
    let rs : List Request = requests_in bs in
    let own : List Row = batch_rows s l (length ws) (length os) bs in
    let e = batch_answer (verdict own) (turns s l (length os) rs) rs l ws os
    ∙ sym (decide-append own (turns_rows s (capacity l.table) (length os) 0 rs (mappings l.table)) (batch_grant rs l)) in
    let k = of_rows s l (length ws) (length os) bs a in
    (λ h. k.0 (sym e ∙ h), λ h. e ∙ k.1 h)

-- ── an empty batch ──

empty : (s : Space) (l : Lent) (ws os : List ℕ) (x : ℕ) (v : Seen) → lookup s l x ≡ answered v
    → (length l.table.words / 4 + 1) * 14 ≤ length os → length ws ≡ length l.table.words
    → bind_batch s l ws os [] ≡ record {
      answer = answered (record { operations = 0; count = l.table.count; ranges = l.ranges.count });
      table = l.table.words;
      work = replicate (length ws) 0;
      operations = os;
    }
unfolding bind_batch requests_in records_in batch_rows turns_rows decide after_all operations_all flat_map lookup
empty s l ws os x v e three fifteen =
    ap (λ (u : Reply (Unit {0})). batch_outcome u (answered (batch_grant [] l)) [] l ws os) own
    ∙ (λ i. record {
      answer = answered (record { operations = 0; count = length-mappings l.table.count l.table.words i; ranges = l.ranges.count });
      table = sym (takes_whole.table l (seen s x v e)).all i;
      work = replicate (length ws) 0;
      operations = os;
    })
  where
    between : List Row
    between = operations_row (length os) l.table ∷ work_row (length ws) l.table ∷ []

    own : verdict (batch_rows s l (length ws) (length os) []) ≡ answered tt
    own = passes (batch_row [] ∷ lent_rows s between l) tt (
      (tt, (tt, tt)),
      passed_lent (other_between {others = between}
          (lent_passed s [] l (answered_passed (lent_rows s [] l) (see_in s l x) v e).0) ((omega (tests, three), tt), ((omega (tests, fifteen), tt), tt))),
    )

-- ── the code's answers ──

-- the number and the place give the refusal back, since a bad mapping's place is its own
refusal_back : (w : Refusal) (p : ℕ) → place_in w p ≡ p → named (numbered w).0 p ≡ w
refusal_back (BadMapping q) p e = ap BadMapping (sym e)
refusal_back BadSpace p e = refl
refusal_back BadTableLength p e = refl
refusal_back ShortOperations p e = refl
refusal_back BadCount p e = refl
refusal_back Unaligned p e = refl
refusal_back OutsideSpace p e = refl
refusal_back Reserved p e = refl
refusal_back BadObject p e = refl
refusal_back BadOffset p e = refl
refusal_back NoRoom p e = refl
refusal_back BadRecordLength p e = refl
refusal_back BadOp p e = refl
refusal_back BadFlags p e = refl
refusal_back BadWorkLength p e = refl
refusal_back ShortOutput p e = refl
refusal_back StaleWords p e = refl
refusal_back BadRanges p e = refl
refusal_back RangeOverlaps p e = refl
refusal_back NoSuchRange p e = refl

same : (a b : BatchRefusal) → (numbered a.refusal).0 ≡ (numbered b.refusal).0 → a.place ≡ b.place → a ≡ b
same a b d p =
    let r : a.refusal ≡ b.refusal = sym (refusal_back a.refusal a.place a.own) ∙ ap₂ named d p ∙ refusal_back b.refusal b.place b.own in
    λ i. record { refusal = r i; place = p i; own = is_prop→PathP (λ j. place_in (r j) (p j) ≡ p j) (λ j. ℕ_set (place_in (r j) (p j)) (p j)) a.own b.own i }

pinned : Pins {A = Result Grant BatchRefusal} batch_reply
pinned (Ok g) (Ok h) e = cc
pinned (Ok g) (Err b) e = cc
pinned (Err a) (Ok h) e = cc
pinned (Err a) (Err b) e = ap Err (same a b (cc) (cc))

pub exactly : BatchExactly
exactly = record { of_batch = of_batch; refuses = refuses; empty = empty; never_short = never_short; records = read_back; pinned = pinned }
