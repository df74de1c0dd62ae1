-- From what the steps of a request answer to what it leaves.
-- Assumes nothing.
use mathlib.Core.Path.{◌≡◌, ap, subst, ◌∙◌}
use mathlib.Core.Bool.{true, false}
use mathlib.Core.List.{List, ◌++◌, flat_map}
use Prim.Native.Nat.{ℕ, ◌+◌, ◌-◌, ◌*◌, ◌/◌, ◌≤◌, ◌<◌}
use native.Mathlib.Omega.{arith}
use lib.Dec.{leb}
use lib.ListN.{length, drop}
use borrow.Author.Tests.{le-leb, lt-leb}
use Rattle.model.specs.declared.Mapping.{Mapping}
use Rattle.model.specs.declared.Request.{Request}
use Rattle.model.specs.Rows.{refused, answered, decide}
use Rattle.model.specs.Table.{mappings_in, written}
use Rattle.model.specs.Cut.{new as mapped, after, operations}
use Rattle.model.specs.declared.Operation.{Operation}
use Rattle.model.specs.Layout.{words_of_operation}
use Rattle.model.proofs.Operations.{operations-words}
use Rattle.words.specs.Words.{stored}
use Rattle.words.proofs.Stored.{stored_is}
use Rattle.table.specs.Places.{lent, between}
use Rattle.table.specs.Splice.{spliced}
use Rattle.cut.specs.Operations.{operations_for}
use Rattle.cut.proofs.Written.{length-operations}
use Rattle.table.proofs.Between.{length-between}
use Rattle.change.specs.Change.{BehindHits, changed}
use Rattle.change.proofs.Hits.{after_places, operations_places, length_places}

module _ {r : Request} {ws : List ℕ} {n lo hi : ℕ} (hits : BehindHits r (lent ws n) lo hi) (os : List ℕ)
    {new : List Mapping} (e : new ≡ after r (between ws lo hi)) {c : ℕ} (d : c ≡ length new) where
  abbrev ms : List Mapping
  ms = mappings_in n ws

  -- the count afterwards
  abbrev count : ℕ
  count = lo + c + (n - hi)

  counted : length (after r ms) ≡ count
  counted = subst (λ (k : ℕ). length (after r (mappings_in k ws)) ≡ lo + length (after r (between ws lo hi)) + (k - hi)) hits.count (length_places hits.placed) ∙ rw (d, e)

  placed_after : after r ms ≡ spliced ms lo hi (after r (between ws lo hi))
  placed_after = subst (λ (k : ℕ). after r (mappings_in k ws) ≡ spliced (mappings_in k ws) lo hi (after r (between ws lo hi))) hits.count (after_places hits.placed)

  placed_operations : operations r ms ≡ operations_for r (between ws lo hi)
  placed_operations = subst (λ (k : ℕ). operations r (mappings_in k ws) ≡ operations_for r (between ws lo hi)) hits.count (operations_places hits.placed)

  abbrev written_out : List Operation
  written_out = operations_for r (between ws lo hi)

  -- the number of operations, by the places
  number : {k : ℕ} → k ≡ hi - lo + length (mapped r) → length written_out ≡ k
  number f = length-operations r (between ws lo hi) ∙ rw (length-between ws lo hi, f)

  pub fits_places : {k m : ℕ} → k ≡ hi - lo + length (mapped r) → 14 * k ≤ m → 14 * length written_out ≤ m
  fits_places f h = omega (arith, number f, h)

  -- rows 11 and 16, by the count and the number
  has_room : count ≤ length ws / 4 → leb (length (after r ms)) (length ws / 4) ≡ true
  has_room h = le-leb (length (after r ms)) (length ws / 4) (omega (arith, counted, h))

  same_number : length (operations r ms) ≡ length written_out
  same_number = ap length placed_operations

  pub full : length ws / 4 < count → changed r (lent ws n) os ≡ record { reply = refused 11 0; table = ws; operations = os }
  unfolding changed decide
  full h =
      let q : leb (length (after r ms)) (length ws / 4) ≡ false = lt-leb (length (after r ms)) (length ws / 4) (omega (arith, counted, h)) in
      simp q

  pub short : {k : ℕ} → count ≤ length ws / 4 → k ≡ hi - lo + length (mapped r) → length os < 14 * k
      → changed r (lent ws n) os ≡ record { reply = refused 16 0; table = ws; operations = os }
  unfolding changed decide
  short h f k =
      let w : leb (14 * length (operations r ms)) (length os) ≡ false =
      lt-leb (14 * length (operations r ms)) (length os) (omega (arith, same_number, number f, k)) in
      simp (has_room h, w)

  pub carried_out : {k : ℕ} {us vs : List ℕ} → count ≤ length ws / 4 → k ≡ hi - lo + length (mapped r) → 14 * k ≤ length os
      → us ≡ stored os 0 (flat_map words_of_operation (operations_for r (between ws lo hi)))
      → vs ≡ written (length ws) (spliced ms lo hi new)
      → changed r (lent ws n) os ≡ record { reply = answered (record { operations = k; count = count }); table = vs; operations = us }
  unfolding changed decide
  carried_out {k} {us} {vs} h f m wrote table =
      let w : leb (14 * length (operations r ms)) (length os) ≡ true =
      le-leb (14 * length (operations r ms)) (length os) (omega (arith, same_number, number f, m)) in
      let l : 0 + length (flat_map words_of_operation written_out) ≡ 14 * length written_out = omega (arith, operations-words written_out) in
      let words : us ≡ flat_map words_of_operation written_out ++ drop (14 * length written_out) os = wrote ∙ stored_is os 0 (flat_map words_of_operation written_out) ∙ rw l in
      let d : k ≡ length written_out = omega (arith, number f) in
      simp (has_room h, w) (rw (counted, d, words, table, e, ← placed_after, placed_operations))
