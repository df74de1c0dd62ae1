-- What the table's check answers, by the place that its loop gives and the look behind.
-- Assumes nothing.
use Rattle.std.proofs.Common.{◌≡◌, ℕ, ◌*◌, ◌<◌, ◌≤◌, true, eqb, length, sym, ◌∙◌, eq-eqb, ne_eqb, le-leb}
use borrow.Author.Tests.{lt-leb}
use Rattle.model.specs.declared.Space.{Space}
use Rattle.model.specs.Rows.{refused, answered, decide, verdict}
use Rattle.model.specs.Table.{Table, capacity, mappings, bad_place, stale_row, content_rows}
use Rattle.model.proofs.Tests.{all_true, all_false}
use Rattle.model.proofs.Store.{length-mappings}
use Rattle.model.proofs.Zeros.{stale_zeros}
use Rattle.words.specs.Words.{ZeroFrom}

module _ (s : Space) (t : Table) where
  pub count_refused : capacity t < t.count → refused 4 0 ≡ verdict (content_rows s t)
  unfolding decide
  count_refused h = simp (lt-leb t.count (capacity t) h)

  module _ (h : t.count ≤ capacity t) where
    pub mapping_refused : (p : ℕ) → p ≡ bad_place s 0 (mappings t) → (p ≡ t.count → ⊥) → refused 5 p ≡ verdict (content_rows s t)
    unfolding decide
    mapping_refused p e n =
        let k = ne_eqb (bad_place s 0 (mappings t)) (length (mappings t)) (λ q. n (e ∙ q ∙ length-mappings t.count t.words)) in
        simp (le-leb t.count (capacity t) h, k, e)

    module _ (q : bad_place s 0 (mappings t) ≡ t.count) where
      none_bad : eqb (bad_place s 0 (mappings t)) (length (mappings t)) ≡ true
      none_bad = eq-eqb (bad_place s 0 (mappings t)) (length (mappings t)) (q ∙ sym (length-mappings t.count t.words))

      pub stale_refused : (ZeroFrom t.words (4 * t.count) → ⊥) → refused 17 0 ≡ verdict (content_rows s t)
      unfolding decide
      stale_refused n = simp (le-leb t.count (capacity t) h, none_bad, all_false (stale_row t).tests (λ z. n ((stale_zeros t).0 z)))

      pub table_passed : ZeroFrom t.words (4 * t.count) → answered tt ≡ verdict (content_rows s t)
      unfolding decide
      table_passed z = simp (le-leb t.count (capacity t) h, none_bad, all_true (stale_row t).tests ((stale_zeros t).1 z))
