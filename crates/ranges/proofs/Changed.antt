-- What is answered where a range is to be added or removed, row by row, and the list's words after it.
-- Assumes nothing.
use mathlib.Core.Path.{◌≡◌, sym, ap, ◌∙◌}
use mathlib.Core.Bool.{true, false}
use mathlib.Core.List.{List}
use Prim.Native.Nat.{ℕ, ◌/◌, ◌≤◌, ◌<◌}
use lib.ListN.{length}
use borrow.Author.Tests.{lt-ltb, le-ltb}
use Rattle.model.specs.declared.Range.{Range}
use Rattle.model.specs.Rows.{all, refused, answered, decide}
use Rattle.model.specs.Ranges.{RangeList, ranges, list_written, insert_range, listed, remove_range}
use Rattle.ranges.specs.Changes.{ListOutcome, overlap_row, added, removed}

abbrev written : List ℕ → ListOutcome
written ws = record { answer = answered tt; words = ws }

module _ (x : Range) (l : RangeList) where
  pub overlap_refused : all (overlap_row x l).tests ≡ false → record { answer = refused 19 0; words = l.words } ≡ added x l
  unfolding added decide
  overlap_refused f = simp f

  module _ (t : all (overlap_row x l).tests ≡ true) where
    pub full_refused : length l.words / 2 ≤ l.count → record { answer = refused 11 0; words = l.words } ≡ added x l
    unfolding added decide
    full_refused h = simp (t, le-ltb l.count (length l.words / 2) h)

    pub added_is : {ws : List ℕ} {zs : List Range} → l.count < length l.words / 2 → insert_range x (ranges l) ≡ zs
        → ws ≡ list_written (length l.words) zs → written ws ≡ added x l
    unfolding added decide
    added_is {ws} {zs} h p w =
        simp (t, lt-ltb l.count (length l.words / 2) h)
        (ap written (w ∙ ap (list_written (length l.words)) (sym p)))

  pub absent_refused : listed x (ranges l) ≡ false → record { answer = refused 20 0; words = l.words } ≡ removed x l
  unfolding removed decide
  absent_refused f = simp f

  pub removed_is : {ws : List ℕ} {zs : List Range} → listed x (ranges l) ≡ true → remove_range x (ranges l) ≡ zs
      → ws ≡ list_written (length l.words) zs → written ws ≡ removed x l
  unfolding removed decide
  removed_is {ws} {zs} t p w = simp t (ap written (w ∙ ap (list_written (length l.words)) (sym p)))
