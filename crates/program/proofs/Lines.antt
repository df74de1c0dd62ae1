-- The text of each kind of line, whatever its numbers.
-- Assumes nothing.
use mathlib.Core.Path.{◌≡◌, refl, ap₂}
use mathlib.Core.Bool.{Bool}
use mathlib.Core.List.{◌++◌, append_assoc, append-nil}
use Rattle.model.specs.Rows.{choose}
use Rattle.program.specs.Prelude.{Mapping}
use Rattle.program.specs.Text.{ascii, spaced, mapping_line, keep_line}
use Rattle.program.specs.Lines.{keep_text, rest_text, OperationTexts, LineTexts}

pub line_texts : LineTexts
unfolding ascii spaced
line_texts p os = record {
  of_space = λ n. simp append-nil;
  of_grant = λ g. simp (append_assoc, append-nil);
  of_nothing = λ x n. simp append-nil;
  of_sparse = λ x n. simp append-nil;
  of_object = λ x o f n. simp (append_assoc, append-nil);
  of_refusal = λ n q. simp append-nil;
  of_mark = simp append-nil;
  of_cut = simp append-nil;
  of_end = refl;
}

-- ── operations ──

remap_line : (keep : Bool) (m : Mapping) → keep_line "remap" keep m ≡ keep_text (ascii "remap ") m (choose keep 1 0)
unfolding ascii spaced
remap_line keep m = simp (append_assoc, append-nil)

lower-line : (l : Mapping) → mapping_line "lower" l ≡ rest_text (ascii "lower ") l
unfolding ascii spaced
lower-line l = simp (append_assoc, append-nil)

upper-line : (u : Mapping) → mapping_line "upper" u ≡ rest_text (ascii "upper ") u
unfolding ascii spaced
upper-line u = simp (append_assoc, append-nil)

pub operation_texts : OperationTexts
unfolding ascii spaced
operation_texts = record {
  of_map = λ m. simp (append_assoc, append-nil);
  of_unmap = λ keep m. simp (append_assoc, append-nil);
  lower_left = λ keep m l. ap₂ ◌++◌ (remap_line keep m) (lower-line l);
  upper_left = λ keep m u. ap₂ ◌++◌ (remap_line keep m) (upper-line u);
  both_left = λ keep m l u. ap₂ ◌++◌ (remap_line keep m) (ap₂ ◌++◌ (lower-line l) (upper-line u));
}
