-- What the listing of page entries answers, by its tests.
-- Assumes nothing.
use mathlib.Core.Path.{◌≡◌, sym, ap, ◌∙◌}
use mathlib.Core.Bool.{true, false}
use mathlib.Core.List.{List, ◌++◌, flat_map}
use Prim.Native.Nat.{ℕ, ◌+◌, ◌*◌, ◌≤◌, ◌<◌}
use native.Mathlib.Omega.{arith}
use lib.ListN.{length, drop}
use borrow.Author.Tests.{le-leb, lt-leb}
use Rattle.model.specs.declared.Mapping.{Mapping}
use Rattle.model.specs.Rows.{all, refused, answered, decide}
use Rattle.model.specs.Rules.{limit, mapping_tests}
use Rattle.model.specs.Table.{fit_tests}
use Rattle.model.proofs.Tests.{tests, all_facts, all_same}
use Rattle.pages.specs.Pages.{largest, smaller, entry_count, entries, entry_words, whole_space, page_rows, page_entries}
use Rattle.pages.proofs.Counts.{length_entry_words}
use Rattle.words.specs.Words.{stored}
use Rattle.entries.specs.declared.PageSize.{PageSize}
use Rattle.entries.specs.declared.PageSize.TheVariants.{Page1G}
use Rattle.entries.specs.Sizes.{largest_in, cover_to, count_to, Listable, Wrote}
use Rattle.entries.proofs.Counts.{cover_largest_in, count_cover, count_whole}

-- the table's test also asks for a start at 0 or behind
fits_alone : (m : Mapping) → all (fit_tests whole_space 0 m) ≡ all (mapping_tests whole_space m)
fits_alone m = all_same (fit_tests whole_space 0 m) (mapping_tests whole_space m) (λ h. h.1) (λ h. (omega tests, h))

pub broken : (m : Mapping) (ws : List ℕ) → all (fit_tests whole_space 0 m) ≡ false → page_entries m ws ≡ record { answer = refused 5 0; words = ws }
unfolding page_entries page_rows decide
broken m ws e = rw (sym (fits_alone m) ∙ e)

-- a mapping that keeps its rules, of n entries
module _ (m : Mapping) (h : all (fit_tests whole_space 0 m) ≡ true) where
  kept : all (mapping_tests whole_space m) ≡ true
  kept = sym (fits_alone m) ∙ h

  pub listable : Listable m
  listable = let t = all_facts (fit_tests whole_space 0 m) h in record {
    end_most = omega tests;
    offset_most = omega tests;
    multiples = (omega tests, omega tests, omega tests);
  }

  pub count_fits : 3 * count_to Page1G m ≤ 3 * limit
  count_fits = let k = listable in omega (arith, count_whole m k, k.end_most)

  -- written from the largest size on that it can have
  module _ {s : PageSize} (e : s ≡ largest_in m.size) where
    from_largest : cover_to s m ≡ cover_to Page1G m
    from_largest = ap (λ (s : PageSize). cover_to s m) e ∙ cover_largest_in m listable

    pub length_listed : length (cover_to s m) ≡ count_to Page1G m
    length_listed = ap length from_largest ∙ sym (count_cover Page1G m)

  module _ (ws : List ℕ) {n : ℕ} (c : n ≡ count_to Page1G m) where
    counted : n ≡ entry_count largest smaller m
    unfolding count_to
    counted = c

    pub too_short : length ws < 3 * n → page_entries m ws ≡ record { answer = refused 16 0; words = ws }
    unfolding page_entries page_rows decide
    too_short k = rw (kept, lt-leb (3 * entry_count largest smaller m) (length ws) (omega (arith, k, counted)))

    pub listed : 3 * n ≤ length ws → {s : PageSize} → s ≡ largest_in m.size → {after : List ℕ} {behind : ℕ} → Wrote ws after 0 behind (cover_to s m)
        → page_entries m ws ≡ record { answer = answered n; words = after }
    unfolding page_entries page_rows decide stored cover_to
    listed k {s} e {after} w =
        rw (kept, le-leb (3 * entry_count largest smaller m) (length ws) (omega (arith, k, counted)))
        (λ i. record { answer = answered (sym counted i); words = same i })
      where
        lengths : entry_count largest smaller m ≡ length (cover_to s m)
        lengths = sym counted ∙ c ∙ sym (length_listed e)

        same : flat_map entry_words (entries m) ++ drop (3 * entry_count largest smaller m) ws ≡ after
        same =
            let d : 0 + length (flat_map entry_words (cover_to s m)) ≡ 3 * entry_count largest smaller m
            = omega (arith, length_entry_words (cover_to s m), lengths) in
            sym (w.words ∙ rw (d, from_largest e))
