-- A splice in the words is the table written anew: the rest moved, the new mappings written before it, and zeros
-- behind.
-- Assumes nothing.
use mathlib.Core.Path.{◌≡◌, ◌∙◌}
use mathlib.Core.List.{List, ◌++◌, append_assoc, flat_map}
use Prim.Native.Nat.{ℕ, ◌+◌, ◌-◌, ◌*◌, max}
use native.Mathlib.Omega.{arith}
use lib.ListN.{length, take, drop, length-append, length-drop}
use lib.Seq.{length-take-le}
use Rattle.model.specs.declared.Mapping.{Mapping}
use Rattle.model.specs.Table.{mappings_in, words_of, written}
use Rattle.model.proofs.Operations.{flat_map-append}
use Rattle.model.proofs.Store.{length-words, words-mappings}
use Rattle.words.specs.Words.{stored, moved, cleared, ZeroFrom}
use Rattle.words.proofs.Moved.{length_part, moved_is}
use Rattle.words.proofs.Stored.{length-stored, stored_before, cleared-behind}
use Rattle.words.proofs.Zeros.{zero_later, zero-stored}
use Rattle.table.specs.Splice.{mappings_of, spliced, Splice}
use Rattle.table.specs.declared.Replacement.{Replacement}
use Rattle.table.proofs.Words.{take-mappings, drop-mappings}

module _ (ws : List ℕ) (count lo hi : ℕ) (new : Replacement) (s : Splice ws count lo hi new) where
  -- the place that the rest moves to, and how many mappings it has
  abbrev to : ℕ
  to = lo + length (mappings_of new)

  abbrev left : ℕ
  left = count - hi

  abbrev rest : List ℕ
  rest = take (4 * left) (drop (4 * hi) ws)

  abbrev new_words : List ℕ
  new_words = flat_map words_of (mappings_of new)

  abbrev whole : List Mapping
  whole = spliced (mappings_in count ws) lo hi (mappings_of new)

  words-whole : flat_map words_of whole ≡ take (4 * lo) ws ++ (new_words ++ rest)
  words-whole =
      simp (flat_map-append, take-mappings lo count ws (omega arith), drop-mappings hi count ws)
      (rw (words-mappings lo ws (omega arith), words-mappings left (drop (4 * hi) ws) (omega (arith, length-drop (4 * hi) ws))))

  -- nothing is written behind what was there and what is left
  pub splice_behind : ZeroFrom (stored (moved ws (4 * hi) (4 * to) (4 * left)) (4 * lo) new_words) (4 * max count (to + left))
  splice_behind =
      let k : ℕ = 4 * max count (to + left) in
      let l : length new_words ≡ 4 * length (mappings_of new) = length-words (mappings_of new) in
      let m : length rest ≡ 4 * left = length_part ws (4 * hi) (4 * left) (omega arith) in
      let n : length (stored ws (4 * to) rest) ≡ length ws = length-stored ws (4 * to) rest (omega arith) in
      rw (moved_is ws (4 * hi) (4 * to) (4 * left))
      (zero-stored (stored ws (4 * to) rest) (4 * lo) new_words k (omega arith) (omega arith)
      (zero-stored ws (4 * to) rest k (omega arith) (omega arith) (zero_later ws (4 * count) k (omega arith) (omega arith) s.behind)))

  pub splice_written : cleared (stored (moved ws (4 * hi) (4 * to) (4 * left)) (4 * lo) new_words) (4 * (to + left)) ≡ written (length ws) whole
  splice_written =
      let l : length new_words ≡ 4 * length (mappings_of new) = length-words (mappings_of new) in
      let m : length rest ≡ 4 * left = length_part ws (4 * hi) (4 * left) (omega arith) in
      let n : length (new_words ++ rest) ≡ length new_words + length rest = length-append new_words rest in
      let p : length (take (4 * lo) ws) ≡ 4 * lo = length-take-le (4 * lo) ws (omega arith) in
      let w : length (take (4 * lo) ws ++ (new_words ++ rest)) ≡ 4 * lo + length (new_words ++ rest) = length-append (take (4 * lo) ws) (new_words ++ rest) ∙ rw p in
      let e : 4 * to ≡ 4 * lo + length new_words = omega arith in
      let d : 4 * (to + left) ≡ 4 * lo + length (new_words ++ rest) = omega arith in
      rw (moved_is ws (4 * hi) (4 * to) (4 * left), d, e, stored_before ws (4 * lo) rest new_words (omega arith), cleared-behind ws (4 * lo) (new_words ++ rest) (omega arith), words-whole, w)
      (simp append_assoc)
