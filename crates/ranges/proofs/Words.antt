-- Ranges and their words: a list with one range put in or taken out, in the words, is the list written anew.
-- Assumes nothing.
use mathlib.Core.Path.{◌≡◌, refl, sym, ap, ap₂, ◌∙◌}
use mathlib.Core.List.{List, [], ◌∷◌, ◌++◌, append_assoc, flat_map}
use Prim.Native.Nat.{ℕ, zero, suc, ◌+◌, ◌-◌, ◌*◌, ◌≤◌, ◌<◌}
use native.Mathlib.Omega.{arith}
use lib.ListN.{length, take, drop, length-append, length-drop}
use lib.Seq.{length-take-le, drop-drop}
use Rattle.model.specs.declared.Range.{Range}
use Rattle.model.specs.Ranges.{ranges_in, range_words, list_written}
use Rattle.model.proofs.Operations.{flat_map-append}
use Rattle.model.proofs.Ranges.{words-ranges}
use Rattle.words.specs.Words.{stored, moved, cleared, ZeroFrom}
use Rattle.words.proofs.Moved.{length_part, moved_is}
use Rattle.words.proofs.Stored.{length-stored, stored_before, cleared-behind}
use Rattle.words.proofs.Zeros.{zero_later, zero-stored, cleared-zero, cleared-up_to}
use Rattle.ranges.specs.Changes.{put_in, taken_out}

take-ranges : (i n : ℕ) (ws : List ℕ) → i ≤ n → take i (ranges_in n ws) ≡ ranges_in i ws
unfolding ranges_in
take-ranges zero n ws h = refl
take-ranges (suc i) zero ws h = absurd (omega arith)
take-ranges (suc i) (suc n) ws h = rw (take-ranges i n (drop 2 ws) (omega arith))

drop-ranges : (i n : ℕ) (ws : List ℕ) → drop i (ranges_in n ws) ≡ ranges_in (n - i) (drop (2 * i) ws)
unfolding ranges_in
drop-ranges zero n ws = let e : n - 0 ≡ n = omega arith in rw e
drop-ranges (suc i) zero ws = let e : 0 - suc i ≡ 0 = omega arith in rw e
drop-ranges (suc i) (suc n) ws =
    let e : 2 * suc i ≡ 2 + 2 * i = omega arith in
    let d : suc n - suc i ≡ n - i = omega arith in
    rw (e, d, ← drop-drop (2 * i) 2 ws) (drop-ranges i n (drop 2 ws))

flat_map-cons : (x : Range) (ys : List Range) → flat_map range_words (x ∷ ys) ≡ range_words x ++ flat_map range_words ys
unfolding flat_map
flat_map-cons x ys = refl

module _ (ws : List ℕ) (n i : ℕ) (held : 2 * n ≤ length ws) (zeros : ZeroFrom ws (2 * n)) where
  abbrev ys : List Range
  ys = ranges_in n ws

  abbrev front : List ℕ
  front = take (2 * i) ws

  -- the words of the ranges from place j on
  abbrev rest : ℕ → List ℕ
  rest j = take (2 * (n - j)) (drop (2 * j) ws)

  words_before : i ≤ n → flat_map range_words (take i ys) ≡ front
  words_before h = rw (take-ranges i n ws h) (words-ranges i ws (omega arith))

  words_from : (j : ℕ) → j ≤ n → flat_map range_words (drop j ys) ≡ rest j
  words_from j h = rw (drop-ranges j n ws) (words-ranges (n - j) (drop (2 * j) ws) (omega (arith, length-drop (2 * j) ws)))

  -- a run from place i on, and zeros behind it, are a list's words to the end
  run-written : (run : List ℕ) (k : ℕ) (zs : List Range) → i ≤ n → 2 * i + length run ≡ k → k ≤ length ws
      → flat_map range_words zs ≡ front ++ run → cleared (stored ws (2 * i) run) k ≡ list_written (length ws) zs
  run-written run k zs h e l w =
      let f : length (front ++ run) ≡ k = length-append front run ∙ omega (arith, length-take-le (2 * i) ws (omega arith)) in
      rw e at (cleared-behind ws (2 * i) run (omega arith)) ∙ rw (w, f) (sym (append_assoc front run _))

  pub put_written : (x : Range) → i ≤ n → 2 * n + 2 ≤ length ws
      → stored (moved ws (2 * i) (2 * i + 2) (2 * (n - i))) (2 * i) (range_words x) ≡ list_written (length ws) (put_in x i ys)
  put_written x h k =
      let run : List ℕ = range_words x ++ rest i in
      let l : length (rest i) ≡ 2 * (n - i) = length_part ws (2 * i) (2 * (n - i)) (omega arith) in
      let w : flat_map range_words (put_in x i ys) ≡ front ++ run =
      flat_map-append range_words (take i ys) (x ∷ drop i ys) ∙ ap₂ ◌++◌ (words_before h) (flat_map-cons x (drop i ys) ∙ ap (λ (r : List ℕ). range_words x ++ r) (words_from i h)) in
      let z : ZeroFrom (stored ws (2 * i) run) (2 * n + 2) =
      zero-stored ws (2 * i) run (2 * n + 2) (omega arith) (omega arith) (zero_later ws (2 * n) (2 * n + 2) (omega arith) k zeros) in
      rw (moved_is ws (2 * i) (2 * i + 2) (2 * (n - i))) (stored_before ws (2 * i) (rest i) (range_words x) (omega arith))
      ∙ sym (cleared-zero (stored ws (2 * i) run) (2 * n + 2) z)
      ∙ run-written run (2 * n + 2) _ h (omega arith) k w

  pub out_written : i < n → stored (moved ws (2 * i + 2) (2 * i) (2 * (n - 1 - i))) (2 * (n - 1)) (0 ∷ 0 ∷ [])
      ≡ list_written (length ws) (taken_out i ys)
  out_written h =
      let run : List ℕ = rest (i + 1) in
      let from : 2 * i + 2 ≡ 2 * (i + 1) = omega arith in
      let many : n - 1 - i ≡ n - (i + 1) = omega arith in
      let l : length run ≡ 2 * (n - (i + 1)) = length_part ws (2 * (i + 1)) (2 * (n - (i + 1))) (omega arith) in
      let m : length (stored ws (2 * i) run) ≡ length ws = length-stored ws (2 * i) run (omega arith) in
      let w : flat_map range_words (taken_out i ys) ≡ front ++ run =
      flat_map-append range_words (take i ys) (drop (i + 1) ys) ∙ ap₂ ◌++◌ (words_before (omega arith)) (words_from (i + 1) (omega arith)) in
      let two : 2 * n - 2 * (n - 1) ≡ 2 = omega arith in
      let z : ZeroFrom (stored ws (2 * i) run) (2 * n) = zero-stored ws (2 * i) run (2 * n) (omega arith) (omega arith) zeros in
      rw (from, many, moved_is ws (2 * (i + 1)) (2 * i) (2 * (n - (i + 1))))
      (rw two at (cleared-up_to (stored ws (2 * i) run) (2 * (n - 1)) (2 * n) (omega arith) (omega arith) z))
      ∙ run-written run (2 * (n - 1)) _ (omega arith) (omega arith) (omega arith) w
