-- Entries in the words of a slice, one after the other, and lists one behind the other.
-- Assumes nothing.
use mathlib.Core.Path.{◌≡◌, sym, ap, ap₂, ◌∙◌}
use mathlib.Core.List.{List, [], ◌∷◌, ◌++◌, append-nil, append_assoc, flat_map}
use Prim.Native.Nat.{ℕ, zero, suc, ◌+◌, ◌-◌, ◌*◌, ◌≤◌}
use native.Mathlib.Omega.{arith}
use borrow.Rule.Slice.PartMut.{put_mid}
use lib.ListN.{length, set, length-append, length-drop, take, drop, drop_of_length-le}
use lib.Seq.{take_all, sets, sets-eq}
use Rattle.model.proofs.Operations.{flat_map-append}
use Rattle.pages.specs.declared.Entry.{Entry}
use Rattle.pages.specs.Pages.{entries_from, entry_words}
use Rattle.pages.proofs.Counts.{length_entry_words}
use Rattle.words.specs.Words.{stored}
use Rattle.words.proofs.Stored.{stored_none, stored-part, stored-behind}
use Rattle.entries.specs.Sizes.{Wrote}

-- entries behind others
stored-entries : (ws : List ℕ) (place : ℕ) (es fs : List Entry) → place ≤ length ws
    → stored (stored ws place (flat_map entry_words es)) (place + 3 * length es) (flat_map entry_words fs) ≡ stored ws place (flat_map entry_words (es ++ fs))
stored-entries ws place es fs h =
    rw (← length_entry_words es, flat_map-append entry_words es fs) (stored-behind ws place (flat_map entry_words es) (flat_map entry_words fs) h)

module _ {before after : List ℕ} {place behind : ℕ} where
  pub wrote_behind : {last : List ℕ} {end : ℕ} {es fs : List Entry} → place ≤ length before → Wrote before after place behind es
      → Wrote after last behind end fs → Wrote before last place end (es ++ fs)
  wrote_behind {last} {end} {es} {fs} h v w = record {
    words = w.words ∙ rw (v.last, v.words) (stored-entries before place es fs h);
    last = omega (arith, v.last, w.last, length-append es fs);
  }

-- ── in the part of a slice that is left from a place on ──

pub wrote_left : {ws left : List ℕ} {at n : ℕ} {es : List Entry} → Wrote (take (length ws - at) (drop at ws)) left 0 n es
    → Wrote ws (put_mid at (length ws - at) ws left) at (at + n) es
wrote_left {ws} {left} {at} {n} {es} w = record {
  words =
      let run = flat_map entry_words es in
      let whole = take_all (length ws - at) (drop at ws) (omega (arith, length-drop at ws)) in
      let none = drop_of_length-le (drop at ws) {i = length ws - at} (omega (arith, length-drop at ws)) in
      let e : at + 0 ≡ at = omega arith in
      rw (w.words, whole, none) (simp append-nil (stored-part ws at 0 run ∙ ap (λ (k : ℕ). stored ws k run) e));
  last = omega (arith, w.last);
}

-- ── a row of one size ──

abbrev entry : ℕ → ℕ → ℕ → Entry
entry s a f = record { address = a; offset = f; size = s }

entries_next : (s n a f : ℕ) → entries_from s (suc n) a f ≡ entries_from s n a f ++ (entry s (a + n * s) (f + n * s) ∷ [])
unfolding entries_from
entries_next s zero a f = ap₂ (λ (x y : ℕ). entry s x y ∷ []) (omega arith) (omega arith)
entries_next s (suc n) a f =
    ap (◌∷◌ (entry s a f))
    (entries_next s n (a + s) (f + s)
    ∙ ap₂ (λ (x y : ℕ). entries_from s n (a + s) (f + s) ++ (entry s x y ∷ [])) (omega arith) (omega arith))

-- words that are stored one by one
sets_stored : (run ws : List ℕ) (at : ℕ) → at + length run ≤ length ws → sets ws at run ≡ stored ws at run
unfolding stored
sets_stored run ws at h = sets-eq run ws at h ∙ append_assoc (take at ws) run _

-- i entries are written
module _ (s a f : ℕ) {before : List ℕ} where
  pub row-start : Wrote before before 0 0 (entries_from s 0 a f)
  unfolding entries_from flat_map
  row-start = record { words = sym (stored_none before 0); last = omega arith }

  pub row_next : (i : ℕ) {ws : List ℕ} → Wrote before ws 0 (3 * i) (entries_from s i a f) → 3 * i + 3 ≤ length ws
      → Wrote before (set (set (set ws (3 * i) (a + i * s)) (3 * i + 1) (f + i * s)) (3 * i + 2) s) 0 (3 * (i + 1)) (entries_from s (i + 1) a f)
  unfolding flat_map
  row_next i {ws} w h =
      let d : i + 1 ≡ suc i = omega arith in
      let one : 3 * i + 1 ≡ suc (3 * i) = omega arith in
      let two : 3 * i + 2 ≡ suc (suc (3 * i)) = omega arith in
      let words = sets_stored ((a + i * s) ∷ (f + i * s) ∷ s ∷ []) ws (3 * i) h in
      rw (d, one, two, entries_next s i a f) (wrote_behind (omega arith) w (record { words = words; last = omega arith }))
