-- Laws of a run that is stored over the words of a list.
-- Assumes nothing.
use mathlib.Core.Path.{◌≡◌, refl, sym, ap, ◌∙◌}
use mathlib.Core.List.{List, [], ◌++◌, append_assoc, append-nil}
use Prim.Native.Nat.{ℕ, ◌+◌, ◌-◌, ◌≤◌}
use native.Mathlib.Omega.{arith}
use lib.ListN.{length, take, drop, replicate, take-append-drop, drop_of_length-le}
use lib.ListN.{length-append, length-drop, length-replicate, replicate-append-replicate}
use lib.Seq.{length-take-le, take-append-le, take-take, take_at, take-add, drop_at, drop-drop}
use Rattle.words.specs.Words.{stored, cleared}

-- lists that agree from place i on agree from any later one on
drop_later : (xs ys : List ℕ) (i n : ℕ) → i ≤ n → drop i xs ≡ drop i ys → drop n xs ≡ drop n ys
drop_later xs ys i n h e =
    let d : i + (n - i) ≡ n = omega arith in
    rw d at (sym (drop-drop (n - i) i xs) ∙ ap (drop (n - i)) e ∙ drop-drop (n - i) i ys)

module _ (ws : List ℕ) (at : ℕ) (run : List ℕ) where
  pub stored_is : stored ws at run ≡ take at ws ++ (run ++ drop (at + length run) ws)
  unfolding stored
  stored_is = refl

  pub length-stored : at + length run ≤ length ws → length (stored ws at run) ≡ length ws
  unfolding stored
  length-stored h =
      let l : length (take at ws) ≡ at = length-take-le at ws (omega arith) in
      simp (length-append, length-drop) (omega arith)

  -- ── what stands before it, and from it on ──

  pub take-stored : (n : ℕ) → n ≤ at → at ≤ length ws → take n (stored ws at run) ≡ take n ws
  unfolding stored
  take-stored n h k =
      let l : length (take at ws) ≡ at = length-take-le at ws k in
      take-append-le n (take at ws) _ (omega arith) ∙ take-take n at ws h

  pub drop-stored-start : at ≤ length ws → drop at (stored ws at run) ≡ run ++ drop (at + length run) ws
  unfolding stored
  drop-stored-start h = drop_at (take at ws) _ at (length-take-le at ws h)

  -- ── what stands up to its end, and behind it ──

  pub take-stored-end : at ≤ length ws → take (at + length run) (stored ws at run) ≡ take at ws ++ run
  take-stored-end h =
      take-add at (length run) (stored ws at run)
      ∙ rw (take-stored at (omega arith) h, drop-stored-start h, take_at run (drop (at + length run) ws) (length run) refl)

  pub drop-stored : (n : ℕ) → at + length run ≤ n → at ≤ length ws → drop n (stored ws at run) ≡ drop n ws
  drop-stored n h k =
      drop_later (stored ws at run) ws (at + length run) n h
      (sym (drop-drop (length run) at (stored ws at run)) ∙ rw (drop-stored-start k) (drop_at run (drop (at + length run) ws) (length run) refl))

pub stored_none : (ws : List ℕ) (at : ℕ) → stored ws at [] ≡ ws
unfolding stored
stored_none ws at = let e : at + 0 ≡ at = omega arith in rw e (take-append-drop at ws)

-- a run stored in the words from a place on
pub stored-part : (ws : List ℕ) (at to : ℕ) (run : List ℕ) → take at ws ++ stored (drop at ws) to run ≡ stored ws (at + to) run
unfolding stored
stored-part ws at to run =
    let e : at + (to + length run) ≡ at + to + length run = omega arith in
    rw (take-add at to ws, drop-drop (to + length run) at ws, e) (simp append_assoc)

-- ── a second run, behind the first or before it ──

pub stored-behind : (ws : List ℕ) (at : ℕ) (run next : List ℕ) → at ≤ length ws
    → stored (stored ws at run) (at + length run) next ≡ stored ws at (run ++ next)
stored-behind ws at run next h =
    let e : at + length run + length next ≡ at + length (run ++ next) = omega (arith, length-append run next) in
    stored_is (stored ws at run) (at + length run) next
    ∙ rw (take-stored-end ws at run h, drop-stored ws at run (at + length run + length next) (omega arith) h, e, stored_is ws at (run ++ next))
    (simp append_assoc)

pub stored_before : (ws : List ℕ) (at : ℕ) (run first : List ℕ) → at + length first ≤ length ws
    → stored (stored ws (at + length first) run) at first ≡ stored ws at (first ++ run)
stored_before ws at run first h =
    let e : at + length first + length run ≡ at + length (first ++ run) = omega (arith, length-append first run) in
    stored_is (stored ws (at + length first) run) at first
    ∙ rw (
      take-stored ws (at + length first) run at (omega arith) h,
      drop-stored-start ws (at + length first) run h,
      e,
      stored_is ws at (first ++ run),
    )
    (simp append_assoc)

-- zeros, and more behind them
pub zeros_more : (ws : List ℕ) (at n m : ℕ) → at ≤ length ws
    → stored (stored ws at (replicate n 0)) (at + n) (replicate m 0) ≡ stored ws at (replicate (n + m) 0)
zeros_more ws at n m h =
    let l : length {A = ℕ} (replicate n 0) ≡ n = length-replicate n 0 in
    rw (← replicate-append-replicate {A = ℕ} n m 0) (rw l at (stored-behind ws at (replicate n 0) (replicate m 0) h))

-- ── zeros to the end ──

pub cleared_is : (ws : List ℕ) (from : ℕ) → take from ws ++ replicate (length ws - from) 0 ≡ cleared ws from
unfolding cleared
cleared_is ws from = refl

pub cleared-stored : (ws : List ℕ) (at : ℕ) → at ≤ length ws → stored ws at (replicate (length ws - at) 0) ≡ cleared ws at
unfolding stored cleared
cleared-stored ws at h =
    let zs : List ℕ = replicate (length ws - at) 0 in
    let l : length zs ≡ length ws - at = length-replicate (length ws - at) 0 in
    rw (drop_of_length-le ws {i = at + length zs} (omega arith)) (simp append-nil)

pub cleared-behind : (ws : List ℕ) (at : ℕ) (run : List ℕ) → at + length run ≤ length ws
    → cleared (stored ws at run) (at + length run) ≡ take at ws ++ (run ++ replicate (length ws - (at + length run)) 0)
unfolding cleared
cleared-behind ws at run h = rw (take-stored-end ws at run (omega arith), length-stored ws at run h) (simp append_assoc)

-- zeros up to a place, and then from it on
pub cleared_twice : (ws : List ℕ) (from to : ℕ) → from ≤ to → to ≤ length ws
    → cleared (stored ws from (replicate (to - from) 0)) to ≡ cleared ws from
cleared_twice ws from to h k =
    let zs : List ℕ = replicate (to - from) 0 in
    let l : length zs ≡ to - from = length-replicate (to - from) 0 in
    let e : from + length zs ≡ to = omega arith in
    let n : to - from + (length ws - to) ≡ length ws - from = omega arith in
    rw e at (cleared-behind ws from zs (omega arith))
    ∙ rw (replicate-append-replicate {A = ℕ} (to - from) (length ws - to) 0, n) (cleared_is ws from)
