-- Laws of a run that is moved inside a list: several moves that are one.
-- Assumes nothing.
use mathlib.Core.Path.{◌≡◌, refl, ◌∙◌}
use mathlib.Core.List.{List, append-nil}
use borrow.Rule.Slice.PartMut.{mid_of, put_mid}
use Prim.Native.Nat.{ℕ, ◌+◌, ◌-◌, ◌≤◌}
use native.Mathlib.Omega.{arith}
use lib.ListN.{length, take, drop, length-drop, take-append-drop, drop_of_length-le}
use lib.Seq.{length-take-le, take-add, take_all, drop-drop}
use Rattle.words.specs.Words.{stored, moved}
use Rattle.words.proofs.Stored.{drop-stored, stored_none, stored-part, stored-behind}

pub length_part : (ws : List ℕ) (from n : ℕ) → from + n ≤ length ws → length (take n (drop from ws)) ≡ n
length_part ws from n h = length-take-le n (drop from ws) (simp length-drop (omega arith))

pub moved_is : (ws : List ℕ) (from to n : ℕ) → moved ws from to n ≡ stored ws to (take n (drop from ws))
unfolding moved
moved_is ws from to n = refl

-- to where it stands already
pub moved_same : (ws : List ℕ) (at n : ℕ) → at + n ≤ length ws → moved ws at at n ≡ ws
unfolding moved stored
moved_same ws at n h =
    rw (length_part ws at n h, ← drop-drop n at ws, take-append-drop n (drop at ws)) (take-append-drop at ws)

pub moved_none : (ws : List ℕ) (from to : ℕ) → moved ws from to 0 ≡ ws
unfolding moved
moved_none ws from to = stored_none ws to

-- downwards the words that come next stand behind what was written
pub moved_down : (ws : List ℕ) (from to j k : ℕ) → to ≤ from → from + j + k ≤ length ws
    → moved (moved ws from to j) (from + j) (to + j) k ≡ moved ws from to (j + k)
unfolding moved
moved_down ws from to j k h r =
    let xs : List ℕ = take j (drop from ws) in
    let l : length xs ≡ j = length_part ws from j (omega arith) in
    let b = stored-behind ws to xs (take k (drop (from + j) ws)) (omega arith) in
    rw (drop-stored ws to xs (from + j) (omega arith) (omega arith), take-add j k (drop from ws), drop-drop j from ws) (rw l at b)

-- and where places are told otherwise
pub moved_more_down : (ws a b : List ℕ) (from to j k at end : ℕ) → to ≤ from → from + end ≤ length ws → j ≡ at → at + k ≡ end
    → a ≡ moved ws from to j → b ≡ moved a (from + at) (to + at) k → b ≡ moved ws from to end
moved_more_down ws a b from to j k at end h r p q e f = f ∙ rw (e, ← q, ← p) (moved_down ws from to j k h (omega arith))

-- in the part that is lent from a place on
pub moved-part : (ws : List ℕ) (at from to n : ℕ) {part : List ℕ} → at ≤ length ws → part ≡ moved (mid_of at (length ws - at) ws) from to n
    → put_mid at (length ws - at) ws part ≡ moved ws (at + from) (at + to) n
unfolding moved
moved-part ws at from to n h e =
    let whole = take_all (length ws - at) (drop at ws) (omega (arith, length-drop at ws)) in
    let none = drop_of_length-le (drop at ws) {i = length ws - at} (omega (arith, length-drop at ws)) in
    rw (e, whole, none, drop-drop from at ws) (simp append-nil (stored-part ws at to (take n (drop (at + from) ws))))

-- the same, at the places in the whole
pub moved_in_part : (ws : List ℕ) (at from to n f t : ℕ) {part : List ℕ} → at ≤ length ws → at + from ≡ f → at + to ≡ t
    → part ≡ moved (mid_of at (length ws - at) ws) from to n → put_mid at (length ws - at) ws part ≡ moved ws f t n
moved_in_part ws at from to n f t h p q e = rw (p, q) at (moved-part ws at from to n h e)
