use mathlib.Core.Path.{◌≡◌, refl, sym, ◌∙◌}
use mathlib.Core.List.{List, append_assoc}
use Prim.Native.Nat.{ℕ, ◌-◌}
use native.Mathlib.Omega.{arith}
use lib.ListN.{length, take, drop}
use Rattle.words.proofs.Stored.{stored_is}
use Rattle.words.proofs.Moved.{length_part, moved_is}
use Rattle.script.proofs.keep_unread.Goals as goal

pub returns : goal.returns
returns c =
    let ws : List ℕ = c.args.input.now in
    let from = c.args.from in
    let n : ℕ = c.args.to - from in
    let run : List ℕ = take n (drop from ws) in
    let l : length run ≡ n = length_part ws from n (omega arith) in
    (refl, c.copy_within.ensures.after ∙ append_assoc (take 0 ws) run _ ∙ sym (rw l at (stored_is ws 0 run)) ∙ sym (moved_is ws from 0 n))
