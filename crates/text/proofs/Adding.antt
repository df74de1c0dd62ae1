-- Laws of text written behind what stands: none, and one run behind another.
-- Assumes nothing.
use mathlib.Core.Path.{◌≡◌, refl, sym, ap, ◌∙◌}
use mathlib.Core.List.{List, [], ◌++◌}
use Prim.Native.Nat.{ℕ, ◌+◌, ◌-◌, ◌≤◌}
use native.Mathlib.Omega.{arith}
use lib.ListN.{length, take, length-append}
use lib.Seq.{drop-drop}
use borrow.Rule.Slice.PartMut.{put_mid}
use Rattle.words.specs.Words.{stored}
use Rattle.words.proofs.Stored.{stored_none, stored_is, stored-behind}
use Rattle.text.specs.declared.Lines.{Lines}
use Rattle.text.specs.Lines.{HasRoom, Adds}

-- a part of a slice, written over by a run
pub put_mid-stored : (ws : List ℕ) (at n : ℕ) {part run : List ℕ} → part ≡ run → at + length run ≡ n → put_mid at (n - at) ws part ≡ stored ws at run
put_mid-stored ws at n {part} {run} p h =
    let e : n - at ≡ length run = omega arith in
    rw (p, e) (ap (λ (l : List ℕ). take at ws ++ (run ++ l)) (drop-drop (length run) at ws) ∙ sym (stored_is ws at run))

pub adds_none : {l : Lines} → Adds l [] 0 l
adds_none {l} = record { bytes = sym (stored_none l.out.now l.end); behind = omega arith; within = omega arith; same_length = refl; same_slice = refl }

-- room for more, and for no more than was written
pub adds_most : {b a : Lines} {run : List ℕ} {k n : ℕ} → k ≤ n → Adds b run k a → Adds b run n a
adds_most h p = record { bytes = p.bytes; behind = p.behind; within = omega (arith, p.within); same_length = p.same_length; same_slice = p.same_slice }

pub adds_exact : {b a : Lines} {run : List ℕ} {k : ℕ} → Adds b run k a → Adds b run (length run) a
adds_exact p = record { bytes = p.bytes; behind = p.behind; within = omega arith; same_length = p.same_length; same_slice = p.same_slice }

-- a run behind another
pub adds_behind : {b m a : Lines} {run next : List ℕ} {k n : ℕ} → HasRoom b k → Adds b run k m → Adds m next n a → Adds b (run ++ next) (k + n) a
adds_behind {b} {run = run} {next = next} h p q = record {
  bytes = q.bytes ∙ rw (p.bytes, p.behind) (stored-behind b.out.now b.end run next (omega arith));
  behind = omega (arith, p.behind, q.behind, length-append run next);
  within = omega (arith, p.within, q.within, length-append run next);
  same_length = q.same_length ∙ p.same_length;
  same_slice = q.same_slice ∙ p.same_slice;
}
