-- A run prints the script's output and holds what its records leave, by what each turn leaves to come.
-- Assumes nothing.
use mathlib.Core.Path.{◌≡◌, refl, sym, ap, ◌∙◌}
use mathlib.Core.Bool.{Bool, true}
use mathlib.Core.List.{List, [], ◌++◌, append_assoc, append-nil}
use Prim.Native.Nat.{ℕ}
use lib.ListN.{take, drop, take-append-drop}
use Rattle.program.specs.Script.{start, leaves, output}
use Rattle.program.proofs.Leaves.{leaves-nil}
use Rattle.script.specs.declared.Progress.{Progress}
use Rattle.script.specs.Progress.{pending, held_by, to_come}
use Rattle.script.specs.Streaming.{Stream, begun, came, ended, printed, Prints}

so_far : {bs : List ℕ} {last : Bool} {unread text : List ℕ} {p : Progress} {rs ws os : List ℕ} → Stream bs last unread text p rs ws os
    → (more : List ℕ) → (last ≡ true → more ≡ []) → text ++ to_come p rs ws os (unread ++ more) ≡ output (bs ++ more)
unfolding to_come pending output
so_far begun more ends = refl
so_far (came {bs = bs} {unread = unread} s now) more ends =
    rw (append_assoc unread now more, append_assoc bs now more) (so_far s (now ++ more) (λ e. cc))
so_far (ended s) more ends = so_far s more (λ e. ends refl)
so_far (printed {text = text} s g) more ends = append_assoc text g.text _ ∙ ap (◌++◌ text) (sym (g.goes_on more ends)) ∙ so_far s more ends

nothing_to_come : (p : Progress) (rs ws os bs : List ℕ) → p.left ≡ 0 → p.stopped ≡ true → to_come p rs ws os bs ≡ []
unfolding to_come pending
nothing_to_come p rs ws os bs none stopped = rw (none, stopped)

-- the bytes taken leave what is held, whatever comes behind them
record Taken (bs unread : List ℕ) (p : Progress) (rs ws os : List ℕ) : Type 0 where
  bytes : List ℕ
  front : bs ≡ bytes ++ unread
  same : (more : List ℕ) → leaves start (bytes ++ more) ≡ leaves (held_by p rs ws os) more

taken_of : {bs : List ℕ} {last : Bool} {unread text : List ℕ} {p : Progress} {rs ws os : List ℕ} → Stream bs last unread text p rs ws os → Taken bs unread p rs ws os
taken_of begun = record { bytes = []; front = refl; same = λ more. refl }
taken_of (came {unread = unread} s now) =
    let k = taken_of s in
    record { bytes = k.bytes; front = ap (λ (l : List ℕ). l ++ now) k.front ∙ append_assoc k.bytes unread now; same = k.same }
taken_of (ended s) = taken_of s
taken_of (printed {unread = unread} {t = t} s g) =
    let k = taken_of s in
    let now : List ℕ = take t.taken unread in
    record {
      bytes = k.bytes ++ now;
      front = k.front ∙ ap (◌++◌ k.bytes) (sym (take-append-drop t.taken unread)) ∙ sym (append_assoc k.bytes now (drop t.taken unread));
      same = λ more. ap (leaves start) (append_assoc k.bytes now more) ∙ k.same (now ++ more) ∙ g.state more;
    }

pub prints : Prints
prints = record {
  whole = so_far;
  over = λ {unread = unread} {text = text} {p = p} {rs = rs} {ws = ws} {os = os} s none stopped more ends.
      sym (append-nil text) ∙ ap (◌++◌ text) (sym (nothing_to_come p rs ws os (unread ++ more) none stopped)) ∙ so_far s more ends;
  held = λ s. let k = taken_of s in (k.bytes, k.front, sym (ap (leaves start) (sym (append-nil k.bytes)) ∙ k.same [] ∙ leaves-nil _));
}
