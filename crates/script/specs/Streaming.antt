-- A whole run of the program, and the claim about it: whatever the pieces in which a script comes, what is printed is
-- its output.
-- Assumes nothing.
use Rattle.std.specs.Prelude.{◌≡◌, Bool, true, false, List, [], ◌++◌, ℕ, drop}
use Rattle.program.specs.Script.{start, leaves, output}
use Rattle.script.specs.declared.Progress.{Progress}
use Rattle.script.specs.declared.Turned.{Turned}
use Rattle.script.specs.Progress.{held_by, start_progress, to_come, Goes}

-- the bytes that have come, whether they are the last, those still unread, the text printed, and what the program
-- holds: progress, and the words of the list, the table and the operations
pub data Stream : List ℕ → Bool → List ℕ → List ℕ → Progress → List ℕ → List ℕ → List ℕ → Type 0 where
  begun : Stream [] false [] [] start_progress start.lent.ranges.words start.lent.table.words start.operations
  came : {bs unread text : List ℕ} {p : Progress} {rs ws os : List ℕ} → Stream bs false unread text p rs ws os → (more : List ℕ)
      → Stream (bs ++ more) false (unread ++ more) text p rs ws os
  ended : {bs unread text : List ℕ} {p : Progress} {rs ws os : List ℕ} → Stream bs false unread text p rs ws os → Stream bs true unread text p rs ws os
  -- a call of `advance`, which leaves what it promises
  printed : {bs : List ℕ} {last : Bool} {unread text : List ℕ} {p : Progress} {rs ws os out : List ℕ} {at : ℕ} {t : Turned} {rs' ws' os' out' : List ℕ}
      → Stream bs last unread text p rs ws os → (g : Goes p rs ws os unread last out at t rs' ws' os' out')
      → Stream bs last (drop t.taken unread) (text ++ g.text) t.progress rs' ws' os'

pub record Prints : Type 0 where
  -- what has been printed and what is to come make up the script's output, whatever bytes may still come
  pub whole : {bs : List ℕ} {last : Bool} {unread text : List ℕ} {p : Progress} {rs ws os : List ℕ} → Stream bs last unread text p rs ws os
      → (more : List ℕ) → (last ≡ true → more ≡ []) → text ++ to_come p rs ws os (unread ++ more) ≡ output (bs ++ more)
  -- where the program has stopped and no operation is left, all of it has been printed
  pub over : {bs : List ℕ} {last : Bool} {unread text : List ℕ} {p : Progress} {rs ws os : List ℕ} → Stream bs last unread text p rs ws os
      → p.left ≡ 0 → p.stopped ≡ true → (more : List ℕ) → (last ≡ true → more ≡ []) → text ≡ output (bs ++ more)
  -- what is held is what the bytes taken leave of the start, also where the program has stopped
  pub held : {bs : List ℕ} {last : Bool} {unread text : List ℕ} {p : Progress} {rs ws os : List ℕ} → Stream bs last unread text p rs ws os
      → (taken : List ℕ) × (bs ≡ taken ++ unread) × (held_by p rs ws os ≡ leaves start taken)
