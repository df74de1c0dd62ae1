-- One step by what the record at the front of the bytes does.
-- Assumes nothing.
use mathlib.Core.Path.{◌≡◌, refl, subst}
use mathlib.Core.Bool.{true, false}
use mathlib.Core.List.{List}
use Prim.Native.Nat.{ℕ, ◌/◌, ◌≤◌}
use lib.ListN.{length, replicate, length-replicate}
use Rattle.model.specs.declared.Space.{Space}
use Rattle.program.specs.declared.ScriptRecord.{ScriptRecord}
use Rattle.program.specs.declared.ScriptRecord.TheVariants.{SetSpace, Bind}
use Rattle.program.specs.declared.Response.{Response}
use Rattle.model.specs.Rows.{all, decide}
use Rattle.model.specs.Rules.{space_tests}
use Rattle.program.specs.Script.{record_at, State, emptied, refusal, response_told, step_on, step}
use Rattle.program.proofs.Records.{record_fits}
use Rattle.script.specs.declared.Program.{Program}
use Rattle.script.specs.Progress.{state_of}
use Rattle.script.specs.Program.{held, Does}

module _ (s : Space) (rs : List ℕ) (n : ℕ) (ws : List ℕ) (count : ℕ) (os bs : List ℕ) where
  abbrev st : State
  st = state_of s rs n ws count os

  pub space_granted : (new : Space) {rs' ws' : List ℕ} → true ≡ all (space_tests new) → rs' ≡ replicate (length rs) 0 → ws' ≡ replicate (length ws) 0
      → step_on (SetSpace new) st bs ≡ record { told = emptied (length ws' / 4); state = state_of new rs' 0 ws' 0 os }
  unfolding decide
  space_granted new h d e = rw (← h, d, e, length-replicate)

  pub space_refused : (new : Space) → false ≡ all (space_tests new) → step_on (SetSpace new) st bs ≡ record { told = refusal 1 0; state = st }
  unfolding decide
  space_refused new h = rw (← h)

-- the record that was read
pub by_record : {e : ScriptRecord} {b q : Program} {r : Response} (bs : List ℕ) → e ≡ record_at bs → Does (step_on e (held b) bs) b r q
    → Does (step (held b) bs) b r q
unfolding step
by_record {b = b} {q = q} {r = r} bs h d = subst (λ (e : ScriptRecord). Does (step_on e (held b) bs) b r q) h d

-- nothing is done
pub told_alone : (b : Program) (r : Response) → Does (record { told = response_told r; state = held b }) b r b
told_alone b r = record { leaves = refl; stays = refl; lent = record { ranges = refl; table = refl; operations = refl } }

-- a request's record is there
pub request_there : (bs : List ℕ) → Bind ≡ record_at bs → 42 ≤ length bs
request_there bs e = rw (← e) at (record_fits bs)
