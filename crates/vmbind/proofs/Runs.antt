-- What rounds leave, and why a run is over.
-- Assumes nothing.
use mathlib.Core.Path.{◌≡◌, refl, ap, subst, ◌∙◌}
use mathlib.Core.Logic.{inl}
use mathlib.Core.Bool.{true, false}
use mathlib.Core.List.{List, [], ◌++◌, append-nil}
use Prim.Native.Nat.{ℕ, ◌+◌}
use native.Mathlib.Omega.{arith}
use Rattle.std.specs.Prelude.{Result, Ok, Err, is_some}
use Rattle.std.specs.ControlFlow.{break_value}
use Rattle.std.specs.declared.ops.ControlFlow.{ControlFlow}
use Rattle.std.specs.declared.ops.ControlFlow.TheVariants.{Continue, Break}
use Rattle.program.specs.Script.{output}
use Rattle.script.specs.Streaming.{Stream, begun}
use Rattle.script.proofs.Turning.{none_outstanding}
use Rattle.script.proofs.Streaming.{prints}
use Rattle.vmbind.specs.declared.Failure.{Failure}
use Rattle.vmbind.specs.declared.Failure.TheVariants.{Read, Write, TooLong}
use Rattle.vmbind.specs.declared.Run.{Run}
use Rattle.vmbind.specs.Buffers.{unread, Held, Outcome, Ends, Carries, Rounds, no_round, next, Over, Ran}

pub held_after : {n : ℕ} {text : List ℕ} {e : Outcome} {r : Run} → Rounds n text e r → Held r
held_after no_round = record { order = omega arith; inside = omega arith; there = none_outstanding }
held_after (next s c) = c.held

-- the bytes that have come
stream_after : {n : ℕ} {text : List ℕ} {e : Outcome} {r : Run} → Rounds n text e r
    → (bytes : List ℕ) × Stream bytes r.last (unread r) text r.progress r.ranges r.table r.operations
stream_after no_round = ([], begun)
stream_after (next s c) =
    let before = stream_after s in
    let after = c.stream before.1 in
    (before.0 ++ after.0, after.1)

pub ran : {n : ℕ} {text : List ℕ} {o : Outcome} {r : Run} (e : Result (Unit {0}) Failure) → Rounds n text o r → Over e r n → Ran e r
ran {n} {text} {o} {r} e s over =
    let after = stream_after s in
    record {
      text = text;
      count = n;
      ended = o;
      rounds = s;
      over = over;
      bytes = after.0;
      stream = after.1;
      done = λ is.
          let d : Ends (Ok (Break tt)) r = subst (λ (x : Result (Unit {0}) Failure). Over x r n) is over in
          prints.over after.1 d.2 d.1 [] (λ _. refl) ∙ ap output (append-nil after.0);
    }

-- a round that fails, or breaks, ends the run
module _ {n : ℕ} {text : List ℕ} {run r : Run} (s : Rounds n text (Ok (Continue tt)) run) where
  pub ran_failed : {f : Failure} → Carries run (Err f) r → Ran (Err f) r
  ran_failed {f} c = ran (Err f) (next s c) (by f c.ends)
    where
      by : (f : Failure) → Ends (Err f) r → Over (Err f) r (n + 1)
      by Read ends = ends
      by Write ends = ends
      by TooLong ends = inl ends

  pub ran_done : {k : ControlFlow (Unit {0}) (Unit {0})} → Carries run (Ok k) r → is_some (break_value k) ≡ true → Ran (Ok tt) r
  ran_done {k = Break u} c e = ran (Ok tt) (next s c) c.ends
  ran_done {k = Continue u} c e = cc

pub goes_on : {k : ControlFlow (Unit {0}) (Unit {0})} → is_some (break_value k) ≡ false → k ≡ Continue tt
goes_on {k = Continue u} e = refl
goes_on {k = Break u} e = cc
