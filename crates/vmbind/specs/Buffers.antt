-- The unread bytes in the input buffer, what reading, printing and writing leave of a stream, and how a run ends.
-- Assumes nothing.
use Prim.Native.String.{String}
use Rattle.std.specs.Prelude.{◌≡◌, ◌⊎◌, true, false, List, [], ◌++◌, ℕ, ◌+◌, ◌-◌, ◌*◌, ◌^◌, ◌≤◌, ◌<◌, ◌==◌, Result, Ok, Err, MatchResult, length, take, drop}
use Rattle.std.specs.declared.ops.ControlFlow.{ControlFlow}
use Rattle.std.specs.declared.ops.ControlFlow.TheVariants.{Continue, Break}
use Rattle.program.specs.Script.{start, output}
use Rattle.script.specs.Progress.{Outstanding, start_progress, Idle, Advances}
use Rattle.script.specs.Streaming.{Stream}
use Rattle.vmbind.specs.declared.Failure.{Failure}
use Rattle.vmbind.specs.declared.Failure.TheVariants.{Read, Write, TooLong}
use Rattle.vmbind.specs.declared.Run.{Run}

-- document 02: the buffers, three of words and two of bytes, are together below 64 KiB
abbrev pub Below64KiB : List ℕ → List ℕ → List ℕ → List ℕ → List ℕ → Type 0
Below64KiB ranges table operations input output =
    8 * length ranges + 8 * length table + 8 * length operations + length input + length output < 65536

-- before the first round
abbrev pub start_run : List ℕ → List ℕ → Run
start_run input out = record {
  progress = start_progress;
  ranges = start.lent.ranges.words;
  table = start.lent.table.words;
  operations = start.operations;
  input = input;
  from = 0;
  to = 0;
  last = false;
  output = out;
  printed = 0;
  written = 0;
}

-- ── the unread bytes ──

-- the bytes from one place of the input up to another
abbrev pub part : List ℕ → ℕ → ℕ → List ℕ
part input from to = take (to - from) (drop from input)

abbrev pub unread : Run → List ℕ
unread r = part r.input r.from r.to

-- the unread bytes lie in the input, and the operations still to be written in their words
pub record Held (r : Run) : Type 0 where
  pub order : r.from ≤ r.to
  pub inside : r.to ≤ length r.input
  pub there : Outstanding r.operations r.progress.next r.progress.left

-- ── a round's steps ──

-- `advance` printed from the unread bytes, and took so many of them
pub record Printed (run r : Run) : Type 0 where
  pub taken : ℕ
  pub advances : Advances run.progress run.ranges run.table run.operations (unread run) run.last run.output (record { progress = r.progress; taken = taken; end = r.printed }) r.ranges r.table r.operations r.output
  pub from : r.from ≡ run.from + taken
  pub same : (r.input ≡ run.input) × (r.to ≡ run.to) × (r.last ≡ run.last) × (r.written ≡ run.written)

-- of what was printed the system took all, or fewer bytes
pub record Writes (run : Run) (e : Result (Unit {0}) Failure) (r : Run) : Type 0 where
  pub taken : ℕ
  pub same : r ≡ record run { written = taken }
  pub outcome : MatchResult e (λ _. taken ≡ run.printed) (λ f. (f ≡ Write) × (taken < run.printed))

-- a read's answer: so many bytes, and no byte is the end of the input; an error is a failure
abbrev pub got_of : {E : Type 0} → Result ℕ E → Result ℕ Failure
got_of (Ok n) = Ok n
got_of (Err e) = Err Read

-- a read behind the bytes that are kept leaves them, and what it brings lies in the input
pub record Brings (before : List ℕ) (kept : ℕ) (e : Result ℕ Failure) (after : List ℕ) : Type 0 where
  pub same : take kept after ≡ take kept before
  pub size : length after ≡ length before
  pub outcome : MatchResult e (λ n. kept + n ≤ length after) (λ f. f ≡ Read)

-- after a refill the unread bytes are those that were, and those that a read brought behind them; it brought nothing: the
-- bytes at hand are the last
pub record Refilled (run : Run) (e : Result (Unit {0}) Failure) (r : Run) : Type 0 where
  pub same : r ≡ record run { input = r.input; from = r.from; to = r.to; last = r.last }
  pub order : r.from ≤ r.to
  pub inside : r.to ≤ length r.input
  pub more : List ℕ
  pub behind : unread r ≡ unread run ++ more
  pub outcome : MatchResult e (λ _. r.last ≡ (length more == 0)) (λ f. (f ≡ Read) × (more ≡ []) × (r.last ≡ run.last))

-- ── a round, and a whole run ──

-- a round goes on, or the program is done, or it failed
abbrev pub Outcome : Type 0
Outcome = Result (ControlFlow (Unit {0}) (Unit {0})) Failure

-- why a run stands as it does. All that was printed was written, but where a write failed; the run is done where the
-- program has stopped and no operation is left; a read failed where no more could be printed from the bytes at hand
abbrev pub Ends : Outcome → Run → Type 0
Ends (Ok (Continue u)) r = r.written ≡ r.printed
Ends (Ok (Break u)) r = (r.written ≡ r.printed) × (r.progress.stopped ≡ true) × (r.progress.left ≡ 0)
Ends (Err Read) r = (r.written ≡ r.printed) × (r.last ≡ false) × Idle r.progress (unread r) r.last
Ends (Err Write) r = r.written < r.printed
Ends (Err TooLong) r = (r.written ≡ r.printed) × (2 ^ 63 ≤ r.progress.place)

-- how many bytes have come
abbrev pub come : Run → ℕ
come r = r.progress.place + (r.to - r.from)

-- what a round that goes on has done: the output was full, bytes came, or the end of the input was found
pub data Moves (run r : Run) : Type 0 where
  full : length r.output < r.printed + 320 → Moves run r
  grown : come run < come r → Moves run r
  closed : run.last ≡ false → r.last ≡ true → Moves run r

-- a round goes on with a stream: some bytes more have come, and the text printed stands at the front of the output
pub record Carries (run : Run) (e : Outcome) (r : Run) : Type 0 where
  pub ends : Ends e r
  pub moves : e ≡ Ok (Continue tt) → Moves run r
  pub inside : r.printed ≤ length r.output
  pub held : Held r
  pub stream : {bs text : List ℕ} → Stream bs run.last (unread run) text run.progress run.ranges run.table run.operations
      → (more : List ℕ)
      × Stream (bs ++ more) r.last (unread r) (text ++ take r.printed r.output) r.progress r.ranges r.table r.operations

-- so many rounds from the start on, each but the last of which goes on, and the text that they handed over
pub data Rounds : ℕ → List ℕ → Outcome → Run → Type 0 where
  no_round : {input out : List ℕ} → Rounds 0 [] (Ok (Continue tt)) (start_run input out)
  next : {n : ℕ} {text : List ℕ} {run : Run} {e : Outcome} {r : Run} → Rounds n text (Ok (Continue tt)) run → Carries run e r
      → Rounds (n + 1) (text ++ take r.printed r.output) e r

-- why a run is over after n rounds: as its last round ended, or because no more are counted
abbrev pub Over : Result (Unit {0}) Failure → Run → ℕ → Type 0
Over (Ok u) r n = Ends (Ok (Break tt)) r
Over (Err Read) r n = Ends (Err Read) r
Over (Err Write) r n = Ends (Err Write) r
Over (Err TooLong) r n = Ends (Err TooLong) r ⊎ (2 ^ 64 ≤ n + 1)

-- a whole run: the text that its rounds handed over, why it is over, and the bytes that have come; where it is done,
-- the text is the script's output
pub record Ran (e : Result (Unit {0}) Failure) (r : Run) : Type 0 where
  pub text : List ℕ
  pub count : ℕ
  pub ended : Outcome
  pub rounds : Rounds count text ended r
  pub over : Over e r count
  pub bytes : List ℕ
  pub stream : Stream bytes r.last (unread r) text r.progress r.ranges r.table r.operations
  pub done : e ≡ Ok tt → text ≡ output bytes

-- ── what is said on standard error ──

abbrev pub message : Failure → String
message Read = "vmbind: cannot read standard input\n"
message Write = "vmbind: cannot write standard output\n"
message TooLong = "vmbind: the script is too long\n"
