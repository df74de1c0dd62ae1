-- The program at work: what it holds, and what a step and a turn of it promise.
-- Assumes nothing.
use Rattle.std.specs.Prelude.{◌≡◌, Bool, List, ℕ, length}
use Rattle.program.specs.declared.Response.{Response}
use Rattle.program.specs.Script.{State, Step, response_told}
use Rattle.text.specs.declared.Lines.{Lines}
use Rattle.script.specs.declared.Program.{Program}
use Rattle.script.specs.Progress.{held_by, Turns}

abbrev pub held : Program → State
held p = held_by p.progress p.ranges.now p.table.now p.operations.now

-- it works on the same lent slices
pub record SameLent (before after : Program) : Type 0 where
  pub ranges : after.ranges.ghost_name ≡ before.ranges.ghost_name
  pub table : after.table.ghost_name ≡ before.table.ghost_name
  pub operations : after.operations.ghost_name ≡ before.operations.ghost_name

-- its answer and what it holds are those of `did`; its place and what is to be written stay
pub record Does (did : Step) (before : Program) (response : Response) (after : Program) : Type 0 where
  pub leaves : did ≡ record { told = response_told response; state = held after }
  pub stays : after.progress ≡ record before.progress { space = after.progress.space; ranges = after.progress.ranges; count = after.progress.count }
  pub lent : SameLent before after

-- one turn, which took so many of the bytes bs, with the text that it put behind the lines
pub record TurnsFrom (before : Program) (bs : List ℕ) (last : Bool) (lines : Lines) (taken : ℕ) (after : Program) (lines' : Lines) : Type 0 where
  pub turn : Turns before.progress before.ranges.now before.table.now before.operations.now bs last lines.out.now lines.end
      (record { progress = after.progress; taken = taken; end = lines'.end }) after.ranges.now after.table.now after.operations.now lines'.out.now
  pub lent : SameLent before after
  pub same_slice : lines'.out.ghost_name ≡ lines.out.ghost_name
  pub same_length : length lines'.out.now ≡ length lines.out.now
