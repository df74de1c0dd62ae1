use native.Mathlib.Omega.{arith}
use Rattle.text.specs.Lines.{Adds}
use Rattle.text.proofs.Adding.{adds_none, adds_most}
use Rattle.script.specs.Progress.{operation_at, listed_lines}
use Rattle.script.proofs.Turning.{operation_turns}
use Rattle.script.proofs.Program.write_operation.Goals as goal
use Rattle.script.proofs.Program.write_operation.Goals.{in-Some, in_default}

pub returns : goal.returns
returns c =
    let b = c.args.self.now in
    let put : Adds c.args.lines.now (listed_lines (operation_at b.operations.now b.progress.next)) 320 c.match-next_operation.lines =
    elim c.match-next_operation.branch [
      | in-Some w ↦ rw (w.lines-is, ← c.next_operation.ensures, w.in-Some.is) w.operation.ensures
      | in_default w ↦ rw (w.lines-is, ← w.in_default.ensures) (adds_most (omega arith) adds_none)
    ] in
    operation_turns b c.requires.0 c.requires.1 put
