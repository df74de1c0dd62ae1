use Rattle.script.proofs.Turning.{answered_turns, waiting_turns}
use mathlib.Core.Path.{sym}
use Rattle.script.proofs.Program.answer.Goals as goal

pub returns-then-waits : goal.returns-then-waits
returns-then-waits c =
    waiting_turns c.args.self.now c.args.bytes.now c.args.last c.requires.1 c.step-response.ensures.does c.requires.0.held (sym c.if-waits.ensures)

pub returns : goal.returns
returns c =
    rw (c.operation_count.ensures, c.stops.ensures) (answered_turns c.args.self.now c.args.bytes.now c.args.last c.requires.1 c.step-response.ensures.does c.requires.2
    c.step-response.ensures.takes (sym c.if-waits.ensures) c.response.ensures)
