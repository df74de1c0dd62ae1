use Rattle.script.proofs.Program.turn.Goals as goal

pub returns-then-self-gt0 : goal.returns-then-self-gt0
returns-then-self-gt0 c = c.write_operation.ensures c.args.bytes.now c.args.last
