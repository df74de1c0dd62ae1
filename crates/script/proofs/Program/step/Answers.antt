use mathlib.Core.Path.{refl}
use Rattle.program.specs.declared.Response.TheVariants.{OtherMark, Cut, End}
use Rattle.script.proofs.Stepping.{by_record, told_alone}
use Rattle.script.proofs.Program.step.Goals as goal

pub returns-in-SetSpace-clause-does : goal.returns-in-SetSpace-clause-does
returns-in-SetSpace-clause-does c = by_record c.args.bytes.now c.in-SetSpace.ensures (c.set_space.ensures c.args.bytes.now)

pub returns-in-Bind-clause-does : goal.returns-in-Bind-clause-does
returns-in-Bind-clause-does c = by_record c.args.bytes.now c.in-Bind.ensures (c.bind_request.ensures c.args.bytes.now refl)

pub returns-in-LookUp-clause-does : goal.returns-in-LookUp-clause-does
returns-in-LookUp-clause-does c = by_record c.args.bytes.now c.in-LookUp.ensures (c.look_up.ensures c.args.bytes.now)

pub returns-in-OtherMark-clause-does : goal.returns-in-OtherMark-clause-does
returns-in-OtherMark-clause-does c = by_record c.args.bytes.now c.in-OtherMark.ensures (told_alone c.args.self.now OtherMark)

pub returns-in-Cut-clause-does : goal.returns-in-Cut-clause-does
returns-in-Cut-clause-does c = by_record c.args.bytes.now c.in-Cut.ensures (told_alone c.args.self.now Cut)

pub returns-in-End-clause-does : goal.returns-in-End-clause-does
returns-in-End-clause-does c = by_record c.args.bytes.now c.in-End.ensures (told_alone c.args.self.now End)
