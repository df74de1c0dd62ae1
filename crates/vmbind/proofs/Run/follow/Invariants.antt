use Rattle.std.proofs.Common.{List, ℕ, Ok, Continue}
use Rattle.vmbind.specs.Buffers.{Rounds}
use Rattle.vmbind.proofs.Run.follow.Given as goal

abbrev pub invariant-loop : goal.invariant-loop
invariant-loop l = (text : List ℕ) × Rounds l.counter text (Ok (Continue tt)) l.self
