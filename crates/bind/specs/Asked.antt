-- A request by its numbers, as it comes.
-- Assumes nothing.
use Rattle.model.specs.Calls.{Asking, numbers}
use Rattle.bind.specs.declared.Numbers.{Numbers}

abbrev pub numbers_of : Numbers → Asking
numbers_of q = numbers q.op q.address q.size q.object q.offset
