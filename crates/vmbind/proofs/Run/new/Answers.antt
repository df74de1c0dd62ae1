use mathlib.Core.Path.{refl}
use Rattle.vmbind.proofs.Run.new.Goals as goal

pub returns : goal.returns
returns c = rw c.start.ensures refl
