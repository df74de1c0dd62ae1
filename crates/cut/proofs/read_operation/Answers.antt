use mathlib.Core.Path.{◌∙◌}
use Rattle.cut.proofs.Reading.{operation_read}
use Rattle.cut.proofs.read_operation.Goals as goal

pub returns : goal.returns
returns c =
    c.operation_by.ensures ∙ rw (c.rests-rests.ensures, c.rest_from.ensures, c.rest_from-2.ensures, c.mapping_from.ensures) (operation_read c.args.words.now)
