-- What a list holds that passed its check.
-- Assumes nothing.
use Rattle.std.specs.Prelude.{List}
use Rattle.model.specs.declared.Range.{Range}
use Rattle.model.specs.Ranges.{ranges_in}
use Rattle.ranges.specs.declared.RangeList.{RangeList}

abbrev pub ranges_held : RangeList → List Range
ranges_held l = ranges_in l.count l.words.now
