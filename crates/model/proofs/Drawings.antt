-- The drawings marked P come out as drawn, computed.
-- Assumes nothing.
use mathlib.Core.Path.{refl}
use mathlib.Core.List.{flat_map}
use Rattle.model.specs.Rows.{decide}
use Rattle.model.specs.Rules.{form_rows, request_rows}
use Rattle.model.specs.Table.{mappings_in, bad_place, table_rows}
use Rattle.model.specs.Ranges.{ranges_in, list_tests}
use Rattle.model.specs.Cut.{below, above, hits, operations}
use Rattle.model.specs.Calls.{lent_rows, bind_rows, bind}
use Rattle.model.specs.Drawings.{drawings, Drawings}

pub as_drawn : Drawings
unfolding drawings bind bind_rows decide form_rows table_rows lent_rows ranges_in list_tests request_rows mappings_in bad_place below above hits operations flat_map
as_drawn = (refl, (refl, (refl, (refl, (refl, (refl, (refl, (refl, (refl, (refl, (refl, (refl, (refl, (refl, (refl, (refl, tt))))))))))))))))
