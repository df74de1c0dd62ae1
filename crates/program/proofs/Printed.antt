-- Some scripts print what they should, computed.
-- Assumes nothing.
use mathlib.Core.Path.{refl}
use mathlib.Core.List.{flat_map}
use Rattle.model.specs.Rows.{decide}
use Rattle.model.specs.Rules.{form_rows, request_rows}
use Rattle.model.specs.Table.{mappings_in, bad_place, table_rows}
use Rattle.model.specs.Ranges.{ranges_in, list_tests, bare, next_edge, insert_range, listed, remove_range}
use Rattle.model.specs.Cut.{below, above, hits, operations, translate, run_end}
use Rattle.model.specs.Calls.{little_endian, request_of, bytes_of, record_of, lent_rows, bind_rows, bind, lookup}
use Rattle.program.specs.Text.{ascii, digits, decimal, spaced}
use Rattle.program.specs.Script.{record_at, step, run, output}
use Rattle.program.specs.Claims.{scripts, Printed}

pub as_printed : Printed
unfolding scripts output run step record_at little_endian request_of bytes_of record_of ascii digits decimal spaced decide form_rows request_rows table_rows mappings_in bad_place lent_rows ranges_in list_tests bare next_edge insert_range listed remove_range below above hits operations translate run_end bind_rows bind lookup flat_map
as_printed = (refl, (refl, (refl, (refl, (refl, (refl, (refl, (refl, (refl, tt)))))))))
