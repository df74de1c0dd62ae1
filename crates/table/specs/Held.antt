-- What a table holds that passed its check.
-- Assumes nothing.
use Rattle.std.specs.Prelude.{List}
use Rattle.model.specs.declared.Mapping.{Mapping}
use Rattle.model.specs.Table.{mappings_in}
use Rattle.table.specs.declared.Table.{Table}

abbrev pub mappings_held : Table → List Mapping
mappings_held t = mappings_in t.count t.words.now
