-- The rows that look at a table alone.
-- Assumes nothing.
use Rattle.std.specs.Prelude.{List, ◌∷◌}
use Rattle.model.specs.declared.Space.{Space}
use Rattle.model.specs.Rows.{Row}
use Rattle.model.specs.Table.{Table, length_row, content_rows}

-- 2, 4, 5, 17
abbrev pub own_rows : Space → Table → List Row
own_rows s t = length_row t ∷ content_rows s t
