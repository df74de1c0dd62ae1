-- What is seen at a byte address beside sparse ranges, by what a table alone shows.
-- Assumes nothing.
use Rattle.std.specs.Prelude.{List, ℕ, ◌+◌, ◌-◌}
use Rattle.model.specs.declared.Range.{Range}
use Rattle.model.specs.declared.Seen.{Seen}
use Rattle.model.specs.declared.Shown.{Shown}
use Rattle.model.specs.declared.Shown.TheVariants.{Nothing, Sparse, Object}
use Rattle.model.specs.Ranges.{bare, next_edge}

-- off all mappings, the next of which or the space's end is n bytes on: sparse or nothing, up to the next edge
unfoldable pub beside_off : List Range → ℕ → ℕ → Seen
beside_off ys x n = record { shown = bare ys x; bytes = next_edge (x + n) ys x - x }

abbrev pub beside_for : Shown → List Range → ℕ → Seen → Seen
beside_for Nothing ys x v = beside_off ys x v.bytes
beside_for Sparse ys x v = v
beside_for (Object o f) ys x v = v

-- at x, where a table alone shows v
unfoldable pub beside : List Range → ℕ → Seen → Seen
beside ys x v = beside_for v.shown ys x v
