-- A part of a space in which nothing is reserved.
-- Assumes nothing.
use Rattle.std.specs.Prelude.{ℕ}
use Rattle.model.specs.declared.Space.{Space}
use Rattle.model.specs.Calls.{space_of}

-- [0, stop). A part that starts higher is one whose first mapping has to
abbrev pub up_to : ℕ → Space
up_to stop = space_of 0 stop 0 0
