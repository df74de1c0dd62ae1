-- The operations of mappings that are hit, and what the code that writes them asks for.
-- Assumes nothing.
use Rattle.std.specs.Prelude.{List, ◌++◌, map, ℕ, ◌+◌, ◌*◌, ◌≤◌, ◌<◌, eqb, length, Option, Some, None}
use Rattle.model.specs.declared.Mapping.{Mapping}
use Rattle.model.specs.declared.Request.{Request}
use Rattle.model.specs.declared.Rests.{Rests}
use Rattle.model.specs.declared.Rests.TheVariants.{Lower, Upper, Both}
use Rattle.model.specs.declared.Operation.{Operation}
use Rattle.model.specs.declared.Operation.TheVariants.{Map}
use Rattle.model.specs.Rules.{limit, end, stop}
use Rattle.model.specs.Rows.{choose}
use Rattle.model.specs.Layout.{is_absent}
use Rattle.model.specs.Cut.{new, operation_of}
use Rattle.table.specs.Places.{mapping_at, between, Valid}

-- the mapping ends behind the range's first byte, and starts before its end
abbrev pub Hit : Request → Mapping → Type 0
Hit r m = (r.address < end m) × (m.address < stop r)

-- the range is not empty, the mapping is hit, and no sum of a cut is large
pub record Cuttable (r : Request) (m : Mapping) : Type 0 where
  pub not_empty : 0 < r.size
  pub hit : Hit r m
  pub stop_most : stop r ≤ limit
  pub end_most : end m ≤ limit
  pub offset_most : m.offset + m.size ≤ limit

-- address and offset are not large: the displacement fits in 64 bits with a sign
abbrev pub Bounded : Mapping → Type 0
Bounded m = (m.address ≤ limit) × (m.offset ≤ limit)

-- a part of a mapping, unless nothing is left of it; and a rest, unless its words are zeros
abbrev pub some_left : Mapping → Option Mapping
some_left m = choose (eqb m.size 0) None (Some m)

abbrev pub rest_in : Mapping → Option Mapping
rest_in m = choose (is_absent m) None (Some m)

-- the rests, if there are any
abbrev pub rests_for : Option Mapping → Option Mapping → Option Rests
rests_for None None = None
rests_for (Some l) None = Some (Lower l)
rests_for None (Some u) = Some (Upper u)
rests_for (Some l) (Some u) = Some (Both l u)

-- the operations of these mappings, all hit; and of a request that hits them
unfoldable pub hit_operations : Request → List Mapping → List Operation
hit_operations r hs = map (operation_of r) hs

unfoldable pub operations_for : Request → List Mapping → List Operation
operations_for r hs = hit_operations r hs ++ map Map (new r)

-- lo and hi are places of a table that passed its check, the mappings between them are hit, and n words have room for the
-- operations
pub record Hits (r : Request) (ws : List ℕ) (lo hi n : ℕ) : Type 0 where
  pub count : ℕ
  pub table : Valid ws count
  pub low : lo ≤ hi
  pub high : hi ≤ count
  pub hit : (i : ℕ) → lo ≤ i → i < hi → Hit r (mapping_at ws i)
  pub not_empty : 0 < r.size
  pub stop_most : stop r ≤ limit
  pub offset_most : r.offset ≤ limit
  pub room : 14 * length (operations_for r (between ws lo hi)) ≤ n
