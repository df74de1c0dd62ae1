-- How a request cuts the old mappings (document 01), what it hands the driver for them, what a byte address shows, and
-- for how many bytes: of any list of mappings.
use Rattle.std.specs.Prelude.{Bool, false, List, [], ◌∷◌, ◌++◌, map, ℕ, zero, suc, ◌+◌, ◌-◌, min, max, leb, ltb, eqb, ℤ, pos, negsuc}
use Rattle.std.proofs.Math.IntN.{sub_ℕ}
use Rattle.model.specs.Prelude.{Range, Space, Mapping, Request, Rests, Lower, Upper}
use Rattle.model.specs.Prelude.{Both, Operation, Map, Remap, Unmap, Shown, Object, Seen}
use Rattle.model.specs.Rows.{all, choose}
use Rattle.model.specs.Rules.{end, stop, apart}
use Rattle.model.specs.Ranges.{bare, nearer, next_edge}

-- the part under the address a (document 01: lower rest); size 0 where there is none
abbrev pub lower_part : ℕ → Mapping → Mapping
lower_part a m = record { address = m.address; size = min a (end m) - m.address; object = m.object; offset = m.offset }

-- the part from b on (document 01: upper rest): its offset moves up by the same distance as its address
abbrev pub upper_part : ℕ → Mapping → Mapping
upper_part b m =
    record { address = max b m.address; size = end m - max b m.address; object = m.object; offset = m.offset + (max b m.address - m.address) }

-- a mapping of the size n in front of others, unless it is empty
abbrev pub sized : ℕ → Mapping → List Mapping → List Mapping
sized zero m ms = ms
sized (suc n) m ms = m ∷ ms

abbrev pub prepend : Mapping → List Mapping → List Mapping
prepend m ms = sized m.size m ms

-- the parts of all mappings under a, and from b on
unfoldable pub below : ℕ → List Mapping → List Mapping
below a [] = []
below a (m ∷ ms) = prepend (lower_part a m) (below a ms)

unfoldable pub above : ℕ → List Mapping → List Mapping
above b [] = []
above b (m ∷ ms) = prepend (upper_part b m) (above b ms)

-- [a, b) gives way to the mappings new
abbrev pub put : ℕ → ℕ → List Mapping → List Mapping → List Mapping
put a b new ms = below a ms ++ (new ++ above b ms)

-- the mapping that a map asks for
abbrev pub mapping_of : Request → Mapping
mapping_of r = record { address = r.address; size = r.size; object = r.object; offset = r.offset }

-- what the range gets, by the op: a map's one mapping; nothing
abbrev pub new_for : ℕ → Mapping → List Mapping
new_for zero m = m ∷ []
new_for (suc n) m = []

abbrev pub new : Request → List Mapping
new r = new_for r.op (mapping_of r)

-- the table after a grant
abbrev pub after : Request → List Mapping → List Mapping
after r ms = put r.address (stop r) (new r) ms

-- an old mapping is hit if it shares a byte with the range, else spared
abbrev pub spared : Request → Mapping → Bool
spared r m = apart m.address (end m) r.address (stop r)

unfoldable pub hits : Request → List Mapping → List Mapping
hits r [] = []
hits r (m ∷ ms) = choose (spared r m) (hits r ms) (m ∷ hits r ms)

-- document 02: displacement, the offset less the address, which may be below zero
abbrev pub displacement : Mapping → ℤ
displacement m = sub_ℕ m.offset m.address

abbrev pub eq_z : ℤ → ℤ → Bool
eq_z (pos a) (pos b) = eqb a b
eq_z (negsuc a) (negsuc b) = eqb a b
eq_z (pos a) (negsuc b) = false
eq_z (negsuc a) (pos b) = false

-- the same object and displacement: mappings that show the same at an address where both have a byte
abbrev pub agree_tests : Mapping → Mapping → List Bool
agree_tests m n = eqb m.object n.object ∷ eq_z (displacement m) (displacement n) ∷ []

-- document 02: keep. The request is a map, and the old mapping agrees with the one that it asks for
abbrev pub keep_tests : Request → Mapping → List Bool
keep_tests r m = eqb r.op 0 ∷ agree_tests m (mapping_of r)

abbrev pub keep_mark : Request → Mapping → Bool
keep_mark r m = all (keep_tests r m)

-- by the sizes of the lower and the upper rest: wholly inside the range, an unmap; else one remap
abbrev pub operation_for : ℕ → ℕ → Bool → Mapping → Mapping → Mapping → Operation
operation_for zero zero keep m l u = Unmap keep m
operation_for (suc i) zero keep m l u = Remap keep m (Lower l)
operation_for zero (suc j) keep m l u = Remap keep m (Upper u)
operation_for (suc i) (suc j) keep m l u = Remap keep m (Both l u)

abbrev pub operation_of : Request → Mapping → Operation
operation_of r m =
    operation_for (lower_part r.address m).size (upper_part (stop r) m).size (keep_mark r m) m (lower_part r.address m) (upper_part (stop r) m)

-- the operations, in ascending address of the old mapping; a map's own at the very end
unfoldable pub operations : Request → List Mapping → List Operation
operations r ms = map (operation_of r) (hits r ms) ++ map Map (new r)

-- the old mapping of an operation, if it has one, and its rests
abbrev pub rests_of : Rests → List Mapping
rests_of (Lower l) = l ∷ []
rests_of (Upper u) = u ∷ []
rests_of (Both l u) = l ∷ u ∷ []

abbrev pub old : Operation → List Mapping
old (Map m) = []
old (Remap keep m rs) = m ∷ []
old (Unmap keep m) = m ∷ []

abbrev pub rests : Operation → List Mapping
rests (Map m) = []
rests (Remap keep m rs) = rests_of rs
rests (Unmap keep m) = []

-- document 01: Look-up. The byte address x lies inside m
abbrev pub inside_tests : Mapping → ℕ → List Bool
inside_tests m x = leb m.address x ∷ ltb x (end m) ∷ []

-- an address in no mapping shows what stands beside the table: `off`
unfoldable pub translate : Shown → List Mapping → ℕ → Shown
translate off [] x = off
translate off (m ∷ ms) x = choose (all (inside_tests m x)) (Object m.object (m.offset + (x - m.address))) (translate off ms x)

-- document 02: the address up to which the answer at x goes on: its mapping's end; off mappings the next mapping's
-- address, or the edge `to` if that is nearer
unfoldable pub run_end : ℕ → List Mapping → ℕ → ℕ
run_end to [] x = to
run_end to (m ∷ ms) x = choose (all (inside_tests m x)) (end m) (nearer x m.address (run_end to ms x))

-- the bytes from x up to an address; outside the space none
abbrev pub in_space_tests : Space → ℕ → List Bool
in_space_tests s x = leb s.start x ∷ ltb x (s.start + s.size) ∷ []

abbrev pub bytes_to : Space → ℕ → ℕ → ℕ
bytes_to s to x = choose (all (in_space_tests s x)) (to - x) 0

-- what a look-up sees at x, beside these sparse ranges: off mappings sparse or nothing, up to the next edge
abbrev pub see : Space → List Range → List Mapping → ℕ → Seen
see s ys ms x =
    record { shown = translate (bare ys x) ms x; bytes = bytes_to s (run_end (next_edge (s.start + s.size) ys x) ms x) x }
