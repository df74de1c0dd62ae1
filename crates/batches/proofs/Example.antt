-- A series with batches for which the premises of demand 3 hold, computed call by call: each refusal that a batch of
-- pieces can get, a single grant, a batch granted, an empty batch. Start, request and pieces are those of `model`'s example.
-- Assumes nothing.
use mathlib.Core.Path.{◌≡◌, refl}
use mathlib.Core.Logic.{◌⊎◌, inl, inr}
use mathlib.Core.List.Memᴰ
use mathlib.Core.List.{List, [], ◌∷◌, flat_map}
use Prim.Native.Nat.{ℕ}
use lib.ListN.{replicate}
use Rattle.model.specs.Rows.{Reply, refused, answered, decide}
use Rattle.model.specs.Rules.{by_numbers, form_rows, request_rows}
use Rattle.model.specs.Table.{mappings_in, bad_place, table_rows}
use Rattle.model.specs.Ranges.{ranges_in, list_tests}
use Rattle.model.specs.Cut.{below, above, hits, operations}
use Rattle.model.specs.Calls.{numbers, Lent, lent_rows, bind_rows, bind, little_endian, request_of, bytes_of, record_of}
use Rattle.model.specs.Exactly.{◌∈◌, ◌⊆◌, Each, refusal}
use Rattle.model.specs.Demand3.{final, Somewhere, Everywhere, answer_to, left_of, IsGrant, Replaced}
use Rattle.model.proofs.Example.{space, start, whole, a, b, c, parts, uncut, are_pieces, asks as asks-whole, grant, off}
use Rattle.batches.specs.Prelude.{Request, Grant}
use Rattle.batches.specs.Batch.{records_in, requests_in, batch_rows, turns_rows, after_all, operations_all, bind_batch}
use Rattle.batches.specs.Demand3.{AnyCall, single, batch, answer_to_any, left_by_any, Lends, asks, Wants}
use Rattle.batches.proofs.Demand3.{demand_3}

-- a batch with n words to work in and 56 for operations
abbrev array : ℕ → List Request → AnyCall
array n rs = batch (record { work = replicate n 5; operations = replicate 56 3; records = flat_map record_of rs })

-- b, too early; a work table too long, and a request that is no piece; a byte too much; c and b, whose operations don't
-- fit; c; b and a; nothing
abbrev series : List AnyCall
series =
    array 12 (b ∷ [])
    ∷ array 13 (by_numbers 1 0 65536 0 0 ∷ [])
    ∷ batch (record { work = replicate 12 0; operations = replicate 56 0; records = 0 ∷ record_of a })
    ∷ array 12 (c ∷ b ∷ [])
    ∷ single (record { asking = numbers 0 8192 8192 9 12288; operations = replicate 56 1 })
    ∷ array 12 (b ∷ a ∷ [])
    ∷ array 12 []
    ∷ []

-- ── the premises ──

a_in : a ∈ parts
a_in = Memᴰ.head refl

b_in : b ∈ parts
b_in = Memᴰ.tail (Memᴰ.head refl)

c_in : c ∈ parts
c_in = Memᴰ.tail (Memᴰ.tail (Memᴰ.head refl))

pub each_asks : Each (λ d. Lends 56 d × asks 12 d ⊆ parts) series
unfolding request_of little_endian bytes_of record_of records_in requests_in flat_map
each_asks = (
  (refl, (b_in, tt)),
  ((refl, tt), ((refl, tt), ((refl, (c_in, (b_in, tt))), (((tt, refl), (c_in, tt)), ((refl, (b_in, (a_in, tt))), ((refl, tt), tt)))))),
)

-- ── the answers ──

abbrev answers : Lent → List AnyCall → List (Reply Grant)
answers l [] = []
answers l (d ∷ ds) = answer_to_any space l d ∷ answers (left_by_any space l d) ds

pub answered_so : answers start series
    ≡ refused 11 0 ∷ refusal 15 ∷ refusal 12 ∷ refused 16 1 ∷ answered (grant 3 2) ∷ answered (grant 4 3) ∷ answered (grant 0 3) ∷ []
unfolding bind_batch batch_rows turns_rows after_all operations_all records_in requests_in bind bind_rows decide form_rows table_rows lent_rows ranges_in list_tests request_rows request_of little_endian bytes_of record_of mappings_in bad_place below above hits operations flat_map
answered_so = refl

-- a and b by the sixth call, c by the fifth
pub each_granted : Each (λ p. Somewhere (left_by_any space) (λ k d. p ∈ asks 12 d × IsGrant (answer_to_any space k d)) start series) parts
unfolding bind_batch batch_rows turns_rows after_all operations_all records_in requests_in bind bind_rows decide form_rows table_rows lent_rows ranges_in list_tests request_rows request_of little_endian bytes_of record_of mappings_in bad_place below above hits operations flat_map
each_granted = (
  inr (inr (inr (inr (inr (inl (Memᴰ.tail (Memᴰ.head refl), (grant 4 3, refl))))))),
  (
    inr (inr (inr (inr (inr (inl (Memᴰ.head refl, (grant 4 3, refl))))))),
    (inr (inr (inr (inr (inl (Memᴰ.head refl, (grant 3 2, refl)))))), tt),
  ),
)

-- ── the claim about it ──

pub granted : IsGrant (answer_to space start uncut)
granted = ((demand_3 space start whole parts uncut series off are_pieces asks-whole each_asks).0 each_granted).0

pub replaced : Replaced start whole parts (left_of space start uncut) (final (left_by_any space) start series)
replaced = ((demand_3 space start whole parts uncut series off are_pieces asks-whole each_asks).0 each_granted).1 refl

pub only_room : Everywhere (left_by_any space) (λ k d. IsGrant (answer_to_any space k d) ⊎ Wants 12 d (answer_to_any space k d)) start series
only_room = (demand_3 space start whole parts uncut series off are_pieces asks-whole each_asks).1 granted
