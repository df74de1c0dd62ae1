-- A series for which the premises of demand 3 hold, computed call by call: a refusal, another order, a piece twice,
-- both kinds of call.
-- Assumes nothing.
use mathlib.Core.Path.{◌≡◌, refl}
use mathlib.Core.Logic.{inl, inr}
use mathlib.Core.List.Memᴰ
use mathlib.Core.List.{List, [], ◌∷◌, flat_map}
use Prim.Native.Nat.{ℕ}
use native.Mathlib.Omega.{arith}
use lib.ListN.{replicate}
use Rattle.model.specs.Prelude.{Space, Request, Grant}
use Rattle.model.specs.Rows.{decide}
use Rattle.model.specs.Rules.{by_numbers, form_rows, request_rows}
use Rattle.model.specs.Table.{mappings_in, bad_place, table_rows}
use Rattle.model.specs.Ranges.{ranges_in, list_tests}
use Rattle.model.specs.Cut.{below, above, hits, operations}
use Rattle.model.specs.Calls.{Reply, answered, Asking, numbers, bytes, asked, Lent, lent_rows, bind_rows, bind, space_of, little_endian, request_of, bytes_of, record_of}
use Rattle.model.specs.Exactly.{◌∈◌, Each, refusal}
use Rattle.model.specs.Demand3.{Pieces, final, Somewhere, Call, Asks, answer_to, left_of, IsGrant, Replaced}
use Rattle.model.proofs.Cuts.{pieces_from, pieces}
use Rattle.model.proofs.Pieces.{cut_pieces}
use Rattle.model.proofs.Demand3.{demand_3}

abbrev pub space : Space
space = space_of 0 65536 0 0

-- [0, 12288) of object 7 and [12288, 16384) of object 8, room for a third; [8192, 20480) is sparse, room for another
abbrev pub start : Lent
start = record {
  table = record { words = 0 ∷ 12288 ∷ 7 ∷ 0 ∷ 12288 ∷ 4096 ∷ 8 ∷ 0 ∷ replicate 4 0; count = 2 };
  ranges = record { words = 8192 ∷ 12288 ∷ 0 ∷ 0 ∷ []; count = 1 };
}

-- map [0, 16384) of object 9 from offset 4096 on, cut at 4096 and 8192
abbrev pub whole : Request
whole = by_numbers 0 0 16384 9 4096

abbrev pub a : Request
a = by_numbers 0 0 4096 9 4096

abbrev pub b : Request
b = by_numbers 0 4096 4096 9 8192

abbrev pub c : Request
c = by_numbers 0 8192 8192 9 12288

abbrev cuts : List ℕ
cuts = 4096 ∷ 8192 ∷ []

abbrev pub parts : List Request
parts = a ∷ b ∷ c ∷ []

-- a call with an operation slice of 56 words, all x
abbrev call : ℕ → Asking → Call
call x q = record { asking = q; operations = replicate 56 x }

abbrev pub uncut : Call
uncut = call 0 (numbers 0 0 16384 9 4096)

-- b, c, b, c, a
abbrev series : List Call
series =
    call 1 (bytes (record_of b))
    ∷ call 2 (numbers 0 8192 8192 9 12288)
    ∷ call 3 (numbers 0 4096 4096 9 8192)
    ∷ call 4 (bytes (record_of c))
    ∷ call 5 (numbers 0 0 4096 9 4096)
    ∷ []

-- ── the premises ──

pub cut : pieces whole cuts ≡ parts
unfolding pieces_from
cut = refl

pub are_pieces : Pieces whole parts
unfolding pieces_from
are_pieces = cut_pieces whole cuts (omega arith, refl, (omega arith, refl, omega arith))

pub asks : Asks 56 whole uncut
asks = (tt, refl, refl)

pub each_asks : Each (λ d. (p : Request) × p ∈ parts × Asks 56 p d) series
unfolding request_of little_endian bytes_of record_of
each_asks = (
  (b, b_in, (refl, refl, refl)),
  ((c, c_in, (tt, refl, refl)), ((b, b_in, (tt, refl, refl)), ((c, c_in, (refl, refl, refl)), ((a, a_in, (tt, refl, refl)), tt)))),
)
  where
    a_in : a ∈ parts
    a_in = Memᴰ.head refl

    b_in : b ∈ parts
    b_in = Memᴰ.tail (Memᴰ.head refl)

    c_in : c ∈ parts
    c_in = Memᴰ.tail (Memᴰ.tail (Memᴰ.head refl))

-- ── the answers ──

-- the answers of a series, in order
abbrev answers : Lent → List Call → List (Reply Grant)
answers l [] = []
answers l (d ∷ ds) = answer_to space l d ∷ answers (left_of space l d) ds

abbrev pub grant : ℕ → ℕ → Grant
grant n k = record { operations = n; count = k; ranges = 1 }

-- b comes too early: it would leave four mappings. c again takes no room
pub answered_so : answers start series
    ≡ refusal 11 ∷ answered (grant 3 2) ∷ answered (grant 2 3) ∷ answered (grant 2 3) ∷ answered (grant 2 3) ∷ []
unfolding bind bind_rows decide form_rows table_rows lent_rows ranges_in list_tests request_rows request_of little_endian bytes_of record_of mappings_in bad_place below above hits operations flat_map
answered_so = refl

-- a by the fifth call, b by the third, c by the second
pub each_granted : Each (λ p. Somewhere (left_of space) (λ u d. (asked d.asking ≡ p) × IsGrant (answer_to space u d)) start series) parts
unfolding bind bind_rows decide form_rows table_rows lent_rows ranges_in list_tests request_rows request_of little_endian bytes_of record_of mappings_in bad_place below above hits operations flat_map
each_granted =
    (inr (inr (inr (inr (inl (refl, (grant 2 3, refl)))))), (inr (inr (inl (refl, (grant 2 3, refl)))), (inr (inl (refl, (grant 3 2, refl))), tt)))

pub outcome : final (left_of space) start series
    ≡ record { table = record { words = 0 ∷ 4096 ∷ 9 ∷ 4096 ∷ 4096 ∷ 4096 ∷ 9 ∷ 8192 ∷ 8192 ∷ 8192 ∷ 9 ∷ 12288 ∷ []; count = 3 }; ranges = start.ranges }
unfolding final bind bind_rows decide form_rows table_rows lent_rows ranges_in list_tests request_rows request_of little_endian bytes_of record_of mappings_in bad_place below above hits operations flat_map
outcome = refl

-- ── the claim about it ──

-- no flag
pub off : whole.flags ≡ 256 → ⊥
off e = omega arith

pub granted : IsGrant (answer_to space start uncut)
granted = ((demand_3 space start whole parts uncut series off are_pieces asks each_asks).0 each_granted).0

pub replaced : Replaced start whole parts (left_of space start uncut) (final (left_of space) start series)
replaced = ((demand_3 space start whole parts uncut series off are_pieces asks each_asks).0 each_granted).1 refl
