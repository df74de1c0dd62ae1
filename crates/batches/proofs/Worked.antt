-- Batches at the edges, computed: every answer and every word that each leaves, on a table with one mapping.
-- Assumes nothing.
use mathlib.Core.Path.{◌≡◌, refl}
use mathlib.Core.List.{List, [], ◌∷◌, ◌++◌, flat_map}
use Prim.Native.Nat.{ℕ, ◌-◌, ◌*◌}
use lib.ListN.{length, replicate}
use Rattle.model.specs.Rows.{refused, answered, decide}
use Rattle.model.specs.Rules.{by_numbers, form_rows, request_rows}
use Rattle.model.specs.Table.{mappings_in, bad_place, table_rows}
use Rattle.model.specs.Ranges.{ranges_in, list_tests}
use Rattle.model.specs.Cut.{below, above, hits, operations}
use Rattle.model.specs.Calls.{Lent, lent_rows, space_of, little_endian, request_of, bytes_of, record_of}
use Rattle.model.specs.Exactly.{Each}
use Rattle.batches.specs.Prelude.{Request}
use Rattle.batches.specs.Batch.{records_in, requests_in, batch_rows, turns_rows, after_all, operations_all, BatchOutcome, bind_batch}

-- what is lent, how many words to work in and for operations, the records, and what comes of it
record Case : Type 0 where
  lent : Lent
  work : ℕ
  operations : ℕ
  records : List ℕ
  outcome : BatchOutcome

-- words to work in are 5, those for operations 3
abbrev Right : Case → Type 0
Right c =
    bind_batch (space_of 0 65536 0 0) c.lent (replicate c.work 5) (replicate c.operations 3) c.records ≡ c.outcome

-- the batch's own refusal; one in turn; a grant that leaves these words and operations
abbrev own : Lent → ℕ → ℕ → List ℕ → ℕ → ℕ → Case
own l w k bs n p = record {
  lent = l;
  work = w;
  operations = k;
  records = bs;
  outcome = record { answer = refused n p; table = l.table.words; work = replicate w 5; operations = replicate k 3 };
}

abbrev in_turn : Lent → ℕ → ℕ → List Request → ℕ → ℕ → Case
in_turn l w k rs n p = record {
  lent = l;
  work = w;
  operations = k;
  records = flat_map record_of rs;
  outcome = record { answer = refused n p; table = l.table.words; work = replicate w 0; operations = replicate k 0 };
}

abbrev granted : Lent → ℕ → ℕ → List Request → ℕ → ℕ → List ℕ → List ℕ → Case
granted l w k rs n count ts os = record {
  lent = l;
  work = w;
  operations = k;
  records = flat_map record_of rs;
  outcome = record {
    answer = answered (record { operations = n; count = count; ranges = 0 });
    table = ts;
    work = replicate w 0;
    operations = os ++ replicate (k - length os) 3;
  };
}

-- [4096, 8192) of object 7, and room for so many more; no list
abbrev holding : ℕ → Lent
holding n = record { table = record { words = 4096 ∷ 4096 ∷ 7 ∷ 0 ∷ replicate (4 * n) 0; count = 1 }; ranges = record { words = []; count = 0 } }

-- the same with a second mapping that overlaps the first
abbrev bad : Lent
bad = record {
  table = record { words = 4096 ∷ 4096 ∷ 7 ∷ 0 ∷ 4096 ∷ 4096 ∷ 8 ∷ 0 ∷ []; count = 2 };
  ranges = record { words = []; count = 0 };
}

-- map [4096, 8192) of object 8, unmap it, unmap [0, 4096), where nothing is
abbrev put : Request
put = by_numbers 0 4096 4096 8 0

abbrev clear : Request
clear = by_numbers 1 4096 4096 0 0

abbrev idle : Request
idle = by_numbers 1 0 4096 0 0

-- an op that there is not; a pad; the sparse flag, which a batch does not serve
abbrev no_op : Request
no_op = by_numbers 2 0 4096 0 0

abbrev padded : Request
padded = record { op = 1; flags = 0; object = 0; pad = 1; address = 0; offset = 0; size = 4096 }

abbrev flagged : Request
flagged = record { op = 0; flags = 256; object = 0; pad = 0; address = 0; offset = 0; size = 4096 }

-- the operations of put on what is held, and on what it leaves
abbrev put_words : ℕ → ℕ → List ℕ
put_words object keep = 2 ∷ keep ∷ 4096 ∷ 4096 ∷ object ∷ 0 ∷ (replicate 8 0 ++ (0 ∷ 0 ∷ 4096 ∷ 4096 ∷ 8 ∷ 0 ∷ replicate 8 0))

abbrev cases : List Case
cases =
    -- 13 and 14 come in turn, and a request that was granted before is undone
    in_turn (holding 1) 8 42 (put ∷ no_op ∷ []) 13 1
    ∷ in_turn (holding 1) 8 42 (put ∷ padded ∷ []) 14 1
    ∷ in_turn (holding 1) 8 42 (flagged ∷ []) 14 0
    -- and behind the table's own refusals
    ∷ own bad 8 42 (record_of no_op) 5 1
    -- 12 comes first, 3 before 15, 15 before 5
    ∷ own bad 7 41 (0 ∷ []) 12 0
    ∷ own bad 7 41 (record_of put) 3 0
    ∷ own bad 7 42 (record_of put) 15 0
    -- 64 records and one more
    ∷ granted (holding 1) 8 42 (replicate 64 idle) 0 1 (holding 1).table.words []
    ∷ own (holding 1) 8 42 (flat_map record_of (replicate 65 idle)) 12 0
    -- a request sees what the one before left; words behind the last operation are as they were
    ∷ granted (holding 1) 8 70 (put ∷ put ∷ []) 4 1 (4096 ∷ 4096 ∷ 8 ∷ 0 ∷ replicate 4 0) (put_words 7 0 ++ put_words 8 1)
    -- 16 goes by the operations that come: with no word left an unmap of nothing is granted, one of a mapping not
    ∷ granted (holding 0) 4 28 (put ∷ idle ∷ []) 2 1 (4096 ∷ 4096 ∷ 8 ∷ 0 ∷ []) (put_words 7 0)
    ∷ in_turn (holding 0) 4 28 (put ∷ idle ∷ clear ∷ []) 16 2
    ∷ []

pub as_computed : Each Right cases
unfolding bind_batch batch_rows turns_rows after_all operations_all records_in requests_in decide form_rows table_rows lent_rows ranges_in list_tests request_rows request_of little_endian bytes_of record_of mappings_in bad_place below above hits operations flat_map
as_computed = (refl, (refl, (refl, (refl, (refl, (refl, (refl, (refl, (refl, (refl, (refl, (refl, tt))))))))))))
