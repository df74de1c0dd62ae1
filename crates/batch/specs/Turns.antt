-- What the code of a batch goes by: one request in its turn, all of them, and all or none.
-- Assumes nothing.
use Rattle.std.specs.Prelude.{List, [], ◌∷◌, ◌++◌, ℕ, suc, ◌+◌, ◌*◌, take, drop, length, replicate}
use Rattle.model.specs.declared.Request.{Request}
use Rattle.model.specs.declared.Space.{Space}
use Rattle.model.specs.Rows.{Reply, refused, answered, decide}
use Rattle.model.specs.Table.{Table, capacity, mappings}
use Rattle.batches.specs.Batch.{turn_rows, BatchOutcome}
use Rattle.table.specs.Places.{lent}
use Rattle.change.specs.Change.{Changed, changed_for, made}
use Rattle.change.specs.declared.Made.{Made}

-- one request: 13, 14, 6 to 11 and 16
unfoldable pub one : Space → Table → List ℕ → Request → Changed
one s t os r = changed_for (decide (turn_rows s (capacity t) (length os) r (mappings t)) (made r t)) r t os

-- k operations, whose words are `front`, before those of o
abbrev pub more : ℕ → Reply Made → Reply Made
more k (refused n p) = refused n p
more k (answered g) = answered (record { operations = k + g.operations; count = g.count })

abbrev pub behind : List ℕ → ℕ → Changed → Changed
behind front k o = record { reply = more k o.reply; table = o.table; operations = front ++ o.operations }

-- by what the request at the place p came to, and by what comes after a grant
abbrev pub next : ℕ → Reply Made → List ℕ → List ℕ → (Made → Changed) → Changed
next p (refused n q) ws os f = record { reply = refused n p; table = ws; operations = os }
next p (answered g) ws os f = behind (take (14 * g.operations) os) g.operations (f g)

-- the requests from the place p on, each on what the one before left
unfoldable pub turned : Space → ℕ → List Request → Table → List ℕ → Changed
turned s p [] t os = record { reply = answered (record { operations = 0; count = t.count }); table = t.words; operations = os }
turned s p (r ∷ rs) t os =
    next p (one s t os r).reply (one s t os r).table (one s t os r).operations
    (λ g. turned s (suc p) rs (lent (one s t os r).table g.count) (drop (14 * g.operations) (one s t os r).operations))

-- by what all requests came to, o, on the table ws, with vs to work in, os for operations, and k sparse ranges
abbrev pub committing : ℕ → Reply Made → Changed → List ℕ → List ℕ → List ℕ → BatchOutcome
committing k (refused n p) o ws vs os = record { answer = refused n p; table = ws; work = replicate (length vs) 0; operations = replicate (length os) 0 }
committing k (answered g) o ws vs os = record {
  answer = answered (record { operations = g.operations; count = g.count; ranges = k });
  table = o.table;
  work = replicate (length vs) 0;
  operations = o.operations;
}

unfoldable pub committed : ℕ → Changed → List ℕ → List ℕ → List ℕ → BatchOutcome
committed k o ws vs os = committing k o.reply o ws vs os
