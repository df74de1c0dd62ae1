-- The operations of a granted batch, replayed on the old table, are all taken and make the new table.
-- Assumes nothing.
use mathlib.Core.Path.{◌≡◌, refl, sym, ap, subst, ◌∙◌}
use mathlib.Core.Bool.{Bool}
use Rattle.std.specs.Prelude.{Option, Some, option_and_then}
use mathlib.Core.List.{List, [], ◌∷◌, ◌++◌, flat_map}
use Prim.Native.Nat.{ℕ, zero, suc, ◌+◌, ◌*◌, ◌<◌}
use native.Mathlib.Omega.{arith}
use lib.Dec.{eqb}
use lib.ListN.{length, drop, length-append, length-drop}
use borrow.Author.Tests.{ne_eqb}
use Rattle.model.specs.Table.{mappings}
use Rattle.model.specs.Rows.{choose}
use Rattle.model.specs.Cut.{mapping_of, new_for, new, after, operations, old, rests}
use Rattle.model.specs.Layout.{words_of_operation}
use Rattle.model.specs.Calls.{Lent}
use Rattle.model.specs.Exactly.{Each}
use Rattle.model.specs.Grants.{replay}
use Rattle.model.proofs.Actions.{each_map}
use Rattle.model.proofs.Run.{Run, run-after}
use Rattle.model.proofs.Chain.{chain_run}
use Rattle.model.proofs.Operations.{flat_map-append, operations-words}
use Rattle.model.proofs.Counts.{count_rule}
use Rattle.model.proofs.Store.{length-mappings}
use Rattle.model.proofs.Replay.{replay-append, replays}
use Rattle.model.proofs.Ask.{Asked}
use Rattle.model.proofs.Granted.{table_chain, relent}
use Rattle.batches.specs.Prelude.{Space, Mapping, Request, Operation, Grant}
use Rattle.batches.specs.Batch.{requests_in, after_all, operations_all, batch_grant, BatchOutcome, bind_batch, lent_after_batch}
use Rattle.batches.specs.Grants.{maps_among, ReplaysAll}
use Rattle.batches.proofs.Batch.{Granting, may, fits, room}
use Rattle.batches.proofs.Relent.{relent_mappings}

replays_all : (rs : List Request) (ms : List Mapping) → Each (λ r. 0 < r.size) rs → Run 0 ms → replay (operations_all rs ms) ms ≡ Some (after_all rs ms)
unfolding operations_all after_all replay
replays_all [] ms z run = refl
replays_all (r ∷ rs) ms z run =
    replay-append (operations r ms) (operations_all rs (after r ms)) ms
    ∙ ap (λ (o : Option (List Mapping)). option_and_then (replay (operations_all rs (after r ms))) o) (replays r ms z.0 run)
    ∙ replays_all rs (after r ms) z.1 (run-after r ms run z.0)

one_map : (r : Request) → length (new r) ≡ choose (eqb r.op 0) 1 0
one_map r = go r.op
  where
    go : (n : ℕ) → length (new_for n (mapping_of r)) ≡ choose (eqb n 0) 1 0
    go zero = refl
    go (suc n) = sym (ap (λ (b : Bool). choose b 1 0) (ne_eqb (suc n) 0 (λ e. omega (arith, e))))

-- the count rule, request by request
counts_all : (rs : List Request) (ms : List Mapping) → Each (λ r. 0 < r.size) rs → Run 0 ms
    → length (after_all rs ms) + length (flat_map old (operations_all rs ms)) ≡ length ms + length (flat_map rests (operations_all rs ms)) + maps_among rs
unfolding operations_all after_all flat_map maps_among
counts_all [] ms z run = omega arith
counts_all (r ∷ rs) ms z run =
    let front = operations r ms in
    let behind = operations_all rs (after r ms) in
    rw (flat_map-append old front behind, flat_map-append rests front behind)
    (omega (
      arith,
      length-append (flat_map old front) (flat_map old behind),
      length-append (flat_map rests front) (flat_map rests behind),
      one_map r,
      count_rule r ms run z.0,
      counts_all rs (after r ms) z.1 (run-after r ms run z.0),
    ))

pub replay-all : (s : Space) (l : Lent) (ws os bs : List ℕ) (g : Grant) → Granting s l ws os bs g
    → ReplaysAll (requests_in bs) l.table (lent_after_batch l (bind_batch s l ws os bs)).table (operations_all (requests_in bs) (mappings l.table)) os
    (bind_batch s l ws os bs).operations g
replay-all s l ws os bs g k =
    subst (λ (o : BatchOutcome). ReplaysAll rs l.table (lent_after_batch l o).table ops os o.operations g) (sym k.outcome)
    (subst (ReplaysAll rs l.table (relent l (after_all rs ms)).table ops os (flat_map words_of_operation ops ++ drop (14 * length ops) os)) (sym k.grant) it)
  where
    rs : List Request
    rs = requests_in bs

    ms : List Mapping
    ms = mappings l.table

    ops : List Operation
    ops = operations_all rs ms

    sizes : Each (λ r. 0 < r.size) rs
    sizes = each_map (Asked s) (λ r. 0 < r.size) rs (λ r a. a.not_empty) (may s l ws os bs g k)

    run : Run 0 ms
    run = chain_run s 0 _ ms (table_chain s (length os) l k.good)

    it : ReplaysAll rs l.table (relent l (after_all rs ms)).table ops os (flat_map words_of_operation ops ++ drop (14 * length ops) os) (batch_grant rs l)
    it = record {
      replayed =
          replays_all rs ms sizes run
          ∙ ap Some (sym (relent_mappings l (after_all rs ms) (room s l ws os bs g k)));
      number = refl;
      count = omega (arith, counts_all rs ms sizes run, length-mappings l.table.count l.table.words);
      words = (
        refl,
        length-append (flat_map words_of_operation ops) (drop (14 * length ops) os)
            ∙ omega (arith, operations-words ops, length-drop (14 * length ops) os, fits s l ws os bs g k),
      );
    }
