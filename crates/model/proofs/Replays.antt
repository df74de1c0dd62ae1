-- The operations that a grant writes: they replay to the table left, are the ones that document 01 lists, and are as
-- many as it answers.
-- Assumes nothing.
use mathlib.Core.Path.{◌≡◌, refl, sym, ap, subst, ◌∙◌}
use mathlib.Core.List.{List, [], ◌++◌, map, flat_map, append-nil}
use Prim.Native.Nat.{ℕ, ◌+◌, ◌*◌, ◌≤◌}
use native.Mathlib.Omega.{arith}
use lib.ListN.{length, length-append, length-drop, drop}
use Rattle.std.specs.Prelude.{Some}
use Rattle.model.specs.Prelude.{Space, Mapping, Request, Map, Grant}
use Rattle.model.specs.Table.{mappings}
use Rattle.model.specs.Cut.{new, after, operations, old, rests}
use Rattle.model.specs.Layout.{words_of_operation}
use Rattle.model.specs.Calls.{asked, Lent, cut_grant, Outcome, cut, lent_after}
use Rattle.model.specs.Grants.{Replays, Replay}
use Rattle.model.proofs.Tests.{tests}
use Rattle.model.proofs.Run.{Run, run_ascends}
use Rattle.model.proofs.Chain.{chain_run}
use Rattle.model.proofs.Store.{rewritten, holds_rewritten, holds_mappings, length-mappings}
use Rattle.model.proofs.Granted.{Good, Granting, granting, table_chain}
use Rattle.model.proofs.New.{new-map, new_unmap}
use Rattle.model.proofs.Operations.{front, operations_are, front_length, hit_members, hits_ascend, operations_most, operations-words}
use Rattle.model.proofs.Counts.{count_rule, count_most}
use Rattle.model.proofs.Replay.{replays}

-- number 3 settles that the operation slice is long enough
room_enough : (s : Space) (n : ℕ) (l : Lent) → Good s n l → 14 * (l.table.count + 1) ≤ n
room_enough s n l g = omega (tests, g.table.others, g.table.count)

pub replay_claim : Replay
replay_claim s l os q g off e =
    subst (λ (o : Outcome). Replays r l.table (lent_after l o).table (operations r ms) os o.operations g) (sym w.outcome)
    (subst (λ (g : Grant). Replays r l.table (lent_after l (cut g r l os)).table (operations r ms) os (cut g r l os).operations g)
    (sym w.grant) it)
  where
    w : Granting s l os q g
    w = granting s l os q g off e

    r : Request
    r = asked q

    ms : List Mapping
    ms = mappings l.table

    run : Run 0 ms
    run = chain_run s 0 _ ms (table_chain s (length os) l w.good)

    count : length ms ≡ l.table.count
    count = length-mappings l.table.count l.table.words

    most : length (operations r ms) ≤ l.table.count + 1
    most = omega (arith, operations_most r ms, count)

    it : Replays r l.table (rewritten l.table (after r ms)) (operations r ms) os
        (flat_map words_of_operation (operations r ms) ++ drop (14 * length (operations r ms)) os) (cut_grant r l)
    it = record {
      replayed = replays r ms w.may.not_empty run ∙ ap Some (sym (holds_mappings l.table _ (after r ms) (holds_rewritten l.table (after r ms) w.room)));
      hit = hit_members r ms;
      ascending = hits_ascend r ms (run_ascends 0 ms run);
      front = front r ms;
      each_hit = front_length r ms;
      map_last = λ e. operations_are r ms ∙ ap (λ (ns : List Mapping). front r ms ++ map Map ns) (new-map r e);
      unmap_last = λ e. operations_are r ms ∙ ap (λ (ns : List Mapping). front r ms ++ map Map ns) (no_map e) ∙ append-nil (front r ms);
      number = refl;
      words = (refl, kept);
      map_count = λ e. omega (arith, rule, count, ap length (new-map r e));
      unmap_count = λ e. omega (arith, rule, count, ap length (no_map e));
      map_most = λ e. omega (arith, count_most r ms run w.may.not_empty, count, ap length (new-map r e));
      unmap_most = λ e. omega (arith, count_most r ms run w.may.not_empty, count, ap length (no_map e));
      operations_most = most;
    }
      where
        no_map : r.op ≡ 1 → new r ≡ []
        no_map e = new_unmap r (λ z. omega (arith, e, z))

        rule : length (after r ms) + length (flat_map old (operations r ms)) ≡ length ms + length (flat_map rests (operations r ms)) + length (new r)
        rule = count_rule r ms run w.may.not_empty

        kept : length (flat_map words_of_operation (operations r ms) ++ drop (14 * length (operations r ms)) os) ≡ length os
        kept = length-append (flat_map words_of_operation (operations r ms)) _
            ∙ omega (arith, operations-words (operations r ms), length-drop (14 * length (operations r ms)) os, room_enough s (length os) l w.good, most)
