-- A granted batch leaves what the shorter batches leave that it is cut into, where they are granted.
-- Assumes nothing.
use mathlib.Core.Path.{◌≡◌, sym, ap, ◌∙◌}
use mathlib.Core.List.{List, [], ◌∷◌, ◌++◌, flat_map}
use Prim.Native.Nat.{ℕ}
use lib.ListN.{length}
use Rattle.model.specs.Table.{mappings}
use Rattle.model.specs.Calls.{Lent}
use Rattle.model.specs.Demand3.{final, Everywhere, IsGrant}
use Rattle.model.proofs.Tests.{tests}
use Rattle.model.proofs.Granted.{Good, relent}
use Rattle.batches.specs.Prelude.{Space, Mapping, Request}
use Rattle.batches.specs.Batch.{records_in, requests_in, after_all}
use Rattle.batches.specs.Grants.{Batch, answer_to_batch, left_by_batch, Shorter}
use Rattle.batches.proofs.Records.{requests_append}
use Rattle.batches.proofs.Turns.{after-all-append}
use Rattle.batches.proofs.Batch.{granting, room, leaves, kept}
use Rattle.batches.proofs.Relent.{relent_same, relent_again, relent_mappings}

-- what is lent is good, whatever number of words is lent for operations
parts-left : (s : Space) (n : ℕ) (parts : List Batch) (l : Lent) → Good s n l → Everywhere (left_by_batch s) (λ k c. IsGrant (answer_to_batch s k c)) l parts
    → final (left_by_batch s) l parts ≡ relent l (after_all (requests_in (flat_map (λ c. c.records) parts)) (mappings l.table))
unfolding final flat_map requests_in records_in after_all
parts-left s n [] l g h = sym (relent_same s n l g)
parts-left s n (c ∷ parts) l g h = go h.0 (parts-left s (length c.operations) parts)
  where
    rest : List ℕ
    rest = flat_map (λ c. c.records) parts

    ms : List Mapping
    ms = mappings l.table

    go : IsGrant (answer_to_batch s l c)
        → ((k : Lent) → Good s (length c.operations) k → Everywhere (left_by_batch s) (λ k c. IsGrant (answer_to_batch s k c)) k parts
        → final (left_by_batch s) k parts ≡ relent k (after_all (requests_in rest) (mappings k.table)))
        → final (left_by_batch s) (left_by_batch s l c) parts ≡ relent l (after_all (requests_in (c.records ++ rest)) ms)
    go (x, e) ih =
        let k = granting s l c.work c.operations c.records x e in
        let n : List Mapping = after_all (requests_in c.records) ms in
        let f = room s l c.work c.operations c.records x k in
        ih (left_by_batch s l c) (kept s l c.work c.operations c.records x k) h.1
        ∙ ap (λ (k : Lent). relent k (after_all (requests_in rest) (mappings k.table))) (leaves s l c.work c.operations c.records x k)
        ∙ relent_again l n (after_all (requests_in rest) (mappings (relent l n).table)) f
        ∙ ap (λ (ns : List Mapping). relent l (after_all (requests_in rest) ns)) (relent_mappings l n f)
        ∙ ap (relent l) (sym (after-all-append (requests_in c.records) (requests_in rest) ms))
        ∙ ap (λ (rs : List Request). relent l (after_all rs ms)) (sym (requests_append c.records rest (omega (tests, k.whole))))

pub shorter : Shorter
shorter s l b parts e (g, h) p =
    let k = granting s l b.work b.operations b.records g h in
    parts-left s (length b.operations) parts l k.good p
    ∙ ap (λ (bs : List ℕ). relent l (after_all (requests_in bs) (mappings l.table))) e
    ∙ sym (leaves s l b.work b.operations b.records g k)
