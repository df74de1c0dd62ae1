-- Operations written one behind the other.
-- Assumes nothing.
use mathlib.Core.Path.{◌≡◌, sym, ap, ◌∙◌}
use mathlib.Core.List.{List, [], ◌∷◌, ◌++◌, map, flat_map, append-nil}
use Prim.Native.Nat.{ℕ, ◌+◌, ◌-◌, ◌*◌, ◌≤◌}
use native.Mathlib.Omega.{arith}
use lib.ListN.{length, length-append, length-map}
use Rattle.std.proofs.lemmas.List.{map-append}
use Rattle.model.specs.declared.Mapping.{Mapping}
use Rattle.model.specs.declared.Request.{Request}
use Rattle.model.specs.declared.Operation.{Operation}
use Rattle.model.specs.declared.Operation.TheVariants.{Map}
use Rattle.model.specs.Cut.{new, operation_of}
use Rattle.model.specs.Layout.{words_of_operation}
use Rattle.model.proofs.Operations.{flat_map-append, operations-words}
use Rattle.words.specs.Words.{stored}
use Rattle.words.proofs.Stored.{stored_none, stored-behind}
use Rattle.table.specs.Places.{mapping_at, between}
use Rattle.table.proofs.Between.{between_none, between_next, length-between}
use Rattle.cut.specs.Operations.{hit_operations, operations_for, Hits}

-- one operation more
words-next : (vs : List ℕ) (os : List Operation) (o : Operation)
    → stored (stored vs 0 (flat_map words_of_operation os)) (14 * length os) (words_of_operation o) ≡ stored vs 0 (flat_map words_of_operation (os ++ (o ∷ [])))
unfolding flat_map
words-next vs os o =
    let e : 14 * length os ≡ 0 + length (flat_map words_of_operation os) = omega (arith, operations-words os) in
    rw (e, flat_map-append words_of_operation os (o ∷ []), append-nil (words_of_operation o))
    (stored-behind vs 0 (flat_map words_of_operation os) (words_of_operation o) (omega arith))

length-hits : (r : Request) (hs : List Mapping) → length (hit_operations r hs) ≡ length hs
unfolding hit_operations
length-hits r hs = length-map hs (operation_of r)

-- the loop over the mappings hit: the operations of those before place i are written
pub record HitsTo (r : Request) (ws : List ℕ) (lo : ℕ) (vs us : List ℕ) (i : ℕ) : Type 0 where
  pub is : us ≡ stored vs 0 (flat_map words_of_operation (hit_operations r (between ws lo i)))

pub hits-start : {r : Request} {ws : List ℕ} {lo : ℕ} {vs : List ℕ} → HitsTo r ws lo vs vs lo
unfolding hit_operations flat_map
hits-start {r} {ws} {lo} {vs} = record { is = rw (between_none ws lo) (sym (stored_none vs 0)) }

module _ (r : Request) (ws : List ℕ) (lo i : ℕ) {m : Mapping} (h : lo ≤ i) (e : m ≡ mapping_at ws i) where
  hits_snoc : hit_operations r (between ws lo (i + 1)) ≡ hit_operations r (between ws lo i) ++ (operation_of r m ∷ [])
  unfolding hit_operations
  hits_snoc = ap (map (operation_of r)) (between_next ws lo i h e) ∙ map-append (operation_of r) (between ws lo i) (m ∷ [])

pub hits_next : {r : Request} {ws : List ℕ} {lo i : ℕ} {vs us ts : List ℕ} {m : Mapping} {o : Operation} → lo ≤ i → m ≡ mapping_at ws i → o ≡ operation_of r m
    → ts ≡ stored us (14 * (i - lo)) (words_of_operation o) → HitsTo r ws lo vs us i → HitsTo r ws lo vs ts (i + 1)
hits_next {r} {ws} {lo} {i} {vs} {us} {ts} {m} {o} h e d q g =
    let hs : List Operation = hit_operations r (between ws lo i) in
    let l : i - lo ≡ length hs = sym (length-hits r (between ws lo i) ∙ length-between ws lo i) in
    record { is = q ∙ rw (g.is, l, d, hits_snoc r ws lo i h e) (words-next vs hs (operation_of r m)) }

-- ── the operations of a request ──

pub length-operations : (r : Request) (hs : List Mapping) → length (operations_for r hs) ≡ length hs + length (new r)
unfolding operations_for
length-operations r hs = length-append (hit_operations r hs) (map Map (new r)) ∙ rw (length-hits r hs, length-map (new r) Map)

-- fourteen words for each of the mappings hit, and for a map's own operation
pub room_each : {r : Request} {ws : List ℕ} {lo hi n : ℕ} → Hits r ws lo hi n → 14 * (hi - lo) + 14 * length (new r) ≤ n
room_each {r} {ws} {lo} {hi} {n} h = omega (arith, h.room, length-operations r (between ws lo hi), length-between ws lo hi)

pub room_with : {r : Request} {ws : List ℕ} {lo hi n : ℕ} {m : Mapping} → Hits r ws lo hi n → m ∷ [] ≡ new r → 14 * (hi - lo) + 14 ≤ n
room_with h e = omega (arith, room_each h, ap length e)

module _ (r : Request) (ws : List ℕ) (lo hi : ℕ) (vs : List ℕ) {us : List ℕ} where
  pub none_behind : [] ≡ new r → us ≡ stored vs 0 (flat_map words_of_operation (hit_operations r (between ws lo hi)))
      → us ≡ stored vs 0 (flat_map words_of_operation (operations_for r (between ws lo hi)))
  unfolding operations_for
  none_behind e g = rw (← e, append-nil) g

  pub new-behind : {m : Mapping} {ts : List ℕ} → m ∷ [] ≡ new r → us ≡ stored vs 0 (flat_map words_of_operation (hit_operations r (between ws lo hi)))
      → ts ≡ stored us (14 * (hi - lo)) (words_of_operation (Map m)) → ts ≡ stored vs 0 (flat_map words_of_operation (operations_for r (between ws lo hi)))
  unfolding operations_for
  new-behind {m} e g q =
      let hs = between ws lo hi in
      let l : hi - lo ≡ length (hit_operations r hs) = sym (length-hits r hs ∙ length-between ws lo hi) in
      q ∙ rw (g, l, ← e) (words-next vs (hit_operations r hs) (Map m))
