-- What a request hands the driver: one operation for each mapping hit, in order, and a map's own behind them.
-- Assumes nothing.
use mathlib.Core.Path.{◌≡◌, refl, sym, ap, ◌∙◌}
use mathlib.Core.Logic.{◌↔◌}
use mathlib.Core.Bool.{Bool}
use mathlib.Core.List.Memᴰ
use mathlib.Core.List.{List, [], ◌∷◌, ◌++◌, map, flat_map, append_assoc, append-nil}
use Prim.Native.Nat.{ℕ, zero, suc, ◌+◌, ◌*◌, ◌≤◌}
use native.Mathlib.Omega.{arith}
use lib.ListN.{length, length-append, length-map}
use Rattle.model.specs.Prelude.{Mapping, Request, Operation, Map}
use Rattle.model.specs.Rules.{end, stop}
use Rattle.model.specs.Cut.{lower_part, upper_part, new, hits, operation_for, operation_of, operations, old}
use Rattle.model.specs.Layout.{words_of_operation}
use Rattle.model.specs.Exactly.{Each, ◌∈◌, ShareByte, Ascends}
use Rattle.model.proofs.Actions.{each_append}
use Rattle.model.proofs.OperationWords.{operation_length}
use Rattle.model.proofs.New.{new_most}
use Rattle.model.proofs.Hits.{hits_hit, hit_hits, hits_ordered, hits_most}

pub flat_map-append : {A B : Type 0} (f : A → List B) (xs ys : List A) → flat_map f (xs ++ ys) ≡ flat_map f xs ++ flat_map f ys
unfolding flat_map
flat_map-append f [] ys = refl
flat_map-append f (x ∷ xs) ys = rw (flat_map-append f xs ys, append_assoc)

-- a map's own operation has no old mapping and no rests
pub flat_map-operations : (f : Operation → List Mapping) → ((m : Mapping) → f (Map m) ≡ []) → (r : Request) (ms : List Mapping)
    → flat_map f (operations r ms) ≡ flat_map f (map (operation_of r) (hits r ms))
unfolding operations flat_map
flat_map-operations f e r ms = simp (flat_map-append, nothing (new r), append-nil)
  where
    nothing : (ns : List Mapping) → flat_map f (map Map ns) ≡ []
    nothing [] = refl
    nothing (n ∷ ns) = rw (e n) (nothing ns)

pub old-one : (r : Request) (m : Mapping) → old (operation_of r m) ≡ m ∷ []
old-one r m = go l.size u.size _
  where
    l : Mapping
    l = lower_part r.address m

    u : Mapping
    u = upper_part (stop r) m

    go : (i j : ℕ) (keep : Bool) → old (operation_for i j keep m l u) ≡ m ∷ []
    go zero zero keep = refl
    go zero (suc j) keep = refl
    go (suc i) zero keep = refl
    go (suc i) (suc j) keep = refl

-- an operation has no other old mapping
pub old_only : (r : Request) (m n : Mapping) → n ∈ old (operation_of r m) → n ≡ m
old_only r m n i = go (rw (old-one r m) at i)
  where
    go : n ∈ (m ∷ []) → n ≡ m
    go (Memᴰ.head e) = e
    go (Memᴰ.tail j) = absurd (Memᴰ.not-nil j)

pub olds : (r : Request) (ms : List Mapping) → flat_map old (operations r ms) ≡ hits r ms
unfolding flat_map
olds r ms = flat_map-operations old (λ m. refl) r ms ∙ go (hits r ms)
  where
    go : (hs : List Mapping) → flat_map old (map (operation_of r) hs) ≡ hs
    go [] = refl
    go (m ∷ hs) = rw (old-one r m) (ap (◌∷◌ m) (go hs))

-- what holds of each operation
pub each_operation : (P : Operation → Type 0) (r : Request) (ms : List Mapping) → ((m : Mapping) → m ∈ hits r ms → P (operation_of r m)) → ((n : Mapping) → P (Map n))
    → Each P (operations r ms)
unfolding operations
each_operation P r ms f g = each_append P (map (operation_of r) (hits r ms)) (map Map (new r)) (of_hits (hits r ms) f) (of_new (new r))
  where
    of_hits : (hs : List Mapping) → ((m : Mapping) → m ∈ hs → P (operation_of r m)) → Each P (map (operation_of r) hs)
    of_hits [] f = tt
    of_hits (m ∷ hs) f = (f m (Memᴰ.head refl), of_hits hs (λ n i. f n (Memᴰ.tail i)))

    of_new : (ns : List Mapping) → Each P (map Map ns)
    of_new [] = tt
    of_new (n ∷ ns) = (g n, of_new ns)

pub operations-words : (os : List Operation) → length (flat_map words_of_operation os) ≡ 14 * length os
unfolding flat_map
operations-words [] = refl
operations-words (o ∷ os) = omega (arith, length-append (words_of_operation o) (flat_map words_of_operation os), operation_length o, operations-words os)

pub operations_most : (r : Request) (ms : List Mapping) → length (operations r ms) ≤ length ms + 1
unfolding operations
operations_most r ms = simp (length-append, length-map) (omega (arith, hits_most r ms, new_most r))

pub hit_members : (r : Request) (ms : List Mapping) (m : Mapping)
    → m ∈ flat_map old (operations r ms) ↔ (m ∈ ms × ShareByte m.address (end m) r.address (stop r))
hit_members r ms m = rw (olds r ms) (hits_hit r ms m, λ h. hit_hits r ms m h.0 h.1)

pub hits_ascend : (r : Request) (ms : List Mapping) → Ascends ms → Ascends (flat_map old (operations r ms))
hits_ascend r ms h = rw (olds r ms) (hits_ordered (λ m n. end m ≤ n.address) r ms h)

-- those of the mappings hit stand in front of a map's own
abbrev pub front : Request → List Mapping → List Operation
front r ms = map (operation_of r) (hits r ms)

pub operations_are : (r : Request) (ms : List Mapping) → operations r ms ≡ front r ms ++ map Map (new r)
unfolding operations
operations_are r ms = refl

pub front_length : (r : Request) (ms : List Mapping) → length (front r ms) ≡ length (flat_map old (operations r ms))
front_length r ms = length-map (hits r ms) (operation_of r) ∙ ap length (sym (olds r ms))
