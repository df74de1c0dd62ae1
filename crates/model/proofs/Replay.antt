-- The operations of a request, replayed on the old table, are all taken and make the new table.
-- Assumes nothing.
use mathlib.Core.Path.{◌≡◌, refl, sym, ap, ◌∙◌}
use mathlib.Core.Bool.{Bool, true, false}
use Rattle.std.specs.Prelude.{None, Option, Some, option_and_then, option_map}
use mathlib.Core.List.{List, [], ◌∷◌, ◌++◌, map, append_assoc}
use Prim.Native.Nat.{ℕ, zero, suc, ◌≤◌, ◌<◌}
use native.Mathlib.Omega.{arith}
use lib.Dec.{eqb}
use borrow.Author.Tests.{le-leb, lt-leb, ne_eqb}
use Rattle.model.specs.Prelude.{Mapping, Request, Rests, Lower, Upper, Both, Operation, Map, Remap}
use Rattle.model.specs.Rows.{choose}
use Rattle.model.specs.Rules.{end, stop}
use Rattle.model.specs.Cut.{lower_part, upper_part, sized, prepend, below, above, mapping_of, new_for, new, after, hits, operation_for, operation_of, operations, rests_of, rests}
use Rattle.model.specs.Exactly.{Each}
use Rattle.model.specs.Grants.{rest_tests, equal, replace, insert, apply, replay}
use Rattle.model.proofs.Tests.{tests, Alls, all_true}
use Rattle.model.proofs.Actions.{each_map, each_append}
use Rattle.model.proofs.Run.{Run}
use Rattle.model.proofs.Hits.{Hit, First, hit, missed, hits_first}
use Rattle.model.proofs.Left.{rests-parts, left, left_hit, left_missed}

-- ── one operation ──

equal_self : (m : Mapping) → equal m m ≡ true
equal_self m =
    all_true (eqb m.address m.address ∷ eqb m.size m.size ∷ eqb m.object m.object ∷ eqb m.offset m.offset ∷ []) (omega tests)

equal-not : (x m : Mapping) → x.address < m.address → equal x m ≡ false
equal-not x m h = rw (ne_eqb x.address m.address (omega arith))

-- a mapping behind others of lower addresses gives way
replace-at : (m : Mapping) (ns xs ms : List Mapping) → Each (λ x. x.address < m.address) xs → replace m ns (xs ++ m ∷ ms) ≡ Some (xs ++ (ns ++ ms))
unfolding replace
replace-at m ns [] ms h = rw (equal_self m, replace)
replace-at m ns (x ∷ xs) ms h = rw (equal-not x m h.0, replace) (ap (option_map (◌∷◌ x)) (replace-at m ns xs ms h.1))

-- a mapping gets the place between those that end before it and those that begin behind it
insert-at : (m : Mapping) (xs ms : List Mapping) → 0 < m.size → Each (λ x. end x ≤ m.address) xs → Each (λ x. end m ≤ x.address) ms
    → insert m (xs ++ ms) ≡ Some (xs ++ m ∷ ms)
unfolding insert
insert-at m [] [] z h k = refl
insert-at m [] (x ∷ ms) z h k = rw (lt-leb (end x) m.address (omega arith), le-leb (end m) x.address k.0, insert)
insert-at m (x ∷ xs) ms z h k = rw (le-leb (end x) m.address h.0, insert) (ap (option_map (◌∷◌ x)) (insert-at m xs ms z h.1 k))

-- a mapping that is hit gives way to its rests: neither is the whole, and the range lies between them
apply_at : (r : Request) (m : Mapping) (xs ms : List Mapping) → Hit r m
    → Each (λ x. x.address < m.address) xs → apply (operation_of r m) (xs ++ m ∷ ms) ≡ Some (xs ++ (rests (operation_of r m) ++ ms))
apply_at r m xs ms k h = go l.size u.size _ refl refl
  where
    l : Mapping
    l = lower_part r.address m

    u : Mapping
    u = upper_part (stop r) m

    remap : (keep : Bool) (rs : Rests) → Alls (rest_tests m rs) → apply (Remap keep m rs) (xs ++ m ∷ ms) ≡ Some (xs ++ (rests_of rs ++ ms))
    remap keep rs t =
        ap (λ (b : Bool). choose b (replace m (rests_of rs) (xs ++ m ∷ ms)) None) (all_true (rest_tests m rs) t)
        ∙ replace-at m (rests_of rs) xs ms h

    go : (i j : ℕ) (keep : Bool) → l.size ≡ i → u.size ≡ j
        → apply (operation_for i j keep m l u) (xs ++ m ∷ ms) ≡ Some (xs ++ (rests (operation_for i j keep m l u) ++ ms))
    go zero zero keep p q = replace-at m [] xs ms h
    go (suc i) zero keep p q = remap keep (Lower l) (omega tests)
    go zero (suc j) keep p q = remap keep (Upper u) (omega tests)
    go (suc i) (suc j) keep p q = remap keep (Both l u) (omega tests)

-- ── all operations ──

each_prepend : (P : Mapping → Type 0) (m : Mapping) (ms : List Mapping) → (0 < m.size → P m) → Each P ms → Each P (prepend m ms)
each_prepend P m ms h k = go m.size refl
  where
    go : (n : ℕ) → m.size ≡ n → Each P (sized n m ms)
    go zero e = k
    go (suc n) e = (h (omega arith), k)

rests_under : (r : Request) (m : Mapping) → 0 < m.size → Each (λ x. x.address < end m) (rests (operation_of r m))
rests_under r m z = rw (rests-parts r m)
    (each_prepend (λ x. x.address < end m) (lower_part r.address m) (prepend (upper_part (stop r) m) []) (λ k. omega arith)
    (each_prepend (λ x. x.address < end m) (upper_part (stop r) m) [] (λ k. omega arith) tt))

-- behind mappings that are dealt with: each that is hit gives way to its rests
replay-hits : (r : Request) (from : ℕ) (xs ms : List Mapping) → 0 < r.size → Run from ms → Each (λ x. x.address < from) xs
    → replay (map (operation_of r) (hits r ms)) (xs ++ ms) ≡ Some (xs ++ left r ms)
unfolding replay hits below above
replay-hits r from xs [] z run h = refl
replay-hits r from xs (m ∷ ms) z run h = go (hits r (m ∷ ms)) (hits_first r m ms) (λ ys k. replay-hits r (end m) ys ms z run.2 k)
  where
    os : List Operation
    os = map (operation_of r) (hits r ms)

    lower : Each (λ x. x.address < m.address) xs
    lower = each_map (λ x. x.address < from) (λ x. x.address < m.address) xs (λ x k. omega arith) h

    IH : Type 0
    IH = (ys : List Mapping) → Each (λ x. x.address < end m) ys → replay os (ys ++ ms) ≡ Some (ys ++ left r ms)

    -- the next mappings, with ns among those that are dealt with
    next : IH → (ns : List Mapping) → Each (λ x. x.address < end m) ns → replay os (xs ++ (ns ++ ms)) ≡ Some (xs ++ (ns ++ left r ms))
    next ih ns k = rw (← append_assoc xs ns ms, ← append_assoc xs ns (left r ms))
        (ih (xs ++ ns) (each_append (λ x. x.address < end m) xs ns
        (each_map (λ x. x.address < m.address) (λ x. x.address < end m) xs (λ x k. omega arith) lower) k))

    go : (hs : List Mapping) → First r m ms hs → IH → replay (map (operation_of r) hs) (xs ++ m ∷ ms) ≡ Some (xs ++ left r (m ∷ ms))
    go hs (missed n) ih =
        next ih (m ∷ []) (omega arith, tt)
        ∙ ap (λ (ys : List Mapping). Some (xs ++ ys)) (sym (left_missed r m ms run.2 run.1 z n))
    go hs (hit k) ih =
        ap (λ (o : Option (List Mapping)). option_and_then (replay os) o) (apply_at r m xs ms k lower)
        ∙ next ih (rests (operation_of r m)) (rests_under r m run.1)
        ∙ ap (λ (ys : List Mapping). Some (xs ++ ys)) (sym (left_hit r m ms run.2 k))

below_ends : (a : ℕ) (ms : List Mapping) → Each (λ x. end x ≤ a) (below a ms)
unfolding below
below_ends a [] = tt
below_ends a (m ∷ ms) = each_prepend (λ x. end x ≤ a) (lower_part a m) (below a ms) (λ k. omega arith) (below_ends a ms)

above_begins : (b : ℕ) (ms : List Mapping) → Each (λ x. b ≤ x.address) (above b ms)
unfolding above
above_begins b [] = tt
above_begins b (m ∷ ms) = each_prepend (λ x. b ≤ x.address) (upper_part b m) (above b ms) (λ k. omega arith) (above_begins b ms)

pub replay-append : (os ps : List Operation) (ms : List Mapping) → replay (os ++ ps) ms ≡ option_and_then (replay ps) (replay os ms)
unfolding replay
replay-append [] ps ms = refl
replay-append (o ∷ os) ps ms = go (apply o ms) (replay-append os ps)
  where
    go : (x : Option (List Mapping)) → ((ns : List Mapping) → replay (os ++ ps) ns ≡ option_and_then (replay ps) (replay os ns))
        → option_and_then (replay (os ++ ps)) x ≡ option_and_then (replay ps) (option_and_then (replay os) x)
    go None ih = refl
    go (Some ns) ih = ih ns

pub replays : (r : Request) (ms : List Mapping) → 0 < r.size → Run 0 ms → replay (operations r ms) ms ≡ Some (after r ms)
unfolding operations replay
replays r ms z run =
    replay-append (map (operation_of r) (hits r ms)) (map Map (new r)) ms
    ∙ ap (λ (o : Option (List Mapping)). option_and_then (replay (map Map (new r))) o) (replay-hits r 0 [] ms z run tt)
    ∙ maps r.op
  where
    b : List Mapping
    b = below r.address ms

    a : List Mapping
    a = above (stop r) ms

    maps : (op : ℕ) → replay (map Map (new_for op (mapping_of r))) (b ++ a) ≡ Some (b ++ (new_for op (mapping_of r) ++ a))
    maps zero = ap (λ (o : Option (List Mapping)). option_and_then (replay []) o)
        (insert-at (mapping_of r) b a z (below_ends r.address ms) (above_begins (stop r) ms))
    maps (suc n) = refl
