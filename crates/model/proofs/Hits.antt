-- The mappings that a request hits: those that share a byte with its range, in order.
-- Assumes nothing.
use mathlib.Core.Path.{◌≡◌, refl, sym, subst}
use mathlib.Core.Bool.{Bool, true, false}
use mathlib.Core.List.Memᴰ
use mathlib.Core.List.{List, [], ◌∷◌}
use Prim.Native.Nat.{suc, ◌≤◌, max}
use native.Mathlib.Omega.{arith}
use lib.ListN.{length}
use borrow.Author.Tests.{leb-true, leb-false}
use Rattle.model.specs.Prelude.{Mapping, Request}
use Rattle.model.specs.Rows.{choose}
use Rattle.model.specs.Rules.{end, stop}
use Rattle.model.specs.Cut.{spared, hits}
use Rattle.model.specs.Exactly.{◌∈◌, Ordered, ShareByte}
use Rattle.model.proofs.Actions.{each, each_mem}

-- what the answer of a test says
ruleset decided = (arith, leb-true, leb-false)

abbrev pub Hit : Request → Mapping → Type 0
Hit r m = ShareByte m.address (end m) r.address (stop r)

-- the mappings hit of m and ms: with m in front, if m is hit
pub data First (r : Request) (m : Mapping) (ms : List Mapping) : List Mapping → Type 0 where
  hit : Hit r m → First r m ms (m ∷ hits r ms)
  missed : (Hit r m → ⊥) → First r m ms (hits r ms)

pub hits_first : (r : Request) (m : Mapping) (ms : List Mapping) → First r m ms (hits r (m ∷ ms))
unfolding hits
hits_first r m ms = go (spared r m) refl
  where
    go : (b : Bool) → spared r m ≡ b → First r m ms (choose b (hits r ms) (m ∷ hits r ms))
    go true e = missed (λ h. omega decided)
    go false e = hit (max m.address r.address, omega decided, omega decided, omega decided, omega decided)

pub hits_hit : (r : Request) (ms : List Mapping) (m : Mapping) → m ∈ hits r ms → m ∈ ms × Hit r m
unfolding hits
hits_hit r [] m i = absurd (Memᴰ.not-nil i)
hits_hit r (n ∷ ms) m i = go (hits r (n ∷ ms)) (hits_first r n ms) (hits_hit r ms m) i
  where
    go : (hs : List Mapping) → First r n ms hs → (m ∈ hits r ms → m ∈ ms × Hit r m) → m ∈ hs → m ∈ (n ∷ ms) × Hit r m
    go hs (missed h) ih i = (Memᴰ.tail (ih i).0, (ih i).1)
    go hs (hit h) ih (Memᴰ.head p) = (Memᴰ.head p, subst (Hit r) (sym p) h)
    go hs (hit h) ih (Memᴰ.tail i) = (Memᴰ.tail (ih i).0, (ih i).1)

pub hit_hits : (r : Request) (ms : List Mapping) (m : Mapping) → m ∈ ms → Hit r m → m ∈ hits r ms
hit_hits r [] m x'' k = elim x'' [ ]
hit_hits r (n ∷ ms) m (Memᴰ.head p) k = go (hits r (n ∷ ms)) (hits_first r n ms)
  where
    go : (hs : List Mapping) → First r n ms hs → m ∈ hs
    go hs (missed h) = absurd (h (subst (Hit r) p k))
    go hs (hit h) = Memᴰ.head p
hit_hits r (n ∷ ms) m (Memᴰ.tail i) k = go (hits r (n ∷ ms)) (hits_first r n ms) (hit_hits r ms m i k)
  where
    go : (hs : List Mapping) → First r n ms hs → m ∈ hits r ms → m ∈ hs
    go hs (missed h) i = i
    go hs (hit h) i = Memᴰ.tail i

pub hits_ordered : (R : Mapping → Mapping → Type 0) (r : Request) (ms : List Mapping) → Ordered R ms → Ordered R (hits r ms)
unfolding hits
hits_ordered R r [] h = tt
hits_ordered R r (m ∷ ms) h = go (hits r (m ∷ ms)) (hits_first r m ms) (hits_ordered R r ms h.1)
  where
    go : (hs : List Mapping) → First r m ms hs → Ordered R (hits r ms) → Ordered R hs
    go hs (missed k) ih = ih
    go hs (hit k) ih = (each (R m) (hits r ms) (λ n i. each_mem (R m) ms n h.0 (hits_hit r ms n i).0), ih)

pub hits_most : (r : Request) (ms : List Mapping) → length (hits r ms) ≤ length ms
unfolding hits
hits_most r [] = omega arith
hits_most r (m ∷ ms) = go (hits r (m ∷ ms)) (hits_first r m ms) (hits_most r ms)
  where
    go : (hs : List Mapping) → First r m ms hs → length (hits r ms) ≤ length ms → length hs ≤ suc (length ms)
    go hs (missed k) ih = omega arith
    go hs (hit k) ih = omega arith
