-- Any service of requests: what demand 3 says of it, and what it must show for that. Another service (one with batches
-- of requests, in the crate `batches`; a pool of clients, a table of joined mappings) gives a Service of its own, and
-- shows StateLaws and CallLaws; ByRows is a short way to CallLaws.
-- Assumes nothing.
use mathlib.Core.Path.{◌≡◌}
use mathlib.Core.Logic.{◌⊎◌}
use mathlib.Core.List.{List, [], ◌∷◌, ◌++◌, map}
use Prim.Native.Nat.{ℕ, ◌+◌, ◌≤◌}
use lib.ListN.{length}
use Rattle.model.specs.Prelude.{Space, Mapping, Request}
use Rattle.model.specs.Rules.{stop}
use Rattle.model.specs.Cut.{mapping_of}
use Rattle.model.specs.Exactly.{◌∈◌, ◌⊆◌, Each, Ordered}
use Rattle.model.specs.Demand3.{Pieces, final, Somewhere, Everywhere}
use Rattle.model.proofs.Actions.{run}
use Rattle.model.proofs.Ask.{Asked}

-- S: what one call leaves to the next; C: a call, with what else is lent to it; A: its answer
pub record Service (S C A : Type 0) : Type 1 where
  pub answer : S → C → A
  pub next : S → C → S
  -- the requests that a call asks for, in order: one, or those of a batch
  pub asks : C → List Request
  -- it may stand in a series: it is well formed, and as much is lent to it as to the others
  pub Proper : C → Type 0
  -- it may stand for the uncut request: where there are batches too, a call that is none
  pub Single : C → Type 0
  pub Granted : A → Type 0
  -- a refusal that the call may get although the uncut request is granted: want of room
  pub Wants : C → A → Type 0
  -- Holds s t u: u is s with the table t in its words, and else only such changes as t brings about
  pub Holds : S → List Mapping → S → Type 0
  -- the number of mappings that a state has
  pub count : S → ℕ

-- ── the claim ──

module _ {S C A : Type 0} (v : Service S C A) where
  -- a call for some of the pieces ps; for the uncut request r
  abbrev pub ForPieces : List Request → C → Type 0
  ForPieces ps c = v.Proper c × v.asks c ⊆ ps

  abbrev pub ForWhole : Request → C → Type 0
  ForWhole r c = v.Proper c × v.Single c × (v.asks c ≡ r ∷ [])

  -- p is granted somewhere in the series cs from s on
  abbrev pub GrantedIn : S → List C → Request → Type 0
  GrantedIn s cs p = Somewhere v.next (λ u c. p ∈ v.asks c × v.Granted (v.answer u c)) s cs

  -- each answer is a grant, or wants room
  abbrev pub OnlyRoom : S → List C → Type 0
  OnlyRoom s cs = Everywhere v.next (λ u c. v.Granted (v.answer u c) ⊎ v.Wants c (v.answer u c)) s cs

  -- the pieces, ascending, stand in place of the uncut map's one new mapping
  pub record InPlace (s : S) (r : Request) (ps : List Request) (uncut series : S) : Type 0 where
    pub before : List Mapping
    pub behind : List Mapping
    pub sorted : List Request
    pub ascending : Ordered (λ p q. stop p ≤ q.address) sorted
    pub members : sorted ⊆ ps × ps ⊆ sorted
    pub uncut_table : v.Holds s (before ++ (mapping_of r ∷ behind)) uncut
    pub series_table : v.Holds s (before ++ (map mapping_of sorted ++ behind)) series
    pub counts : v.count series + 1 ≡ v.count uncut + length ps

  -- any state s; a request r cut into ps; c, which asks for r on s; a series cs, each call of it for some of the pieces
  abbrev pub ServiceDemand3 : Type 0
  ServiceDemand3 = (s : S) (r : Request) (ps : List Request) (c : C) (cs : List C) → Pieces r ps → ForWhole r c → Each (ForPieces ps) cs
      -- if every piece is granted at least once, the uncut request is granted, and the series leaves the same
      → (Each (GrantedIn s cs) ps
      → v.Granted (v.answer s c)
      × (r.op ≡ 0 → InPlace s r ps (v.next s c) (final v.next s cs))
      × ((r.op ≡ 0 → ⊥) → final v.next s cs ≡ v.next s c))
      -- if the uncut request is granted, only room is ever wanting
      × (v.Granted (v.answer s c) → OnlyRoom s cs)

-- ── what a service must show ──

-- how its calls look at a state
pub record View (S : Type 0) : Type 1 where
  pub table : S → List Mapping
  -- it passes every row that looks at it alone
  pub Good : S → Type 0
  -- so many mappings are within its room
  pub Room : S → ℕ → Type 0

-- a table that was written is there, and nothing else changed that a call looks at
pub record StateLaws {S : Type 0} (w : View S) (Holds : S → List Mapping → S → Type 0) (count : S → ℕ) : Type 0 where
  pub holds_table : (s x : S) (t : List Mapping) → Holds s t x → w.table x ≡ t
  pub holds_count : (s x : S) (t : List Mapping) → Holds s t x → count x ≡ length t
  pub holds_again : (s x y : S) (t u : List Mapping) → Holds s t x → Holds x u y → Holds s u y
  pub holds_same : (s x y : S) (t : List Mapping) → Holds s t x → Holds s t y → x ≡ y
  pub room_back : (s x : S) (t : List Mapping) (n : ℕ) → Holds s t x → w.Room x n → w.Room s n
  pub room_less : (s : S) (m n : ℕ) → m ≤ n → w.Room s n → w.Room s m

-- `act` is what a granted request makes of a table. For `after`, the cut, General has the claim; for another, as where
-- mappings are joined, Series still tells what a series of calls comes to, and what is left to show is what the acts of
-- the pieces make of a table
module _ {S C A : Type 0} (act : Request → List Mapping → List Mapping) (v : Service S C A) (w : View S) (space : Space) where
  -- the table that a grant leaves
  abbrev pub served : S → C → List Mapping
  served s c = run act (v.asks c) (w.table s)

  -- what a grant shows
  pub record GrantLaws (s : S) (c : C) : Type 0 where
    pub good : w.Good s
    pub asked : Each (Asked space) (v.asks c)
    pub room : w.Room s (length (served s c))
    pub holds : v.Holds s (served s c) (v.next s c)
    pub kept : w.Good (v.next s c)

  pub record CallLaws : Type 0 where
    pub grant : (s : S) (c : C) → v.Proper c → v.Granted (v.answer s c) → GrantLaws s c
    -- a refusal leaves the state
    pub refusal : (s : S) (c : C) → v.Proper c → v.Granted (v.answer s c) ⊎ ((v.Granted (v.answer s c) → ⊥) × (v.next s c ≡ s))
    -- on a good state, a call for what may be asked wants room at most; one for the uncut request, where there is room,
    -- nothing
    pub serves : (s : S) (c : C) → v.Proper c → w.Good s → Each (Asked space) (v.asks c)
        → v.Granted (v.answer s c) ⊎ v.Wants c (v.answer s c)
    pub single : (s : S) (c : C) (r : Request) → ForWhole v r c → w.Good s → Asked space r → w.Room s (length (act r (w.table s)))
        → v.Granted (v.answer s c)
