-- A request cut at ascending addresses: the ordered form in which the proof of demand 3 has its pieces.
-- Assumes nothing.
use mathlib.Core.Logic.{◌⊎◌}
use mathlib.Core.List.{List, [], ◌∷◌}
use Prim.Native.Nat.{ℕ, ◌≤◌, ◌<◌}
use Rattle.model.specs.Prelude.{Request}
use Rattle.model.specs.Rules.{stop}
use Rattle.model.specs.Exactly.{Multiple}
use Rattle.model.specs.Demand3.{piece}

-- two requests share no byte
abbrev pub Apart : Request → Request → Type 0
Apart p q = (stop p ≤ q.address) ⊎ (stop q ≤ p.address)

-- the pieces from an address on, cut at the addresses cs
unfoldable pub pieces_from : Request → ℕ → List ℕ → List Request
pieces_from r from [] = piece r from (stop r) ∷ []
pieces_from r from (c ∷ cs) = piece r from c ∷ pieces_from r c cs

abbrev pub pieces : Request → List ℕ → List Request
pieces r cs = pieces_from r r.address cs

-- no piece is empty, and where two meet the address is a multiple of a page
abbrev pub CutsFrom : Request → ℕ → List ℕ → Type 0
CutsFrom r from [] = from < stop r
CutsFrom r from (c ∷ cs) = (from < c) × Multiple c × CutsFrom r c cs

abbrev pub Cuts : Request → List ℕ → Type 0
Cuts r cs = CutsFrom r r.address cs
