-- For any sizes of which each divides the next larger one: the cover is a list of page entries, and no such list is shorter.
-- Assumes nothing.
use mathlib.Core.Path.{◌≡◌}
use mathlib.Core.List.{List, [], ◌∷◌}
use Prim.Native.Nat.{ℕ, ◌%◌, ◌≤◌}
use native.Mathlib.Nat.{dvd_of_mod-eq-zero}
use lib.ListN.{length}
use Rattle.model.specs.Exactly.{Each}
use Rattle.pages.specs.Prelude.{Mapping, Entry}
use Rattle.pages.specs.Pages.{cover}
use Rattle.pages.specs.Claims.{Covers, Ladder, least, AnyLadder}
use Rattle.pages.proofs.Counts.{count-length}
use Rattle.pages.proofs.Tiles.{Base, covered, size_some}
use Rattle.pages.proofs.Minimal.{fewest}
use Rattle.pages.proofs.Bytes.{covered_covers, covers_covered}

-- a mapping in pages of the size z
abbrev pub InPages : ℕ → Mapping → Type 0
InPages z m = Each (λ x. x % z ≡ 0) (m.address ∷ m.size ∷ m.offset ∷ [])

pub base : (z : ℕ) (m : Mapping) → InPages z m → Base z m
base z m h = record { address = dvd_of_mod-eq-zero z h.0; size = dvd_of_mod-eq-zero z h.1.0; offset = dvd_of_mod-eq-zero z h.1.1.0 }

pub any_covers : (s : ℕ) (ts : List ℕ) (m : Mapping) → Ladder s ts → InPages (least s ts) m → Covers (s ∷ ts) m (cover s ts m)
any_covers s ts m l h = covered_covers m (s ∷ ts) (cover s ts m) (covered s ts m l (base (least s ts) m h))

pub any_fewest : (s : ℕ) (ts : List ℕ) (m : Mapping) (es : List Entry) → Ladder s ts → Covers (s ∷ ts) m es → length (cover s ts m) ≤ length es
any_fewest s ts m es l c = fewest s ts m es l (covers_covered m (s ∷ ts) es (size_some s ts l) c)

pub any_ladder : AnyLadder
any_ladder = record { covers = any_covers; fewest = any_fewest; counts = count-length }
