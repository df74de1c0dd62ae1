-- What a request with the sparse flag does (document 02, Item 7), and that no other changes the list.
use Rattle.std.specs.Prelude.{◌≡◌, ◌⊎◌, ◌↔◌, List, ℕ, ◌+◌, length}
use Rattle.model.specs.Prelude.{Range, Space, Mapping, Request, Nothing, Sparse, Grant}
use Rattle.model.specs.Calls.{answered, ranges, mappings, Asking, numbers, asked, Lent, range_of, bind, lent_after, see_in, lookup}
use Rattle.model.specs.Exactly.{◌∈◌, ListRules, Unflagged}
use Rattle.model.specs.Grants.{shows}
use Rattle.model.specs.Lookups.{Has, Free, InRange, NoRange}

-- k is what the granted request r with the flag leaves of l, and os' of the words for operations
pub record Relisted (s : Space) (r : Request) (l k : Lent) (os os' : List ℕ) (g : Grant) : Type 0 where
  pub table : k.table ≡ l.table
  pub operations : (os' ≡ os) × (g.operations ≡ 0)
  -- the list afterwards is the old one with exactly that range more or less, still within its rules
  pub kept : ListRules s k.ranges
  pub length_kept : length k.ranges.words ≡ length l.ranges.words
  pub adds : r.op ≡ 0 → (x : Range) → x ∈ ranges k.ranges ↔ ((x ≡ range_of r) ⊎ x ∈ ranges l.ranges)
  pub removes : r.op ≡ 1 → (x : Range) → x ∈ ranges k.ranges ↔ ((x ≡ range_of r → ⊥) × x ∈ ranges l.ranges)
  pub counts : (r.op ≡ 0 → k.ranges.count ≡ l.ranges.count + 1) × (r.op ≡ 1 → k.ranges.count + 1 ≡ l.ranges.count)
  -- every byte in a mapping shows what it showed; every other is sparse exactly if the new list says so, else nothing
  pub mapped : (m : Mapping) → m ∈ mappings l.table → (x : ℕ) → Has m x → shows k x ≡ shows l x
  pub sparse : (x : ℕ) → Free (mappings l.table) x → (y : Range) → y ∈ ranges k.ranges → InRange y x → shows k x ≡ Sparse
  pub nothing : (x : ℕ) → Free (mappings l.table) x → NoRange (ranges k.ranges) x → shows k x ≡ Nothing
  pub answers : (x : ℕ) → lookup s k x ≡ answered (see_in s k x)

pub record SparseRanges : Type 0 where
  pub flagged : (s : Space) (l : Lent) (os : List ℕ) (q : Asking) (g : Grant) → (bind s l os q).answer ≡ answered g → (asked q).flags ≡ 256
      → Relisted s (asked q) l (lent_after l (bind s l os q)) os (bind s l os q).operations g
  -- without the flag, and so by numbers, no call changes the list
  pub unflagged : (s : Space) (l : Lent) (os : List ℕ) (q : Asking) → Unflagged (asked q) → (lent_after l (bind s l os q)).ranges ≡ l.ranges
  pub by-numbers : (op address size object offset : ℕ) → Unflagged (asked (numbers op address size object offset))
