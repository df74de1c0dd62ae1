-- What the contracts of the program say: the words that a row stands for, and where two lists of words differ.
use Rattle.std.specs.Prelude.{◌≡◌, ℕ, ◌<◌, ◌≤◌, List, length, ◌≢◌, slice_index, replicate, Option, Some, None, Result, Ok, Err, is_some}
use Rattle.std.specs.List.{filter}
use Rattle.model.specs.declared.Mapping.{Mapping}
use Rattle.model.specs.declared.Operation.{Operation}
use Rattle.model.specs.declared.Grant.{Grant}
use Rattle.model.specs.declared.Refusal.{Refusal}
use Rattle.model.specs.Calls.{numbered}
use Rattle.model.specs.Table.{words_of}
use Rattle.model.specs.Layout.{absent, words_of_operation}

-- a table's words at a place: the mapping's there, or zeros
abbrev pub mapping_words : Option Mapping → List ℕ
mapping_words (Some m) = words_of m
mapping_words None = absent

-- an operation slice's words at a place: the operation's there, or nines
abbrev pub operation_words : Option Operation → List ℕ
operation_words (Some o) = words_of_operation o
operation_words None = replicate 14 9

-- how many places of a list have an item
abbrev pub items : {A : Type 0} → List (Option A) → ℕ
items places = length (filter is_some places)

-- the answer has the numbers of the listed operations and mappings, and no sparse range; or the refusal's number, and no place
abbrev pub IsExpected : Result (List (Option Operation)) ℕ → List (Option Mapping) → Result Grant Refusal → Type 0
IsExpected (Ok operations) new (Ok g) = (g.operations ≡ items operations) × (g.count ≡ items new) × (g.ranges ≡ 0)
IsExpected (Ok operations) new (Err w) = ⊥
IsExpected (Err n) new (Ok g) = ⊥
IsExpected (Err n) new (Err w) = numbered w ≡ (n, 0)

-- i is the first place where a and b differ, or their length
pub record FirstDifference (a b : List ℕ) (i : ℕ) : Type 0 where
  pub within : i ≤ length a
  pub before : (k : ℕ) → k < i → slice_index a k ≡ slice_index b k
  pub there : i < length a → slice_index a i ≢ slice_index b i
