-- A replacement's mappings: those that are there of three, one behind the other.
-- Assumes nothing.
use mathlib.Core.Path.{◌≡◌, ◌∙◌}
use mathlib.Core.List.{List, ◌++◌, append_assoc, flat_map}
use Prim.Native.Nat.{ℕ, ◌+◌, ◌*◌, ◌≤◌}
use Rattle.std.proofs.Common.{Option}
use Rattle.std.specs.Option.{option_to_list}
use native.Mathlib.Omega.{arith}
use lib.ListN.{length, length-append}
use Rattle.model.specs.declared.Mapping.{Mapping}
use Rattle.model.specs.Table.{words_of}
use Rattle.words.specs.Words.{stored}
use Rattle.table.specs.declared.Replacement.{Replacement}
use Rattle.table.specs.Splice.{mappings_of}
use Rattle.table.proofs.Words.{stored-mappings}

-- a mapping, or none
abbrev pub part : Option Mapping → List Mapping
part m = option_to_list m

module _ (n : Replacement) where
  pub length-parts : length (mappings_of n) ≡ length (part n.lower) + (length (part n.new) + length (part n.upper))
  length-parts = simp length-append

  pub written-parts : (ws : List ℕ) (i : ℕ) {us vs zs : List ℕ} {j k : ℕ} → 4 * i ≤ length ws
      → us ≡ stored ws (4 * i) (flat_map words_of (part n.lower)) → j ≡ i + length (part n.lower)
      → vs ≡ stored us (4 * j) (flat_map words_of (part n.new)) → k ≡ j + length (part n.new)
      → zs ≡ stored vs (4 * k) (flat_map words_of (part n.upper)) → zs ≡ stored ws (4 * i) (flat_map words_of (mappings_of n))
  written-parts ws i {k = k} h one ej two ek three =
      let both : List Mapping = part n.lower ++ part n.new in
      let e : k ≡ i + length both = omega (arith, ek, ej, length-append (part n.lower) (part n.new)) in
      three
      ∙ rw (two, one, e, ej, stored-mappings ws i (part n.lower) (part n.new) h, stored-mappings ws i both (part n.upper) h)
      (simp append_assoc)
