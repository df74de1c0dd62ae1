-- Mappings and their words: parts of a table, and mappings written behind others.
-- Assumes nothing.
use mathlib.Core.Path.{◌≡◌, refl}
use mathlib.Core.List.{List, ◌++◌, flat_map}
use Prim.Native.Nat.{ℕ, zero, suc, ◌+◌, ◌-◌, ◌*◌, ◌≤◌}
use native.Mathlib.Omega.{arith}
use lib.ListN.{length, take, drop}
use lib.Seq.{drop-drop}
use Rattle.model.specs.declared.Mapping.{Mapping}
use Rattle.model.specs.Table.{mappings_in, words_of}
use Rattle.model.proofs.Operations.{flat_map-append}
use Rattle.model.proofs.Store.{length-words}
use Rattle.words.specs.Words.{stored}
use Rattle.words.proofs.Stored.{stored-behind}

pub take-mappings : (i n : ℕ) (ws : List ℕ) → i ≤ n → take i (mappings_in n ws) ≡ mappings_in i ws
unfolding mappings_in
take-mappings zero n ws h = refl
take-mappings (suc i) zero ws h = absurd (omega arith)
take-mappings (suc i) (suc n) ws h = rw (take-mappings i n (drop 4 ws) (omega arith))

pub drop-mappings : (i n : ℕ) (ws : List ℕ) → drop i (mappings_in n ws) ≡ mappings_in (n - i) (drop (4 * i) ws)
unfolding mappings_in
drop-mappings zero n ws = let e : n - 0 ≡ n = omega arith in rw e
drop-mappings (suc i) zero ws = let e : 0 - suc i ≡ 0 = omega arith in rw e
drop-mappings (suc i) (suc n) ws =
    let e : 4 * suc i ≡ 4 + 4 * i = omega arith in
    let d : suc n - suc i ≡ n - i = omega arith in
    rw (e, d, ← drop-drop (4 * i) 4 ws) (drop-mappings i n (drop 4 ws))

pub stored-mappings : (ws : List ℕ) (i : ℕ) (ms ns : List Mapping) → 4 * i ≤ length ws
    → stored (stored ws (4 * i) (flat_map words_of ms)) (4 * (i + length ms)) (flat_map words_of ns) ≡ stored ws (4 * i) (flat_map words_of (ms ++ ns))
stored-mappings ws i ms ns h =
    let e : 4 * (i + length ms) ≡ 4 * i + length (flat_map words_of ms) = omega (arith, length-words ms) in
    rw (e, flat_map-append words_of ms ns) (stored-behind ws (4 * i) (flat_map words_of ms) (flat_map words_of ns) h)
