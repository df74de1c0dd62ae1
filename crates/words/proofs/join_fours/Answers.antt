use mathlib.Core.Path.{◌≡◌, ap}
use mathlib.Core.List.{List, []}
use Prim.Native.Nat.{ℕ, ◌/◌, ◌<◌}
use native.Mathlib.Omega.{arith}
use lib.ListN.{length, get_or}
use Rattle.words.proofs.Zeros.{none_join, length_chunk, chunk_joins, words_join}
use Rattle.words.proofs.join_fours.Goals as goal

pub loop-four-init : goal.loop-four-init
loop-four-init c = none_join c.args.words.now 0 c.args.seen

pub loop-four-preserved : goal.loop-four-preserved
loop-four-preserved c =
    let ws = c.args.words.now in
    let l = c.loop-four in
    let four : List ℕ = get_or c.as_chunks.result.0.now l.four-index [] in
    let k : l.four-index < length ws / 4 = omega (arith, c.as_chunks.ensures.front_len) in
    let is = ap (λ (x : List (List ℕ)). get_or x l.four-index []) c.as_chunks.ensures.front in
    let n : length four ≡ 4 = length_chunk 4 (length ws / 4) l.four-index ws four k (omega arith) is in
    chunk_joins ws four 4 (length ws / 4) l.four-index k (omega arith) is l.invariant (words_join four 0 l.all (omega arith))

pub returns : goal.returns
returns c =
    let e : c.loop-four.four-index ≡ length c.args.words.now / 4 = omega (arith, c.as_chunks.ensures.front_len) in
    rw e at c.loop-four.invariant
