-- The unread bytes stay in front of what a read brings.
-- Assumes nothing.
use mathlib.Core.Path.{◌≡◌, refl, ap, ◌∙◌}
use mathlib.Core.Bool.{Bool}
use mathlib.Core.List.{List, [], ◌∷◌, ◌++◌}
use Prim.Native.Nat.{ℕ, ◌+◌, ◌-◌, ◌≤◌}
use native.Mathlib.Omega.{arith}
use lib.ListN.{length, take, drop}
use lib.Seq.{take-add}
use Rattle.std.specs.Prelude.{◌==◌, Result, Err, MatchResult}
use Rattle.words.specs.Words.{moved}
use Rattle.words.proofs.Moved.{length_part, moved_is}
use Rattle.words.proofs.Stored.{take-stored-end}
use Rattle.vmbind.specs.declared.Failure.{Failure}
use Rattle.vmbind.specs.declared.Failure.TheVariants.{Read}
use Rattle.vmbind.specs.declared.Run.{Run}
use Rattle.vmbind.specs.Buffers.{unread, Refilled}

moved_front : (ws : List ℕ) (from n : ℕ) → from + n ≤ length ws → take n (moved ws from 0 n) ≡ take n (drop from ws)
moved_front ws from n h =
    let run : List ℕ = take n (drop from ws) in
    let l : 0 + length run ≡ n = omega (arith, length_part ws from n h) in
    ap (take n) (moved_is ws from 0 n) ∙ (rw l at (take-stored-end ws 0 run (omega arith)))

-- what a refill promises of its answer, by the bytes that have come
abbrev pub Tells : Run → Result (Unit {0}) Failure → Bool → List ℕ → Type 0
Tells run e last more = MatchResult e (λ _. last ≡ (length more == 0)) (λ f. (f ≡ Read) × (more ≡ []) × (last ≡ run.last))

-- the first `kept` bytes are the unread ones, and behind them some more have come
pub refills : (run : Run) {e : Result (Unit {0}) Failure} {kept to : ℕ} {front after : List ℕ} {last : Bool} (more : ℕ) → to ≡ kept + more → to ≤ length after
    → run.from ≤ run.to → run.to ≤ length run.input → kept ≡ run.to - run.from → front ≡ moved run.input run.from 0 kept → take kept after ≡ take kept front
    → ((bytes : List ℕ) → length bytes ≡ more → Tells run e last bytes)
    → Refilled run e (record run { input = after; from = 0; to = to; last = last })
refills run {kept = kept} {to = to} {after = after} more t i o j e m b tells = record {
  same = refl;
  order = omega arith;
  inside = i;
  more = take more (drop kept after);
  behind =
      let z : to - 0 ≡ kept + more = omega arith in
      let front : take kept after ≡ unread run =
      b ∙ ap (take kept) m ∙ moved_front run.input run.from kept (omega arith) ∙ ap (λ (n : ℕ). take n (drop run.from run.input)) e in
      rw z (take-add kept more after ∙ ap (λ (l : List ℕ). l ++ take more (drop kept after)) front);
  outcome = tells (take more (drop kept after)) (length_part after kept more (omega arith));
}

-- where the read failed
pub failed : (run : Run) {e : Result (Unit {0}) Failure} → e ≡ Err Read → (bytes : List ℕ) → length bytes ≡ 0 → Tells run e run.last bytes
failed run h bytes l = rw h (refl, none bytes l, refl)
  where
    none : (xs : List ℕ) → length xs ≡ 0 → xs ≡ []
    none [] k = refl
    none (x ∷ xs) k = absurd (omega arith)
