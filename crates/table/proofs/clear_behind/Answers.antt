use mathlib.Core.Path.{◌≡◌, sym, ap, ◌∙◌}
use Prim.Native.Nat.{ℕ, ◌+◌, ◌-◌, ◌*◌, max}
use native.Mathlib.Omega.{arith}
use lib.ListN.{replicate}
use Rattle.words.specs.Words.{stored}
use Rattle.words.proofs.Stored.{zeros_more}
use Rattle.words.proofs.Zeros.{cleared-zero, cleared-up_to}
use Rattle.table.proofs.clear_behind.Goals as goal

pub returns-then-after-count : goal.returns-then-after-count
returns-then-after-count c =
    let a = c.args in
    let m : 4 * max a.count a.after ≡ 4 * a.count = omega arith in
    let at : 4 * (a.after + 1) ≡ 4 * a.after + 4 = omega arith in
    let k : ℕ = 4 * a.count - (4 * a.after + 4) in
    let n : 4 + k ≡ 4 * a.count - 4 * a.after = omega arith in
    let both : stored (stored a.t.now (4 * a.after) (replicate 4 0)) (4 * a.after + 4) (replicate k 0) ≡ stored a.t.now (4 * a.after) (replicate (4 * a.count - 4 * a.after) 0) =
    zeros_more a.t.now (4 * a.after) 4 k (omega arith) ∙ ap (λ (n : ℕ). stored a.t.now (4 * a.after) (replicate n 0)) n in
    c.clear.ensures
    ∙ rw (c.store.ensures, at)
    (both ∙ cleared-up_to a.t.now (4 * a.after) (4 * a.count) (omega arith) (omega arith) (rw m at c.requires.2))

pub returns-else-after-count : goal.returns-else-after-count
returns-else-after-count c =
    let a = c.args in
    let m : 4 * max a.count a.after ≡ 4 * a.after = omega arith in
    sym (cleared-zero a.t.now (4 * a.after) (rw m at c.requires.2))
