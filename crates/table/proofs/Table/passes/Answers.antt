use Prim.Native.Nat.{◌-◌, ◌<◌}
use native.Mathlib.Omega.{arith}
use Rattle.model.proofs.Store.{length-mappings}
use Rattle.table.proofs.Kept.{kept_valid}
use Rattle.table.proofs.Near.{end_there, passed}
use Rattle.table.proofs.Table.passes.Goals as goal

pub row-m-requires : goal.row-m-requires
row-m-requires c = let t = c.args.self.now in omega (arith, length-mappings t.count t.words.now, c.requires, c.if-i-eq0.false)

pub overflow_add-result : goal.overflow_add-result
overflow_add-result c =
    let t = c.args.self.now in
    let h : c.args.i - 1 < t.count = omega (arith, c.requires, c.if-i-eq0.false) in
    record { fits = omega (arith, end_there (kept_valid t.held t.kept) c.args.x _ h c.row-m.ensures) }

pub returns : goal.returns
returns c =
    let t = c.args.self.now in
    let h : c.args.i - 1 < t.count = omega (arith, c.requires, c.if-i-eq0.false) in
    λ k. omega (arith, passed (kept_valid t.held t.kept) c.args.x _ h c.row-m.ensures k, c.if-i-eq0.false)
