use mathlib.Core.Bool.{true≢false}
use native.Mathlib.Omega.{arith}
use Rattle.model.proofs.Store.{length-mappings}
use Rattle.table.proofs.Kept.{kept_valid}
use Rattle.table.proofs.Looks.{first_place}
use Rattle.table.proofs.Near.{end_there, reached, not_reached}
use Rattle.table.proofs.Table.reaches.Goals as goal

pub row-m-requires : goal.row-m-requires
row-m-requires c = let t = c.args.self.now in omega (arith, length-mappings t.count t.words.now, c.if-i-self.true)

pub overflow_add-result : goal.overflow_add-result
overflow_add-result c =
    let t = c.args.self.now in
    record { fits = omega (arith, end_there (kept_valid t.held t.kept) c.args.x _ c.if-i-self.true c.row-m.ensures) }

pub returns-then-i-self : goal.returns-then-i-self
returns-then-i-self c =
    let t = c.args.self.now in
    let v = kept_valid t.held t.kept in
    let h = c.if-i-self.true in
    (reached v c.args.x _ h c.row-m.ensures, not_reached v c.args.x _ h c.row-m.ensures)

pub returns : goal.returns
returns c =
    let t = c.args.self.now in
    (λ _. omega (arith, first_place (kept_valid t.held t.kept) c.args.x, c.requires, c.if-i-self.false), λ e. absurd (true≢false e))
