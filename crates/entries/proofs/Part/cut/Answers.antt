use mathlib.Core.Path.{sym, ap, ap₂, ◌∙◌}
use Prim.Native.Nat.{ℕ}
use Rattle.pages.specs.Pages.{part}
use Rattle.entries.proofs.Counts.{pieces}
use Rattle.entries.proofs.Part.cut.Goals as goal

pub returns : goal.returns
returns c =
    let m = c.args.self.now.mapping in
    let first = c.first_cut-first.ensures in
    let last = c.last_cut-last.ensures in
    pieces c.args.size _ m c.requires
    (c.between.ensures ∙ ap (λ (x : ℕ). part m.address x m) first)
    (c.between-2.ensures ∙ ap₂ (λ (x y : ℕ). part x y m) first last)
    (c.between-3.ensures ∙ ap₂ (λ (x y : ℕ). part x y m) last c.end.ensures)
    (sym c.may_have.ensures ∙ c.if-not-may_have.false)
