-- `SP` sets a space that keeps its rules and empties the table and the list of sparse ranges, and changes nothing for
-- another.
-- Assumes nothing.
use mathlib.Core.Path.{◌≡◌, ap, ◌∙◌}
use mathlib.Core.Logic.{⊎_elim}
use mathlib.Core.List.{[]}
use Prim.Native.Nat.{ℕ}
use Rattle.model.specs.Rows.{Reply}
use Rattle.model.specs.Rules.{space_row}
use Rattle.model.specs.Table.{capacity}
use Rattle.program.specs.Script.{emptied, told_by, after_space, set_space, step_on, step}
use Rattle.program.specs.Claims.{SetsSpace}
use Rattle.program.specs.declared.ScriptRecord.{ScriptRecord}
use Rattle.model.proofs.Rows.{last_row}
use Rattle.model.proofs.Rules.{space_says}

pub sets_space : SetsSpace
unfolding step
sets_space st bs s e = ⊎_elim
    (λ y. record { granted = λ r. does y.1; refused = λ n. absurd (n ((space_says s).0 y.0)) })
    (λ n. record { granted = λ r. absurd (n.0 ((space_says s).1 r)); refused = λ _. does n.1 }) (last_row [] (space_row s) (capacity st.lent.table) tt)
  where
    does : {u : Reply ℕ} → set_space s st ≡ u → step st bs ≡ record { told = told_by emptied u; state = after_space u s st }
    does d = ap (λ (r : ScriptRecord). step_on r st bs) e ∙ λ i. record { told = told_by emptied (d i); state = after_space (d i) s st }
