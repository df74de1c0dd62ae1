-- The request check by what decoding answers.
-- Assumes nothing.
use mathlib.Core.Path.{◌≡◌, refl, sym, ap, ◌∙◌}
use mathlib.Core.List.{List, ◌∷◌}
use Prim.Native.Nat.{ℕ}
use Rattle.model.specs.Rows.{Reply, refused, answered, verdict}
use Rattle.model.specs.Rules.{sparse_flag, space_row, request_rows}
use Rattle.model.specs.Calls.{record_rows, request_of, decode, check_rows}
use Rattle.model.proofs.Rows.{and_then, decide-append, decide-verdict}
use Rattle.model.specs.declared.Space.{Space}
use Rattle.model.specs.declared.Request.{Request}

-- the rows 1 and 6 to 10, where the record is whole; and what a decoding's answer makes of them
abbrev rest : Space → Request → Reply (Unit {0})
rest s r = verdict (space_row s ∷ request_rows s r)

abbrev then : Reply Request → Space → Reply (Unit {0})
then (refused n p) s = refused n p
then (answered r) s = rest s r

by_verdict : (u : Reply (Unit {0})) (r : Request) (s : Space) → and_then u (rest s r) ≡ then (and_then u (answered r)) s
by_verdict (refused n p) r s = refl
by_verdict (answered t) r s = refl

pub check_by : (bs : List ℕ) (s : Space) {d : Reply Request} → d ≡ decode sparse_flag bs → then d s ≡ verdict (check_rows bs s)
unfolding check_rows decode
check_by bs s e =
    let r = request_of bs in
    ap (λ d. then d s) (e ∙ decide-verdict (record_rows sparse_flag bs) r)
    ∙ sym (by_verdict (verdict (record_rows sparse_flag bs)) r s)
    ∙ sym (decide-append (record_rows sparse_flag bs) (space_row s ∷ request_rows s r) tt)
