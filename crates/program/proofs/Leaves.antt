-- What a record leaves, and what the bytes behind it leave then.
-- Assumes nothing.
use mathlib.Core.Path.{◌≡◌, refl, sym, ap, ◌∙◌}
use mathlib.Core.Bool.{Bool, true, false}
use mathlib.Core.List.{List, [], ◌∷◌, ◌++◌}
use Prim.Native.Nat.{ℕ, zero, suc, ◌≤◌}
use native.Mathlib.Omega.{arith}
use lib.Dec.{eqb}
use lib.ListN.{length, take, drop, length-drop}
use lib.Seq.{length-take-le, drop_at}
use borrow.Author.Tests.{eqb-true, eqb-false}
use Rattle.model.specs.Rows.{choose}
use Rattle.program.specs.Script.{record_at, record_size, State, step_on, step, state_after, leaves}
use Rattle.program.specs.declared.ScriptRecord.{ScriptRecord}
use Rattle.program.specs.declared.ScriptRecord.TheVariants.{SetSpace, Bind, LookUp, OtherMark, Cut, End}
use Rattle.program.proofs.Records.{record_fits, record_alone, where_some}

pub leaves-nil : (st : State) → leaves st [] ≡ st
unfolding leaves state_after
leaves-nil st = refl

after-nil : (k : ℕ) (st : State) → state_after k st [] ≡ st
unfolding state_after record_at
after-nil zero st = refl
after-nil (suc k) st = refl

-- the number of steps does not matter
after_fuel : (j k : ℕ) (st : State) (bs : List ℕ) → length bs ≤ j → length bs ≤ k → state_after j st bs ≡ state_after k st bs
unfolding state_after
after_fuel zero k st [] h l = sym (after-nil k st)
after_fuel zero k st (b ∷ bs) h l = absurd (omega arith)
after_fuel (suc j) zero st [] h l = after-nil (suc j) st
after_fuel (suc j) zero st (b ∷ bs) h l = absurd (omega arith)
after_fuel (suc j) (suc k) st bs h l =
    let n : ℕ = record_size (record_at bs) in
    where_some n st (λ some. after_fuel j k (step st bs).state (drop n bs) (simp length-drop (omega (arith, some))) (simp length-drop (omega (arith, some))))

-- the first record, and the rest
leaves_first : (st : State) (bs : List ℕ)
    → leaves st bs ≡ choose (eqb (record_size (record_at bs)) 0) st (leaves (step st bs).state (drop (record_size (record_at bs)) bs))
unfolding leaves state_after record_at
leaves_first st [] = refl
leaves_first st (b ∷ bs) =
    let n : ℕ = record_size (record_at (b ∷ bs)) in
    where_some n st (λ some. after_fuel (length bs) (length (drop n (b ∷ bs))) _ (drop n (b ∷ bs)) (simp length-drop (omega (arith, some))) (omega arith))

-- where the program stops nothing changes
stopped_same : (st : State) (bs : List ℕ) → record_size (record_at bs) ≡ 0 → (step st bs).state ≡ st
unfolding step
stopped_same st bs h = go (record_at bs) h
  where
    go : (e : ScriptRecord) → record_size e ≡ 0 → (step_on e st bs).state ≡ st
    go (SetSpace s) h = absurd (omega arith)
    go Bind h = absurd (omega arith)
    go (LookUp x) h = absurd (omega arith)
    go OtherMark h = refl
    go Cut h = refl
    go End h = refl

-- the bytes that the record at the front takes leave what its step leaves, whatever comes behind them
pub leaves-step : (st : State) (bs more : List ℕ) → leaves st (take (record_size (record_at bs)) bs ++ more) ≡ leaves (step st bs).state more
leaves-step st bs more = go (eqb n 0) refl
  where
    n : ℕ
    n = record_size (record_at bs)

    -- the record's bytes, and those behind
    rest : (some : n ≡ 0 → ⊥) → leaves st (take n bs ++ more) ≡ choose (eqb n 0) st (leaves (step st bs).state more)
    rest some =
        let all : List ℕ = take n bs ++ more in
        let k = record_alone bs more some in
        let m : record_size (record_at all) ≡ n = ap record_size k.0 in
        let d : drop (record_size (record_at all)) all ≡ more = ap (λ (i : ℕ). drop i all) m ∙ drop_at (take n bs) more n (length-take-le n bs (record_fits bs)) in
        leaves_first st all ∙ λ i. choose (eqb (m i) 0) st (leaves (k.1 st i).state (d i))

    go : (t : Bool) → eqb n 0 ≡ t → leaves st (take n bs ++ more) ≡ leaves (step st bs).state more
    go true e =
        let z : n ≡ 0 = eqb-true n 0 e in
        ap (λ (i : ℕ). leaves st (take i bs ++ more)) z ∙ ap (λ (s : State). leaves s more) (sym (stopped_same st bs z))
    go false e = rest (eqb-false n 0 e) ∙ ap (λ (t : Bool). choose t st (leaves (step st bs).state more)) e
