-- A record lies in the bytes that stand there, and bytes behind it change nothing; the number of steps that a script is
-- given does not matter.
-- Assumes nothing.
use mathlib.Core.Path.{◌≡◌, refl, sym, ap, ◌∙◌}
use mathlib.Core.Logic.{◌⊎◌, inl, inr, ⊎_elim, ⊎_map}
use mathlib.Core.Bool.{Bool, true, false}
use mathlib.Core.List.{List, [], ◌∷◌, ◌++◌}
use Prim.Native.Nat.{ℕ, zero, suc, ◌+◌, ◌*◌, ◌≤◌, ◌<◌}
use native.Mathlib.Omega.{arith}
use lib.Dec.{leb, eqb}
use lib.ListN.{length, take, drop, length-append, length-drop, take-append-drop}
use lib.Seq.{length-take-le, take-append-le, drop-append-le}
use borrow.Author.Tests.{le-leb, lt-leb, eqb-false, ne_eqb}
use Rattle.model.specs.Rows.{choose}
use Rattle.model.specs.Calls.{little_endian, record_bytes}
use Rattle.program.specs.Script.{has_mark, whole, space_in, record_at, record_size, State, request_in, step_on, step, lines, operations_in, run}
use Rattle.program.specs.Claims.{Prefix}
use Rattle.program.specs.declared.ScriptRecord.{ScriptRecord}
use Rattle.program.specs.declared.ScriptRecord.TheVariants.{SetSpace, Bind, LookUp, OtherMark, Cut, End}
use Rattle.model.proofs.Numbers.{order}

-- ── bytes behind ──

little_endian-append : (n : ℕ) (bs more : List ℕ) → n ≤ length bs → little_endian n (bs ++ more) ≡ little_endian n bs
unfolding little_endian
little_endian-append zero bs more h = refl
little_endian-append (suc n) [] more h = absurd (omega arith)
little_endian-append (suc n) (b ∷ bs) more h = ap (λ (x : ℕ). b + 256 * x) (little_endian-append n bs more (omega arith))

number_append : (n i : ℕ) (bs more : List ℕ) → i + n ≤ length bs → little_endian n (drop i (bs ++ more)) ≡ little_endian n (drop i bs)
number_append n i bs more h =
    ap (little_endian n) (drop-append-le i bs more (omega arith)) ∙ little_endian-append n (drop i bs) more (simp length-drop (omega arith))

space_append : (bs more : List ℕ) → 34 ≤ length bs → space_in (bs ++ more) ≡ space_in bs
space_append bs more h = rw (
  number_append 8 2 bs more (omega arith),
  number_append 8 10 bs more (omega arith),
  number_append 8 18 bs more (omega arith),
  number_append 8 26 bs more (omega arith),
)

request_append : (bs more : List ℕ) → 42 ≤ length bs → request_in (bs ++ more) ≡ request_in bs
request_append bs more h =
    ap (take record_bytes) (drop-append-le 2 bs more (omega arith)) ∙ take-append-le record_bytes (drop 2 bs) more (simp length-drop (omega arith))

-- ── a record lies in the bytes, and with bytes behind it is the same, unless it is cut ──

-- e stands in the bytes bs, f with bytes behind them; where e is cut f is longer than bs, or has no size either
abbrev Kept : List ℕ → ScriptRecord → ScriptRecord → Type 0
Kept bs e f = (record_size e ≤ length bs) × (((e ≡ Cut) × (record_size f ≤ length bs → record_size f ≡ 0)) ⊎ (f ≡ e))

kept_choose : (bs : List ℕ) (b : Bool) {e f g h : ScriptRecord} → Kept bs e f → Kept bs g h → Kept bs (choose b e g) (choose b f h)
kept_choose bs true k l = k
kept_choose bs false k l = l

kept_whole : (n : ℕ) (bs more : List ℕ) (e f : ScriptRecord) → record_size e ≡ 2 + n → record_size f ≡ 2 + n → (2 + n ≤ length bs → f ≡ e)
    → Kept bs (whole n bs e) (whole n (bs ++ more) f)
kept_whole n bs more e f fits size same = ⊎_elim
    (λ h. rw (le-leb (2 + n) (length bs) h, le-leb (2 + n) (length (bs ++ more)) (simp length-append (omega arith))) (omega arith, inr (same h)))
    (λ h. rw (lt-leb (2 + n) (length bs) h) (omega arith, inl (refl, longer h (leb (2 + n) (length (bs ++ more)))))) (order (2 + n) (length bs))
  where
    longer : length bs < 2 + n → (t : Bool) → record_size (choose t f Cut) ≤ length bs → record_size (choose t f Cut) ≡ 0
    longer h true k = absurd (omega arith)
    longer h false k = refl

kept : (a b : ℕ) (cs more : List ℕ) → Kept (a ∷ b ∷ cs) (record_at (a ∷ b ∷ cs)) (record_at (a ∷ b ∷ (cs ++ more)))
unfolding record_at
kept a b cs more = rw (longer cs 0 (omega arith), longer cs 1 (omega arith), longer (cs ++ more) 0 (omega arith), longer (cs ++ more) 1 (omega arith))
    (kept_choose bs (has_mark 83 80 bs) (kept_whole 32 bs more _ _ refl refl (λ h. ap SetSpace (space_append bs more h)))
    (kept_choose bs (has_mark 82 81 bs) (kept_whole record_bytes bs more Bind Bind refl refl (λ h. refl))
    (kept_choose bs (has_mark 76 75 bs) (kept_whole 8 bs more _ _ refl refl (λ h. ap LookUp (number_append 8 2 bs more h))) other)))
  where
    bs : List ℕ
    bs = a ∷ b ∷ cs

    other : Kept bs OtherMark OtherMark
    other = (omega arith, inr refl)

    longer : (ds : List ℕ) (k : ℕ) → k < 2 → eqb (suc (suc (length ds))) k ≡ false
    longer ds k h = ne_eqb (suc (suc (length ds))) k (λ e. omega arith)

pub record_fits : (bs : List ℕ) → record_size (record_at bs) ≤ length bs
unfolding record_at
record_fits [] = omega arith
record_fits (a ∷ []) = omega arith
record_fits (a ∷ b ∷ cs) = (kept a b cs []).0

-- the bytes of a request
pub request_length : (bs : List ℕ) → record_size Bind ≤ length bs → length (request_in bs) ≡ 40
request_length bs h = length-take-le record_bytes (drop 2 bs) (simp length-drop (omega arith))

step-append : (e : ScriptRecord) (st : State) (bs more : List ℕ) → record_size e ≤ length bs → step_on e st (bs ++ more) ≡ step_on e st bs
step-append (SetSpace s) st bs more h = refl
step-append Bind st bs more h = rw (request_append bs more h)
step-append (LookUp x) st bs more h = refl
step-append OtherMark st bs more h = refl
step-append Cut st bs more h = refl
step-append End st bs more h = refl

pub prefix : Prefix
unfolding record_at step
prefix [] more = inr (inl refl)
prefix (a ∷ []) more = inl refl
prefix (a ∷ b ∷ cs) more = ⊎_map (λ e. e.0) (λ e. inr (e, λ st. ap (λ (r : ScriptRecord). step_on r st (bs ++ more)) e ∙ same st)) (kept a b cs more).1
  where
    bs : List ℕ
    bs = a ∷ b ∷ cs

    same : (st : State) → step_on (record_at bs) st (bs ++ more) ≡ step_on (record_at bs) st bs
    same st = step-append (record_at bs) st bs more (record_fits bs)

-- ── a record alone ──

-- a record that is not cut is as long as a look-up's, or longer
size_least : (e : ScriptRecord) → (record_size e ≡ 0 → ⊥) → 10 ≤ record_size e
size_least (SetSpace s) h = omega arith
size_least Bind h = omega arith
size_least (LookUp x) h = omega arith
size_least OtherMark h = absurd (h refl)
size_least Cut h = absurd (h refl)
size_least End h = absurd (h refl)

behind : (bs more : List ℕ) → 2 ≤ length bs → Kept bs (record_at bs) (record_at (bs ++ more))
behind [] more h = absurd (omega arith)
behind (a ∷ []) more h = absurd (omega arith)
behind (a ∷ b ∷ cs) more h = kept a b cs more

-- with nothing behind it, it is the same
alone : (bs : List ℕ) → (record_size (record_at bs) ≡ 0 → ⊥) → record_at (take (record_size (record_at bs)) bs) ≡ record_at bs
alone bs some =
    let n : ℕ = record_size (record_at bs) in
    let l : length (take n bs) ≡ n = length-take-le n bs (record_fits bs) in
    go (rw take-append-drop at (behind (take n bs) (drop n bs) (omega (arith, size_least (record_at bs) some))).1) (omega arith)
  where
    go : {e : ScriptRecord} {k : ℕ} → ((e ≡ Cut) × (record_size (record_at bs) ≤ k → record_size (record_at bs) ≡ 0)) ⊎ (record_at bs ≡ e)
        → record_size (record_at bs) ≤ k → e ≡ record_at bs
    go (inl c) h = absurd (some (c.1 h))
    go (inr e) h = sym e

-- and so it is with any bytes behind it
pub record_alone : (bs more : List ℕ) → (record_size (record_at bs) ≡ 0 → ⊥)
    → (record_at (take (record_size (record_at bs)) bs ++ more) ≡ record_at bs) × ((st : State) → step st (take (record_size (record_at bs)) bs ++ more) ≡ step st bs)
record_alone bs more some =
    let n : ℕ = record_size (record_at bs) in
    let e : record_at (take n bs) ≡ record_at bs = alone bs some in
    let k = go (take n bs) more (λ z. some (sym (ap record_size e) ∙ z)) in
    let l = go (take n bs) (drop n bs) (λ z. some (sym (ap record_size e) ∙ z)) in
    (k.0 ∙ e, λ st. k.1 st ∙ sym (l.1 st) ∙ ap (step st) (take-append-drop n bs))
  where
    go : (bs more : List ℕ) → (record_size (record_at bs) ≡ 0 → ⊥) → (record_at (bs ++ more) ≡ record_at bs) × ((st : State) → step st (bs ++ more) ≡ step st bs)
    go bs more some = by (prefix bs more)
      where
        by : (record_at bs ≡ Cut) ⊎ ((record_at bs ≡ End) ⊎ ((record_at (bs ++ more) ≡ record_at bs) × ((st : State) → step st (bs ++ more) ≡ step st bs)))
            → (record_at (bs ++ more) ≡ record_at bs) × ((st : State) → step st (bs ++ more) ≡ step st bs)
        by (inl e) = absurd (some (ap record_size e))
        by (inr (inl e)) = absurd (some (ap record_size e))
        by (inr (inr k)) = k

-- ── steps ──

-- what stands behind a record counts only where there is one
pub where_some : {A : Type 0} (n : ℕ) (a : A) {x y : A} → ((n ≡ 0 → ⊥) → x ≡ y) → choose (eqb n 0) a x ≡ choose (eqb n 0) a y
where_some n a {x} {y} f = go (eqb n 0) refl
  where
    go : (t : Bool) → eqb n 0 ≡ t → choose t a x ≡ choose t a y
    go true e = refl
    go false e = f (eqb-false n 0 e)

run-nil : (k : ℕ) (st : State) (p : ℕ) → run k st p [] ≡ []
unfolding run step record_at
run-nil zero st p = refl
run-nil (suc k) st p = refl

pub run_fuel : (j k : ℕ) (st : State) (p : ℕ) (bs : List ℕ) → length bs ≤ j → length bs ≤ k → run j st p bs ≡ run k st p bs
unfolding run
run_fuel zero k st p [] h l = sym (run-nil k st p)
run_fuel zero k st p (b ∷ bs) h l = absurd (omega arith)
run_fuel (suc j) zero st p [] h l = run-nil (suc j) st p
run_fuel (suc j) zero st p (b ∷ bs) h l = absurd (omega arith)
run_fuel (suc j) (suc k) st p bs h l =
    let n : ℕ = record_size (record_at bs) in
    ap (λ (text : List ℕ). lines p (operations_in st bs) (step st bs).told ++ text) (where_some n [] (λ some.
    run_fuel j k (step st bs).state (p + n) (drop n bs) (simp length-drop (omega (arith, some))) (simp length-drop (omega (arith, some)))))
