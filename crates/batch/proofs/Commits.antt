-- All or none: what is kept, put back and cleared.
-- Assumes nothing.
use mathlib.Core.Path.{◌≡◌, sym, ap, ap₂, ◌∙◌}
use mathlib.Core.List.{List, ◌++◌}
use Prim.Native.Nat.{ℕ, ◌+◌, ◌-◌, ◌*◌, ◌≤◌}
use native.Mathlib.Omega.{arith}
use lib.ListN.{length, take, replicate, take-append-drop}
use lib.Seq.{length-take-le}
use Rattle.model.specs.declared.Request.{Request}
use Rattle.model.specs.declared.Space.{Space}
use Rattle.model.specs.Rows.{Reply, refused, answered}
use Rattle.table.specs.Places.{lent}
use Rattle.words.specs.Words.{stored, ZeroFrom}
use Rattle.words.proofs.Stored.{length-stored, take-stored-end, cleared_is, cleared-stored}
use Rattle.change.specs.declared.Made.{Made}
use Rattle.change.specs.Change.{Changed}
use Rattle.request.specs.Bound.{Checked}
use Rattle.batch.specs.Turns.{turned, committing, committed}

-- the first n words of ws stored at the front
front : (us vs ws : List ℕ) (n : ℕ) → us ≡ stored vs 0 (take n ws) → n ≤ length ws → take n us ≡ take n ws
front us vs ws n e h =
    let z : 0 + length (take n ws) ≡ n = omega (arith, length-take-le n ws h) in
    ap (take n) e ∙ rw z at (take-stored-end vs 0 (take n ws) (omega arith))

-- what they were, where zeros stood behind them
put_back : (us vs ws : List ℕ) (n : ℕ) → n ≤ length ws → ZeroFrom ws n → length vs ≡ length ws → take n vs ≡ take n ws
    → us ≡ stored vs n (replicate (length vs - n) 0) → us ≡ ws
put_back us vs ws n h z l f e =
    e ∙ cleared-stored vs n (omega (arith, h, l)) ∙ sym (cleared_is vs n)
    ∙ ap₂ (λ (xs : List ℕ) (k : ℕ). xs ++ replicate (k - n) 0) f l ∙ ap (λ (ys : List ℕ). take n ws ++ ys) (sym z) ∙ take-append-drop n ws

-- the table held ws, with zeros behind its mappings, vs was lent to work in and os for operations; the mappings' words
-- stand in vs', and the requests left ws' and os'
module _ (k : ℕ) (s : Space) (rs : List Request) (ws vs os : List ℕ) (count : ℕ) {vs' ws' os' : List ℕ} {x : Reply Made}
    (checked : Checked s (lent ws count)) (copy : vs' ≡ stored vs 0 (take (4 * count) ws)) (long : length vs ≡ length ws)
    (went : turned s 0 rs (lent ws count) os ≡ record { reply = x; table = ws'; operations = os' }) where
  held : 4 * count ≤ length ws
  held = checked.table.0.held

  kept : length vs' ≡ length vs
  kept = ap length copy ∙ length-stored vs 0 (take (4 * count) ws) (omega (arith, length-take-le (4 * count) ws held, held, long))

  work_zeros : {us : List ℕ} → us ≡ replicate (length vs') 0 → us ≡ replicate (length vs) 0
  work_zeros e = e ∙ ap (λ (k : ℕ). replicate k 0) kept

  by : {y : Reply Made} → x ≡ y → committed k (turned s 0 rs (lent ws count) os) ws vs os
      ≡ committing k y (record { reply = y; table = ws'; operations = os' }) ws vs os
  unfolding committed
  by e = ap (λ (o : Changed). committing k o.reply o ws vs os) (went ∙ ap (λ (x : Reply Made). record { reply = x; table = ws'; operations = os' }) e)

  pub none : {n p : ℕ} {back put cleared emptied : List ℕ} → x ≡ refused n p → length ws' ≡ length ws
      → back ≡ stored ws' 0 (take (4 * count) vs') → put ≡ stored back (4 * count) (replicate (length back - 4 * count) 0)
      → cleared ≡ replicate (length vs') 0 → emptied ≡ replicate (length os') 0 → length os' ≡ length os
      → committed k (turned s 0 rs (lent ws count) os) ws vs os ≡ record { answer = refused n p; table = put; work = cleared; operations = emptied }
  none {n} {p} {back} {put} {cleared} {emptied} e l b q c f m =
      by e ∙ λ i. record {
        answer = refused n p;
        table = sym (put_back put back ws (4 * count) held checked.behind same again q) i;
        work = sym (work_zeros c) i;
        operations = sym (f ∙ ap (λ (k : ℕ). replicate k 0) m) i;
      }
    where
      there : 4 * count ≤ length vs'
      there = omega (arith, held, kept, long)

      same : length back ≡ length ws
      same = ap length b ∙ length-stored ws' 0 (take (4 * count) vs') (omega (arith, length-take-le (4 * count) vs' there, held, l)) ∙ l

      again : take (4 * count) back ≡ take (4 * count) ws
      again = front back ws' vs' (4 * count) b there ∙ front vs' vs ws (4 * count) copy held

  pub every : {made after : ℕ} {cleared : List ℕ} → x ≡ answered (record { operations = made; count = after }) → cleared ≡ replicate (length vs') 0
      → committed k (turned s 0 rs (lent ws count) os) ws vs os
      ≡ record { answer = answered (record { operations = made; count = after; ranges = k }); table = ws'; work = cleared; operations = os' }
  every {made} {after} {cleared} e c =
      by e ∙ λ i. record {
        answer = answered (record { operations = made; count = after; ranges = k });
        table = ws';
        work = sym (work_zeros c) i;
        operations = os';
      }
