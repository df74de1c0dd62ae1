-- What stands at the front of some bytes, by the tests that code makes.
-- Assumes nothing.
use mathlib.Core.Path.{◌≡◌, refl, sym, ◌∙◌}
use mathlib.Core.Logic.{◌⊎◌, ⊎_elim}
use mathlib.Core.Bool.{Bool, true, false}
use mathlib.Core.List.{List}
use Prim.Native.Nat.{ℕ, ◌+◌, ◌≤◌, ◌<◌}
use native.Mathlib.Omega.{arith}
use lib.Dec.{eqb}
use lib.ListN.{length, get_or, drop}
use borrow.Author.Tests.{eq-eqb, eqb-true, ne_eqb, le-leb, lt-leb}
use Rattle.model.specs.Rows.{choose}
use Rattle.model.specs.Calls.{little_endian}
use Rattle.program.specs.Script.{has_mark, whole, space_in, record_at}
use Rattle.model.proofs.Numbers.{order}
use Rattle.program.specs.declared.ScriptRecord.{ScriptRecord}
use Rattle.program.specs.declared.ScriptRecord.TheVariants.{SetSpace, Bind, LookUp, OtherMark, Cut, End}

module _ (bs : List ℕ) where
  pub at_end : length bs < 1 → End ≡ record_at bs
  unfolding record_at
  at_end h = let e : length bs ≡ 0 = omega arith in rw e

  pub one_left : 1 ≤ length bs → length bs < 2 → Cut ≡ record_at bs
  unfolding record_at
  one_left h k = let e : length bs ≡ 1 = omega arith in rw e

  -- with two bytes, what the tests of the three marks say
  marked : {s r l : Bool} → 2 ≤ length bs → has_mark 83 80 bs ≡ s → has_mark 82 81 bs ≡ r → has_mark 76 75 bs ≡ l
      → record_at bs ≡ choose s (whole 32 bs (SetSpace (space_in bs))) (choose r (whole 40 bs Bind) (choose l (whole 8 bs (LookUp (little_endian 8 (drop 2 bs)))) OtherMark))
  unfolding record_at
  marked h s r l = rw (ne_eqb (length bs) 0 (λ e. omega arith), ne_eqb (length bs) 1 (λ e. omega arith), s, r, l)

  is_mark : (a b : ℕ) → get_or bs 0 0 ≡ a → get_or bs 1 0 ≡ b → has_mark a b bs ≡ true
  is_mark a b e f = rw (eq-eqb (get_or bs 0 0) a e, eq-eqb (get_or bs 1 0) b f)

  no_mark : (a b : ℕ) → (get_or bs 0 0 ≡ a → get_or bs 1 0 ≡ b → ⊥) → has_mark a b bs ≡ false
  no_mark a b h = go (eqb (get_or bs 0 0) a) (eqb (get_or bs 1 0) b) refl refl
    where
      go : (p q : Bool) → eqb (get_or bs 0 0) a ≡ p → eqb (get_or bs 1 0) b ≡ q → has_mark a b bs ≡ false
      go true true d e = absurd (h (eqb-true _ _ d) (eqb-true _ _ e))
      go true false d e = rw (d, e)
      go false q d e = rw d

  -- a record that is there, or is cut, as its mark says
  there : (n : ℕ) (e : ScriptRecord) → 2 + n ≤ length bs → whole n bs e ≡ e
  there n e h = rw (le-leb (2 + n) (length bs) h)

  short : (n : ℕ) (e : ScriptRecord) → length bs < 2 + n → whole n bs e ≡ Cut
  short n e h = rw (lt-leb (2 + n) (length bs) h)

  module _ (two : 2 ≤ length bs) where
    space_mark : get_or bs 0 0 ≡ 83 → get_or bs 1 0 ≡ 80 → record_at bs ≡ whole 32 bs (SetSpace (space_in bs))
    space_mark a b = marked two (is_mark 83 80 a b) refl refl

    pub space_there : get_or bs 0 0 ≡ 83 → get_or bs 1 0 ≡ 80 → 34 ≤ length bs → SetSpace (space_in bs) ≡ record_at bs
    space_there a b h = sym (space_mark a b ∙ there 32 (SetSpace (space_in bs)) h)

    pub space_short : get_or bs 0 0 ≡ 83 → get_or bs 1 0 ≡ 80 → length bs < 34 → Cut ≡ record_at bs
    space_short a b h = sym (space_mark a b ∙ short 32 (SetSpace (space_in bs)) h)

    request_mark : get_or bs 0 0 ≡ 82 → get_or bs 1 0 ≡ 81 → record_at bs ≡ whole 40 bs Bind
    request_mark a b = marked two (no_mark 83 80 (λ e f. omega arith)) (is_mark 82 81 a b) refl

    pub request_there : get_or bs 0 0 ≡ 82 → get_or bs 1 0 ≡ 81 → 42 ≤ length bs → Bind ≡ record_at bs
    request_there a b h = sym (request_mark a b ∙ there 40 Bind h)

    pub request_short : get_or bs 0 0 ≡ 82 → get_or bs 1 0 ≡ 81 → length bs < 42 → Cut ≡ record_at bs
    request_short a b h = sym (request_mark a b ∙ short 40 Bind h)

    address : ScriptRecord
    address = LookUp (little_endian 8 (drop 2 bs))

    address_mark : get_or bs 0 0 ≡ 76 → get_or bs 1 0 ≡ 75 → record_at bs ≡ whole 8 bs address
    unfolding address
    address_mark a b = marked two (no_mark 83 80 (λ e f. omega arith)) (no_mark 82 81 (λ e f. omega arith)) (is_mark 76 75 a b)

    pub address_there : get_or bs 0 0 ≡ 76 → get_or bs 1 0 ≡ 75 → 10 ≤ length bs → LookUp (little_endian 8 (drop 2 bs)) ≡ record_at bs
    unfolding address
    address_there a b h = sym (address_mark a b ∙ there 8 address h)

    pub address_short : get_or bs 0 0 ≡ 76 → get_or bs 1 0 ≡ 75 → length bs < 10 → Cut ≡ record_at bs
    address_short a b h = sym (address_mark a b ∙ short 8 address h)

    pub other_mark : (get_or bs 0 0 ≡ 83 → get_or bs 1 0 ≡ 80 → ⊥) → (get_or bs 0 0 ≡ 82 → get_or bs 1 0 ≡ 81 → ⊥)
        → (get_or bs 0 0 ≡ 76 → get_or bs 1 0 ≡ 75 → ⊥) → OtherMark ≡ record_at bs
    other_mark a b c = sym (marked two (no_mark 83 80 a) (no_mark 82 81 b) (no_mark 76 75 c))

pub ruleset reading = (at_end, one_left, space_there, space_short, request_there, request_short, address_there, address_short, other_mark)

-- ── a record that is cut, and none, have few bytes ──

long : (bs : List ℕ) → 42 ≤ length bs → (record_at bs ≡ Cut) ⊎ (record_at bs ≡ End) → ⊥
long bs h = go (has_mark 83 80 bs) (has_mark 82 81 bs) (has_mark 76 75 bs) refl refl refl
  where
    go : (s r l : Bool) → has_mark 83 80 bs ≡ s → has_mark 82 81 bs ≡ r → has_mark 76 75 bs ≡ l → (record_at bs ≡ Cut) ⊎ (record_at bs ≡ End) → ⊥
    go true r l d e f k = let is = marked bs (omega arith) d e f ∙ there bs 32 (SetSpace (space_in bs)) (omega arith) in ⊎_elim (λ c. cc) (λ c. cc) k
    go false true l d e f k = let is = marked bs (omega arith) d e f ∙ there bs 40 Bind (omega arith) in ⊎_elim (λ c. cc) (λ c. cc) k
    go false false true d e f k =
        let is = marked bs (omega arith) d e f ∙ there bs 8 (LookUp (little_endian 8 (drop 2 bs))) (omega arith) in ⊎_elim (λ c. cc) (λ c. cc) k
    go false false false d e f k = let is = marked bs (omega arith) d e f in ⊎_elim (λ c. cc) (λ c. cc) k

pub short_length : (bs : List ℕ) → (record_at bs ≡ Cut) ⊎ (record_at bs ≡ End) → length bs < 42
short_length bs h = ⊎_elim (λ k. absurd (long bs k h)) (λ k. k) (order 42 (length bs))
