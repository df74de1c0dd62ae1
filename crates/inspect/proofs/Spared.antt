-- Where no mapping shares a byte with the reservation, the check in a space is the check where nothing is reserved.
-- Assumes nothing.
use Rattle.std.proofs.Common.{◌≡◌, ℕ, zero, suc, ◌+◌, ◌*◌, ◌%◌, ◌<◌, ◌≤◌, Bool, true, false, List, [], ◌∷◌, length, get_or, sym, refl, ap, ◌∙◌, subst, arith, ltb-false}
use Rattle.model.specs.declared.Mapping.{Mapping}
use Rattle.model.specs.declared.Space.{Space}
use Rattle.model.specs.Rows.{all, choose}
use Rattle.model.specs.Rules.{page, limit, end, space_tests}
use Rattle.model.specs.Table.{mappings_in, fit_tests, bad_place}
use Rattle.model.specs.Exactly.{SpaceRules}
use Rattle.model.proofs.Tests.{tests, all_facts, all_true, all_same}
use Rattle.model.proofs.Rules.{space_says}
use Rattle.model.proofs.Store.{length-mappings}
use Rattle.model.proofs.Chain.{Fit, fit_says}
use Rattle.model.proofs.Table.{top}
use Rattle.inspect.specs.Part.{up_to}
use Rattle.table.specs.Halving.{at}
use Rattle.table.specs.Places.{first_where, ends_behind, Valid}

abbrev reserved_end : Space → ℕ
reserved_end s = s.reserved.start + s.reserved.size

pub record Ends (s : Space) : Type 0 where
  pub start : s.start % page ≡ 0
  pub space : top s ≤ limit
  pub reserved : reserved_end s ≤ limit

pub space_ends : (s : Space) → all (space_tests s) ≡ true → Ends s
space_ends s e = go s.reserved.size refl
  where
    r : SpaceRules s
    r = (space_says s).0 (all_facts (space_tests s) e)

    go : (n : ℕ) → s.reserved.size ≡ n → Ends s
    go zero z = let h = r.no_reservation z in record { start = r.multiples.0; space = r.end_most; reserved = omega arith }
    go (suc n) z = let h = r.reservation (omega arith) in record { start = r.multiples.0; space = r.end_most; reserved = omega (arith, h, r.end_most) }

-- every mapping has to start inside the space anyhow
from_start : (s : Space) (ms : List Mapping) → bad_place s 0 ms ≡ bad_place s s.start ms
unfolding bad_place
from_start s [] = refl
from_start s (m ∷ ms) =
    ap (λ (b : Bool). choose b (suc (bad_place s (end m) ms)) 0) (all_same (fit_tests s 0 m) (fit_tests s s.start m) (λ t. omega tests) (λ t. omega tests))

-- mappings that are in order from some address on are so from 0 on
from_zero : (s : Space) (from : ℕ) (ms : List Mapping) → bad_place s from ms ≡ length ms → bad_place s 0 ms ≡ length ms
unfolding bad_place
from_zero s from [] e = refl
from_zero s from (m ∷ ms) e = go (all (fit_tests s from m)) refl e
  where
    go : (b : Bool) → all (fit_tests s from m) ≡ b → choose b (suc (bad_place s (end m) ms)) 0 ≡ suc (length ms)
        → choose (all (fit_tests s 0 m)) (suc (bad_place s (end m) ms)) 0 ≡ suc (length ms)
    go true q e = let k = all_facts (fit_tests s from m) q in rw (all_true (fit_tests s 0 m) (omega tests), choose) e
    go false q e = absurd (omega (arith, e))

-- ── a space, and the same with nothing reserved ──

module _ (s : Space) where
  abbrev free : Space
  free = up_to (top s)

  -- where the first mapping keeps off the reservation, and the rest comes to the same if it fits
  first_same : (from : ℕ) (m : Mapping) (ms : List Mapping) → s.start ≤ from → (Fit free from m → Fit s from m)
      → (Fit free from m → bad_place s (end m) ms ≡ bad_place free (end m) ms) → bad_place s from (m ∷ ms) ≡ bad_place free from (m ∷ ms)
  unfolding bad_place
  first_same from m ms h g rest = rw same (go (all (fit_tests free from m)) refl)
    where
      same : all (fit_tests s from m) ≡ all (fit_tests free from m)
      same = all_same (fit_tests s from m) (fit_tests free from m) (λ t. omega tests) (λ t. (fit_says s from m).1 (g ((fit_says free from m).0 t)))

      go : (t : Bool) → all (fit_tests free from m) ≡ t → choose t (suc (bad_place s (end m) ms)) 0 ≡ choose t (suc (bad_place free (end m) ms)) 0
      go true q = ap suc (rest ((fit_says free from m).0 (all_facts (fit_tests free from m) q)))
      go false q = refl

  above : (from : ℕ) (ms : List Mapping) → s.start ≤ from → reserved_end s ≤ from → bad_place s from ms ≡ bad_place free from ms
  unfolding bad_place
  above from [] h k = refl
  above from (m ∷ ms) h k =
      first_same from m ms h (λ f. omega arith) (λ f. above (end m) ms (omega (arith, f.start)) (omega (arith, f.start)))

  abbrev first : List Mapping → ℕ
  first ms = first_where (ends_behind s.reserved.start) ms

  -- all before the first that ends behind the reservation's start are below it; if that one is above it, all behind are
  spared : (from : ℕ) (ms : List Mapping) (d : Mapping) → s.start ≤ from → (first ms < length ms → reserved_end s ≤ (get_or ms (first ms) d).address)
      → bad_place s from ms ≡ bad_place free from ms
  unfolding bad_place first_where
  spared from [] d h k = refl
  spared from (m ∷ ms) d h k = go (ends_behind s.reserved.start m) refl k (spared (end m) ms d)
    where
      go : (b : Bool) → ends_behind s.reserved.start m ≡ b
          → (choose b 0 (suc (first ms)) < suc (length ms) → reserved_end s ≤ (get_or (m ∷ ms) (choose b 0 (suc (first ms))) d).address)
          → (s.start ≤ end m → (first ms < length ms → reserved_end s ≤ (get_or ms (first ms) d).address) → bad_place s (end m) ms ≡ bad_place free (end m) ms)
          → bad_place s from (m ∷ ms) ≡ bad_place free from (m ∷ ms)
      go true q k ih =
          let l : reserved_end s ≤ m.address = k (omega arith) in
          first_same from m ms h (λ f. omega arith) (λ f. above (end m) ms (omega (arith, f.start)) (omega (arith, l)))
      go false q k ih =
          let l = ltb-false s.reserved.start (end m) q in
          first_same from m ms h (λ f. omega arith) (λ f. ih (omega (arith, f.start)) (λ n. k (omega (arith, n))))

-- ── in the words ──

-- a table that is in order where nothing is reserved can be searched
pub free_valid : (s : Space) (ws : List ℕ) (n : ℕ) → Ends s → 4 * n ≤ length ws → bad_place (up_to (top s)) s.start (mappings_in n ws) ≡ n → Valid ws n
free_valid s ws n b h e =
    let l = length-mappings n ws in
    record { held = h; space = up_to (top s); top = omega (arith, b.space); kept = from_zero (up_to (top s)) s.start (mappings_in n ws) (e ∙ sym l) ∙ l }

-- ── by what the search tells ──

-- i is the place of the first that ends behind the reservation's start, and that one starts at its end or behind
pub kept_off : (s : Space) (ms : List Mapping) (i : ℕ) → i ≡ first_where (ends_behind s.reserved.start) ms → (i < length ms → reserved_end s ≤ (at ms i).address)
    → bad_place s 0 ms ≡ bad_place (up_to (top s)) s.start ms
kept_off s ms i e h =
    from_start s ms ∙ spared s s.start ms _ (omega arith) (subst (λ (k : ℕ). k < length ms → reserved_end s ≤ (at ms k).address) e h)
