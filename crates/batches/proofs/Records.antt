-- The records in a batch's bytes: 40 bytes each, those that stand in a row, and of bytes put behind others.
-- Assumes nothing.
use mathlib.Core.Path.{◌≡◌, refl, ap, ap₂, ◌∙◌}
use mathlib.Core.List.{List, [], ◌∷◌, ◌++◌, map, flat_map, map-append}
use Prim.Native.Nat.{ℕ, zero, suc, ◌+◌, ◌*◌, ◌/◌, ◌%◌, ◌≤◌}
use native.Mathlib.Omega.{arith}
use lib.ListN.{length, drop, length-append, length-drop}
use lib.Seq.{take_at, drop_at, length-take-le, take-append-le, drop-append-le}
use Rattle.model.specs.Calls.{request_of}
use Rattle.model.specs.Exactly.{Each}
use Rattle.batches.specs.Batch.{records_in, requests_in}

pub records_length : (n : ℕ) (bs : List ℕ) → 40 * n ≤ length bs → Each (λ b. length b ≡ 40) (records_in n bs)
unfolding records_in
records_length zero bs h = tt
records_length (suc n) bs h = (length-take-le 40 bs (omega arith), records_length n (drop 40 bs) (omega (arith, length-drop 40 bs)))

-- ── records in a row ──

row-length : (recs : List (List ℕ)) → Each (λ b. length b ≡ 40) recs → length (flat_map (λ b. b) recs) ≡ 40 * length recs
unfolding flat_map
row-length [] h = refl
row-length (b ∷ recs) h = omega (arith, length-append b (flat_map (λ b. b) recs), h.0, row-length recs h.1)

records_row : (recs : List (List ℕ)) → Each (λ b. length b ≡ 40) recs → records_in (length recs) (flat_map (λ b. b) recs) ≡ recs
unfolding records_in flat_map
records_row [] h = refl
records_row (b ∷ recs) h =
    ap₂ ◌∷◌ (take_at b (flat_map (λ b. b) recs) 40 h.0)
    (ap (records_in (length recs)) (drop_at b (flat_map (λ b. b) recs) 40 h.0) ∙ records_row recs h.1)

pub read_back : (recs : List (List ℕ)) → Each (λ b. length b ≡ 40) recs
    → (records_in (length recs) (flat_map (λ b. b) recs) ≡ recs) × (requests_in (flat_map (λ b. b) recs) ≡ map request_of recs)
unfolding requests_in
read_back recs h =
    let number : length (flat_map (λ b. b) recs) / 40 ≡ length recs = omega (arith, row-length recs h) in (
      records_row recs h,
      ap (λ (n : ℕ). map request_of (records_in n (flat_map (λ b. b) recs))) number ∙ ap (map request_of) (records_row recs h),
    )

-- ── bytes behind others ──

records_append : (k m : ℕ) (xs bs : List ℕ) → length xs ≡ 40 * k → records_in (k + m) (xs ++ bs) ≡ records_in k xs ++ records_in m bs
unfolding records_in
records_append zero m [] bs e = let z : 0 + m ≡ m = omega arith in ap (λ (n : ℕ). records_in n bs) z
records_append zero m (a ∷ xs) bs e = absurd (omega arith)
records_append (suc k) m xs bs e =
    ap (λ (n : ℕ). records_in n (xs ++ bs)) (suc_first k m)
    ∙ ap₂ ◌∷◌ (take-append-le 40 xs bs (omega arith))
    (ap (records_in (k + m)) (drop-append-le 40 xs bs (omega arith)) ∙ records_append k m (drop 40 xs) bs (omega (arith, length-drop 40 xs)))
  where
    suc_first : (k m : ℕ) → suc k + m ≡ suc (k + m)
    suc_first k m = omega arith

pub requests_append : (xs bs : List ℕ) → length xs % 40 ≡ 0 → requests_in (xs ++ bs) ≡ requests_in xs ++ requests_in bs
unfolding requests_in
requests_append xs bs e =
    ap (λ (n : ℕ). map request_of (records_in n (xs ++ bs))) number
    ∙ ap (map request_of) (records_append (length xs / 40) (length bs / 40) xs bs (omega (arith, e)))
    ∙ map-append request_of (records_in (length xs / 40) xs) (records_in (length bs / 40) bs)
  where
    number : length (xs ++ bs) / 40 ≡ length xs / 40 + length bs / 40
    number = omega (arith, e, length-append xs bs)
