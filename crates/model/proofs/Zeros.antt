-- The words behind the last mapping or range are zero, as tests, as a list of zeros and place by place.
-- Assumes nothing.
use mathlib.Core.Path.{◌≡◌, refl, ap, ap₂, ◌∙◌}
use mathlib.Core.List.{List, [], ◌∷◌}
use Prim.Native.Nat.{ℕ, zero, suc, ◌-◌, ◌*◌, ◌≤◌, ◌<◌}
use lib.Dec.{eqb→eq}
use lib.ListN.{length, get_or, drop, replicate, length-drop}
use Rattle.model.specs.Table.{Table, zero_tests, stale_row}
use Rattle.model.specs.Exactly.{ZerosBehind}
use Rattle.model.proofs.Tests.{tests, Alls, Says}

tests_zeros : (ws : List ℕ) → Alls (zero_tests ws) → ws ≡ replicate (length ws) 0
tests_zeros [] h = refl
tests_zeros (x ∷ xs) h = ap₂ ◌∷◌ (eqb→eq x 0 h.0) (tests_zeros xs h.1)

pub zeros_tests : (n : ℕ) → Alls (zero_tests (replicate n 0))
zeros_tests zero = tt
zeros_tests (suc n) = (tt, zeros_tests n)

-- the tests of the words from place n on hold exactly if those words are zeros
pub zeros_from : (n : ℕ) (ws : List ℕ) → Says (zero_tests (drop n ws)) (drop n ws ≡ replicate (length ws - n) 0)
zeros_from n ws = (λ h. tests_zeros _ h ∙ ap (λ (k : ℕ). replicate k 0) (length-drop n ws), λ z. rw z (zeros_tests (length ws - n)))

pub stale_zeros : (t : Table) → Says (stale_row t).tests (drop (4 * t.count) t.words ≡ replicate (length t.words - 4 * t.count) 0)
stale_zeros t = zeros_from (4 * t.count) t.words

-- place by place, from place n on
abbrev pub ZeroPlaces : ℕ → List ℕ → Type 0
ZeroPlaces n ws = (i : ℕ) → n ≤ i → i < length ws → get_or ws i 0 ≡ 0

tests_places : (n : ℕ) (ws : List ℕ) → Alls (zero_tests (drop n ws)) → ZeroPlaces n ws
tests_places n [] h i l k = refl
tests_places zero (x ∷ xs) h zero l k = eqb→eq x 0 h.0
tests_places zero (x ∷ xs) h (suc i) l k = tests_places zero xs h.1 i (omega tests) (omega tests)
tests_places (suc n) (x ∷ xs) h zero l k = absurd (omega tests)
tests_places (suc n) (x ∷ xs) h (suc i) l k = tests_places n xs h i (omega tests) (omega tests)

places_tests : (n : ℕ) (ws : List ℕ) → ZeroPlaces n ws → Alls (zero_tests (drop n ws))
places_tests zero [] z = tt
places_tests (suc n) [] z = tt
places_tests zero (x ∷ xs) z =
    let e : x ≡ 0 = z zero (omega tests) (omega tests) in
    (omega tests, places_tests zero xs (λ i h k. z (suc i) (omega tests) (omega tests)))
places_tests (suc n) (x ∷ xs) z = places_tests n xs (λ i h k. z (suc i) (omega tests) (omega tests))

pub places_say : (n : ℕ) (ws : List ℕ) → Says (zero_tests (drop n ws)) (ZeroPlaces n ws)
places_say n ws = (tests_places n ws, places_tests n ws)

pub stale_says : (t : Table) → Says (stale_row t).tests (ZerosBehind t)
stale_says t = places_say _ t.words
