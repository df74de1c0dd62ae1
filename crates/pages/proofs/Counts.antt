-- How many entries there are: the count is the list's length, without making it. Three words an entry.
-- Assumes nothing.
use mathlib.Core.Path.{◌≡◌, refl, ap, ◌∙◌}
use mathlib.Core.Bool.{Bool, true, false}
use mathlib.Core.List.{List, [], ◌∷◌, ◌++◌, flat_map}
use Prim.Native.Nat.{ℕ, zero, suc, ◌+◌, ◌*◌, ◌/◌}
use native.Mathlib.Omega.{arith}
use lib.ListN.{length, length-append}
use Rattle.model.specs.Rows.{choose}
use Rattle.pages.specs.Prelude.{Mapping, Entry}
use Rattle.pages.specs.Pages.{congruent, lower, middle, upper, entries_from, paged, cover, entry_count, entry_words}

pub length-entries_from : (s n a f : ℕ) → length (entries_from s n a f) ≡ n
unfolding entries_from
length-entries_from s zero a f = refl
length-entries_from s (suc n) a f = ap suc (length-entries_from s n (a + s) (f + s))

pub length-paged : (s : ℕ) (m : Mapping) → length (paged s m) ≡ m.size / s
length-paged s m = length-entries_from s (m.size / s) m.address m.offset

pub length_three : (xs ys zs : List Entry) → length (xs ++ (ys ++ zs)) ≡ length xs + (length ys + length zs)
length_three xs ys zs = length-append xs (ys ++ zs) ∙ ap (λ (n : ℕ). length xs + n) (length-append ys zs)

pub count-length : (s : ℕ) (ts : List ℕ) (m : Mapping) → entry_count s ts m ≡ length (cover s ts m)
unfolding entry_count cover
count-length s [] m = omega (arith, length-paged s m)
count-length s (t ∷ ts) m = go (congruent s m) (count-length t ts (lower s m)) (count-length t ts (upper s m)) (count-length t ts m)
  where
    go : (b : Bool) → entry_count t ts (lower s m) ≡ length (cover t ts (lower s m)) → entry_count t ts (upper s m) ≡ length (cover t ts (upper s m))
        → entry_count t ts m ≡ length (cover t ts m)
        → choose b (entry_count t ts (lower s m) + ((middle s m).size / s + entry_count t ts (upper s m))) (entry_count t ts m)
        ≡ length (choose b (cover t ts (lower s m) ++ (paged s (middle s m) ++ cover t ts (upper s m))) (cover t ts m))
    go true l u w = omega (
      arith,
      l,
      u,
      length-paged s (middle s m),
      length_three (cover t ts (lower s m)) (paged s (middle s m)) (cover t ts (upper s m)),
    )
    go false l u w = w

pub length_entry_words : (es : List Entry) → length (flat_map entry_words es) ≡ 3 * length es
unfolding flat_map
length_entry_words [] = refl
length_entry_words (e ∷ es) = omega (arith, length_entry_words es)
