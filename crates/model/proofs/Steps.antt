-- Operations that can't be taken, computed: each breaks one condition of a step, on a table with the one mapping m.
-- Assumes nothing.
use mathlib.Core.Path.{◌≡◌, refl}
use mathlib.Core.Bool.{false}
use Rattle.std.specs.Prelude.{None, Some}
use mathlib.Core.List.{List, [], ◌∷◌}
use Prim.Native.Nat.{ℕ}
use Rattle.model.specs.Prelude.{Mapping, Lower, Upper, Both, Operation, Map, Remap, Unmap}
use Rattle.model.specs.Exactly.{Each}
use Rattle.model.specs.Grants.{replace, insert, apply}

-- address, size, object, offset
abbrev at : ℕ → ℕ → ℕ → ℕ → Mapping
at a n o f = record { address = a; size = n; object = o; offset = f }

abbrev m : Mapping
m = at 4096 12288 7 4096

abbrev low : Mapping
low = at 4096 4096 7 4096

abbrev high : Mapping
high = at 12288 4096 7 12288

abbrev bad : List Operation
bad =
    -- the old mapping is not there: another address, size, object, offset
    Unmap false (at 8192 12288 7 4096)
    ∷ Unmap false (at 4096 8192 7 4096)
    ∷ Unmap false (at 4096 12288 8 4096)
    ∷ Unmap false (at 4096 12288 7 8192)
    ∷ Remap false (at 4096 8192 7 4096) (Lower low)
    -- a lower rest at another address, of another object, at another offset, empty, the whole
    ∷ Remap false m (Lower (at 8192 4096 7 4096))
    ∷ Remap false m (Lower (at 4096 4096 8 4096))
    ∷ Remap false m (Lower (at 4096 4096 7 8192))
    ∷ Remap false m (Lower (at 4096 0 7 4096))
    ∷ Remap false m (Lower m)
    -- an upper rest with another end, of another object, with the offset unmoved, empty, the whole
    ∷ Remap false m (Upper (at 12288 8192 7 12288))
    ∷ Remap false m (Upper (at 12288 4096 8 12288))
    ∷ Remap false m (Upper (at 12288 4096 7 4096))
    ∷ Remap false m (Upper (at 16384 0 7 16384))
    ∷ Remap false m (Upper m)
    -- two rests without a gap; the lower one wrong; the upper one wrong
    ∷ Remap false m (Both (at 4096 8192 7 4096) high)
    ∷ Remap false m (Both (at 4096 4096 8 4096) high)
    ∷ Remap false m (Both low (at 12288 4096 7 4096))
    -- an occupied range: over the lower end, inside, over the upper end
    ∷ Map (at 0 8192 9 0)
    ∷ Map (at 8192 4096 9 0)
    ∷ Map (at 12288 8192 9 0)
    ∷ []

not_taken : Each (λ o. apply o (m ∷ []) ≡ None) bad
unfolding replace insert
not_taken = (refl, (refl, (refl, (refl, (refl, (refl, (refl, (refl, (refl, (refl, (refl, (refl, (refl, (refl, (refl, (refl, (refl, (refl, (refl, (refl, (refl, tt)))))))))))))))))))))

-- and with every condition kept
taken : apply (Remap false m (Both low high)) (m ∷ []) ≡ Some (low ∷ high ∷ [])
unfolding replace
taken = refl
