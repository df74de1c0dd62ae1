-- An operation in words (document 01: an operation is 14 words), and the operation that 14 words say.
use Rattle.std.specs.Prelude.{Bool, true, false, List, [], ◌∷◌, ◌++◌, ℕ, zero, suc, eqb, get_or, Option, Some, None}
use Rattle.model.specs.Prelude.{Mapping, Rests, Lower, Upper, Both, Operation, Map, Remap, Unmap}
use Rattle.model.specs.Rows.{all, choose}
use Rattle.model.specs.Table.{mapping_from, words_of}

-- an absent rest
abbrev pub absent : List ℕ
absent = 0 ∷ 0 ∷ 0 ∷ 0 ∷ []

abbrev pub rest_words : Rests → List ℕ
rest_words (Lower l) = words_of l ++ absent
rest_words (Upper u) = absent ++ words_of u
rest_words (Both l u) = words_of l ++ words_of u

-- kind, keep, the old mapping (a map's new one), the lower rest, the upper rest
abbrev pub words_of_operation : Operation → List ℕ
words_of_operation (Map m) = 0 ∷ 0 ∷ (words_of m ++ (absent ++ absent))
words_of_operation (Remap keep m rs) = 1 ∷ choose keep 1 0 ∷ (words_of m ++ rest_words rs)
words_of_operation (Unmap keep m) = 2 ∷ choose keep 1 0 ∷ (words_of m ++ (absent ++ absent))

-- the other way. A rest is absent if its four words are zero
abbrev pub is_absent : Mapping → Bool
is_absent m = all (eqb m.address 0 ∷ eqb m.size 0 ∷ eqb m.object 0 ∷ eqb m.offset 0 ∷ [])

-- by which of the two is absent
abbrev pub rests_by : Bool → Bool → Mapping → Mapping → Option Rests
rests_by true true l u = None
rests_by false true l u = Some (Lower l)
rests_by true false l u = Some (Upper u)
rests_by false false l u = Some (Both l u)

-- by the kind: a map and an unmap have no rests, a remap has some; another kind is no operation
abbrev pub operation_by : ℕ → Bool → Mapping → Option Rests → Option Operation
operation_by zero keep m None = Some (Map m)
operation_by zero keep m (Some rs) = None
operation_by (suc zero) keep m None = None
operation_by (suc zero) keep m (Some rs) = Some (Remap keep m rs)
operation_by (suc (suc zero)) keep m None = Some (Unmap keep m)
operation_by (suc (suc zero)) keep m (Some rs) = None
operation_by (suc (suc (suc k))) keep m rs = None

abbrev pub rests_in : Mapping → Mapping → Option Rests
rests_in l u = rests_by (is_absent l) (is_absent u) l u

-- the operation in the first 14 words, if they are one
unfoldable pub operation_in : List ℕ → Option Operation
operation_in ws = operation_by (get_or ws 0 0) (eqb (get_or ws 1 0) 1) (mapping_from 2 ws) (rests_in (mapping_from 6 ws) (mapping_from 10 ws))
