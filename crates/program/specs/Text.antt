-- The lines that the script program writes (document 01: The script program), byte by byte.
use Prim.Native.Char.{code}
use Prim.Native.String.{String, [] as noText, ◌∷◌ as ◌then◌}
use Rattle.std.specs.Prelude.{Bool, List, [], ◌∷◌, ◌++◌, ℕ, zero, suc, ◌+◌, ◌/◌, ◌%◌, ltb}
use Rattle.program.specs.Prelude.{Mapping, Rests, Lower, Upper, Both, Operation, Map, Remap, Unmap, Shown, Nothing, Sparse, Object, Seen}
use Rattle.model.specs.Rows.{choose}
use Rattle.model.specs.Table.{words_of}

-- a text's bytes
unfoldable pub ascii : String → List ℕ
ascii noText = []
ascii (c then s) = code c ∷ ascii s

-- the code of a digit, and the decimal digits of n, the highest first; k is at least their number
abbrev pub digit : ℕ → ℕ
digit n = 48 + n

unfoldable pub digits : ℕ → ℕ → List ℕ
digits zero n = []
digits (suc k) n = choose (ltb n 10) (digit n ∷ []) (digits k (n / 10) ++ (digit (n % 10) ∷ []))

unfoldable pub decimal : ℕ → List ℕ
decimal n = digits (suc n) n

-- numbers, each behind a space
unfoldable pub spaced : List ℕ → List ℕ
spaced [] = []
spaced (n ∷ ns) = 32 ∷ (decimal n ++ spaced ns)

-- a word and numbers; a line ends with a newline
abbrev pub phrase : String → List ℕ → List ℕ
phrase word ns = ascii word ++ spaced ns

abbrev pub line : String → List ℕ → List ℕ
line word ns = phrase word ns ++ (10 ∷ [])

-- a mapping is address, size, object, offset; an unmap line is as a remap line with its own word
abbrev pub mapping_line : String → Mapping → List ℕ
mapping_line word m = line word (words_of m)

abbrev pub keep_line : String → Bool → Mapping → List ℕ
keep_line word keep m = phrase word (words_of m) ++ line " keep" (choose keep 1 0 ∷ [])

-- an absent rest has no line
abbrev pub rest_lines : Rests → List ℕ
rest_lines (Lower l) = mapping_line "lower" l
rest_lines (Upper u) = mapping_line "upper" u
rest_lines (Both l u) = mapping_line "lower" l ++ mapping_line "upper" u

abbrev pub operation_lines : Operation → List ℕ
operation_lines (Map m) = mapping_line "map" m
operation_lines (Remap keep m rs) = keep_line "remap" keep m ++ rest_lines rs
operation_lines (Unmap keep m) = keep_line "unmap" keep m

-- an address, what it shows, and for how many bytes (document 02)
abbrev pub shown_line : ℕ → Shown → ℕ → List ℕ
shown_line x Nothing n = phrase "at" (x ∷ []) ++ line " none" (n ∷ [])
shown_line x Sparse n = phrase "at" (x ∷ []) ++ line " sparse" (n ∷ [])
shown_line x (Object object offset) n = line "at" (x ∷ object ∷ offset ∷ n ∷ [])

abbrev pub seen_line : ℕ → Seen → List ℕ
seen_line x v = shown_line x v.shown v.bytes
