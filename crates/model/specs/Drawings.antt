-- The drawings marked P in document 01, and document 02's of the keep mark, as one listing: words in and words out of
-- the public call, computed.
use Rattle.std.specs.Prelude.{◌≡◌, List, [], ◌∷◌, ◌++◌, ℕ, ◌+◌, ◌-◌, ◌*◌, length, replicate}
use Rattle.model.specs.Prelude.{Grant}
use Rattle.model.specs.Calls.{Reply, answered, Asking, numbers, bind, space_of}
use Rattle.model.specs.Exactly.{Each, refusal}

-- the old mappings, the request, the operations and the new mappings; or the table's room, the old mappings, the
-- request and a refusal's number
pub data Drawing : Type 0 where
  granted : List (List ℕ) → Asking → List (List ℕ) → List (List ℕ) → Drawing
  refusing : ℕ → List (List ℕ) → Asking → ℕ → Drawing

-- n words: these, and x in all the others
abbrev pub filled : ℕ → ℕ → List (List ℕ) → List ℕ
filled x n [] = replicate n x
filled x n (ws ∷ wss) = ws ++ filled x (n - length ws) wss

-- in a space of 16 pages, beside a list of length 0, with nines in the operation slice
abbrev pub Computes : ℕ → List (List ℕ) → Asking → Reply Grant → List (List ℕ) → List (List ℕ) → Type 0
Computes room old q a os new =
    bind (space_of 0 65536 0 0) (record { table = record { words = filled 0 (4 * room) old; count = length old }; ranges = record { words = []; count = 0 } })
    (replicate (14 * (room + 1)) 9) q
    ≡ record { answer = a; table = filled 0 (4 * room) new; ranges = []; operations = filled 9 (14 * (room + 1)) os }

abbrev pub Drawn : Drawing → Type 0
Drawn (granted old q os new) = Computes 8 old q (answered (record { operations = length os; count = length new; ranges = 0 })) os new
Drawn (refusing room old q n) = Computes room old q (refusal n) [] old

-- in pages: [a, b) o@f; a request with op 0 maps, with op 1 unmaps
abbrev pub at : ℕ → ℕ → ℕ → ℕ → List ℕ
at a b o f = a * 4096 ∷ (b - a) * 4096 ∷ o ∷ f * 4096 ∷ []

abbrev pub no_rest : List ℕ
no_rest = replicate 4 0

abbrev pub mapped : List ℕ → List ℕ
mapped m = 0 ∷ 0 ∷ (m ++ (no_rest ++ no_rest))

abbrev pub remapped : ℕ → List ℕ → List ℕ → List ℕ → List ℕ
remapped keep m lower upper = 1 ∷ keep ∷ (m ++ (lower ++ upper))

abbrev pub unmapped : ℕ → List ℕ → List ℕ
unmapped keep m = 2 ∷ keep ∷ (m ++ (no_rest ++ no_rest))

abbrev pub ask : ℕ → ℕ → ℕ → ℕ → ℕ → Asking
ask op a b o f = numbers op (a * 4096) ((b - a) * 4096) o (f * 4096)

unfoldable pub drawings : List Drawing
drawings =
    -- P1 to P12, in order
    granted (at 0 1 7 1 ∷ []) (ask 0 0 1 7 1) (unmapped 1 (at 0 1 7 1) ∷ mapped (at 0 1 7 1) ∷ []) (at 0 1 7 1 ∷ [])
    ∷ granted (at 0 2 7 1 ∷ []) (ask 0 1 2 9 4) (remapped 0 (at 0 2 7 1) (at 0 1 7 1) no_rest ∷ mapped (at 1 2 9 4) ∷ []) (at 0 1 7 1 ∷ at 1 2 9 4 ∷ [])
    ∷ granted (at 0 2 7 1 ∷ []) (ask 0 0 1 9 4) (remapped 0 (at 0 2 7 1) no_rest (at 1 2 7 2) ∷ mapped (at 0 1 9 4) ∷ []) (at 0 1 9 4 ∷ at 1 2 7 2 ∷ [])
    ∷ granted (at 0 3 7 1 ∷ []) (ask 0 1 2 9 4) (remapped 0 (at 0 3 7 1) (at 0 1 7 1) (at 2 3 7 3) ∷ mapped (at 1 2 9 4) ∷ [])
    (at 0 1 7 1 ∷ at 1 2 9 4 ∷ at 2 3 7 3 ∷ [])
    ∷ granted (at 0 2 7 1 ∷ []) (ask 0 1 3 9 4) (remapped 0 (at 0 2 7 1) (at 0 1 7 1) no_rest ∷ mapped (at 1 3 9 4) ∷ []) (at 0 1 7 1 ∷ at 1 3 9 4 ∷ [])
    ∷ granted (at 1 3 7 1 ∷ []) (ask 0 0 2 9 4) (remapped 0 (at 1 3 7 1) no_rest (at 2 3 7 2) ∷ mapped (at 0 2 9 4) ∷ []) (at 0 2 9 4 ∷ at 2 3 7 2 ∷ [])
    ∷ granted (at 1 2 7 1 ∷ []) (ask 0 0 3 9 4) (unmapped 0 (at 1 2 7 1) ∷ mapped (at 0 3 9 4) ∷ []) (at 0 3 9 4 ∷ [])
    ∷ granted (at 0 3 7 1 ∷ []) (ask 1 1 2 0 0) (remapped 0 (at 0 3 7 1) (at 0 1 7 1) (at 2 3 7 3) ∷ []) (at 0 1 7 1 ∷ at 2 3 7 3 ∷ [])
    ∷ granted (at 0 1 7 1 ∷ []) (ask 0 1 2 7 2) (mapped (at 1 2 7 2) ∷ []) (at 0 1 7 1 ∷ at 1 2 7 2 ∷ [])
    ∷ granted [] (ask 1 3 4 0 0) [] []
    ∷ refusing 8 [] (ask 0 15 17 9 0) 7
    ∷ refusing 2 (at 0 3 7 1 ∷ []) (ask 0 1 2 9 4) 11
    -- document 02: keep by displacement; below zero; not by a distance alone; two of three
    ∷ granted (at 0 2 7 1 ∷ []) (ask 0 1 2 7 2) (remapped 1 (at 0 2 7 1) (at 0 1 7 1) no_rest ∷ mapped (at 1 2 7 2) ∷ []) (at 0 1 7 1 ∷ at 1 2 7 2 ∷ [])
    ∷ granted (at 2 5 7 0 ∷ []) (ask 0 3 4 7 1) (remapped 1 (at 2 5 7 0) (at 2 3 7 0) (at 4 5 7 2) ∷ mapped (at 3 4 7 1) ∷ [])
    (at 2 3 7 0 ∷ at 3 4 7 1 ∷ at 4 5 7 2 ∷ [])
    ∷ granted (at 1 2 7 0 ∷ []) (ask 0 1 2 7 2) (unmapped 0 (at 1 2 7 0) ∷ mapped (at 1 2 7 2) ∷ []) (at 1 2 7 2 ∷ [])
    ∷ granted (at 0 1 7 1 ∷ at 1 2 9 4 ∷ at 2 3 7 3 ∷ []) (ask 0 0 3 7 1)
    (unmapped 1 (at 0 1 7 1) ∷ unmapped 0 (at 1 2 9 4) ∷ unmapped 1 (at 2 3 7 3) ∷ mapped (at 0 3 7 1) ∷ []) (at 0 3 7 1 ∷ [])
    ∷ []

abbrev pub Drawings : Type 0
Drawings = Each Drawn drawings
