-- The refusal table as data (document 01): a call lists rows, and the first from the top that applies is the answer.
use Rattle.std.specs.Prelude.{Bool, true, false, ◌&&◌, List, [], ◌∷◌, map, ℕ}

-- all of some tests, as code has it that writes them with & between: (a & b) & c
abbrev pub all_from : Bool → List Bool → Bool
all_from a [] = a
all_from a (b ∷ bs) = all_from (a && b) bs

abbrev pub all : List Bool → Bool
all [] = true
all (b ∷ bs) = all_from b bs

abbrev pub choose : {A : Type 0} → Bool → A → A → A
choose true a b = a
choose false a b = b

-- a row applies, and refuses, unless each of its tests holds
pub record Row : Type 0 where
  pub number : ℕ
  pub place : ℕ
  pub tests : List Bool

abbrev pub row : ℕ → List Bool → Row
row n bs = record { number = n; place = 0; tests = bs }

-- rows that refuse at the place p: those of one request among several
abbrev pub placed : ℕ → List Row → List Row
placed p ws = map (λ w. record { number = w.number; place = p; tests = w.tests }) ws

-- the answer of a call: a refusal's number and place, or what was asked for
pub data Reply (A : Type 0) : Type 0 where
  refused : ℕ → ℕ → Reply A
  answered : A → Reply A

-- an answer that is one number: the refusal's, or 0
abbrev pub number_of : {A : Type 0} → Reply A → ℕ
number_of (refused n p) = n
number_of (answered a) = 0

-- the first row that applies refuses; where none does, the answer is a
unfoldable pub decide : {A : Type 0} → List Row → A → Reply A
decide [] a = answered a
decide (w ∷ ws) a = choose (all w.tests) (decide ws a) (refused w.number w.place)

abbrev pub verdict : List Row → Reply (Unit {0})
verdict ws = decide ws tt
