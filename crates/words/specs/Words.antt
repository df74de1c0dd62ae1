-- What is done to the words of a slice, as lists.
-- Assumes nothing.
use Rattle.std.specs.Prelude.{◌≡◌, List, ◌++◌, ℕ, ◌+◌, ◌-◌, length, take, drop, replicate, slice_index}

-- a run written over the elements from place `at` on
unfoldable pub stored : {A : Type 0} → List A → ℕ → List A → List A
stored ws at run = take at ws ++ (run ++ drop (at + length run) ws)

-- the n elements from `from` on copied to `to` on
unfoldable pub moved : {A : Type 0} → List A → ℕ → ℕ → ℕ → List A
moved ws from to n = stored ws to (take n (drop from ws))

-- zeros from place `from` on
unfoldable pub cleared : List ℕ → ℕ → List ℕ
cleared ws from = take from ws ++ replicate (length ws - from) 0

-- the n words from place `from` on are zero; all words from it on are
abbrev pub Zeros : List ℕ → ℕ → ℕ → Type 0
Zeros ws from n = take n (drop from ws) ≡ replicate n 0

abbrev pub ZeroFrom : List ℕ → ℕ → Type 0
ZeroFrom ws from = drop from ws ≡ replicate (length ws - from) 0

-- what those n words were joined to, in one word, is zero exactly if they are
pub record Tells (ws : List ℕ) (from n seen : ℕ) : Type 0 where
  pub words_zero : seen ≡ 0 → Zeros ws from n
  pub seen_zero : Zeros ws from n → seen ≡ 0

-- four words are zero
abbrev pub Blank : List ℕ → Type 0
Blank f = (slice_index f 0 ≡ 0) × (slice_index f 1 ≡ 0) × (slice_index f 2 ≡ 0) × (slice_index f 3 ≡ 0)

-- what they were joined to in four words, with what was joined before, is zero exactly if both are
pub record Joins (seen ws : List ℕ) (from n : ℕ) (all : List ℕ) : Type 0 where
  pub words_zero : Blank all → Blank seen × Zeros ws from n
  pub all_zero : Blank seen → Zeros ws from n → Blank all
