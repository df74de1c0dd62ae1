-- Text written into a slice, and the lines as code has them: a word as bytes.
-- Assumes nothing.
use Rattle.std.specs.Prelude.{◌≡◌, Bool, List, [], ◌∷◌, ◌++◌, ℕ, ◌+◌, ◌≤◌, length}
use Rattle.model.specs.declared.Mapping.{Mapping}
use Rattle.model.specs.Rows.{choose}
use Rattle.model.specs.Table.{words_of}
use Rattle.program.specs.Text.{spaced, phrase, line}
use Rattle.words.specs.Words.{stored}
use Rattle.text.specs.declared.Lines.{Lines}

-- there is room for so many bytes more
abbrev pub HasRoom : Lines → ℕ → Type 0
HasRoom l n = l.end + n ≤ length l.out.now

-- the bytes `run`, at most so many, written behind those that stand
pub record Adds (before : Lines) (run : List ℕ) (most : ℕ) (after : Lines) : Type 0 where
  pub bytes : after.out.now ≡ stored before.out.now before.end run
  pub behind : after.end ≡ before.end + length run
  pub within : length run ≤ most
  pub same_length : length after.out.now ≡ length before.out.now
  pub same_slice : after.out.ghost_name ≡ before.out.ghost_name

-- the model's phrase and line, of a word's bytes
abbrev pub phrase_of : List ℕ → List ℕ → List ℕ
phrase_of word ns = word ++ spaced ns

abbrev pub line_of : List ℕ → List ℕ → List ℕ
line_of word ns = phrase_of word ns ++ (10 ∷ [])

-- the model's line with a keep mark
abbrev pub keep_of : List ℕ → Bool → Mapping → List ℕ
keep_of word keep m = phrase_of word (words_of m) ++ line " keep" (choose keep 1 0 ∷ [])

-- the model's line of an address in no mapping
abbrev pub bare_of : ℕ → List ℕ → ℕ → List ℕ
bare_of x word n = phrase "at" (x ∷ []) ++ line_of word (n ∷ [])
