-- Every line has a byte, so that a turn that prints nothing is known by its end.
-- Assumes nothing.
use mathlib.Core.Path.{◌≡◌, refl}
use mathlib.Core.Logic.{◌⊎◌, inl, inr}
use mathlib.Core.Bool.{Bool}
use mathlib.Core.List.{List, [], ◌∷◌, ◌++◌}
use Prim.Native.Nat.{ℕ, ◌≤◌}
use native.Mathlib.Omega.{arith}
use lib.ListN.{length, length-append}
use Rattle.model.specs.declared.Mapping.{Mapping}
use Rattle.model.specs.declared.Operation.{Operation}
use Rattle.model.specs.declared.Operation.TheVariants.{Map, Remap, Unmap}
use Rattle.model.specs.declared.Shown.{Shown}
use Rattle.model.specs.declared.Shown.TheVariants.{Nothing, Sparse, Object}
use Rattle.model.specs.Rows.{choose}
use Rattle.model.specs.Table.{words_of}
use Rattle.program.specs.Text.{ascii, keep_line, rest_lines, operation_lines, shown_line}
use Rattle.program.specs.Script.{Told, emptied, granted, shows, refusal, other_mark, cut, ended, lines}
use Rattle.text.specs.Lines.{phrase_of, line_of, keep_of}

line_some : (word ns : List ℕ) → 1 ≤ length (line_of word ns)
line_some word ns = omega (arith, length-append (phrase_of word ns) (10 ∷ []))

behind_some : (text line : List ℕ) → 1 ≤ length line → 1 ≤ length (text ++ line)
behind_some text line h = omega (arith, length-append text line)

before_some : (line text : List ℕ) → 1 ≤ length line → 1 ≤ length (line ++ text)
before_some line text h = omega (arith, length-append line text)

keep_some : (word : List ℕ) (keep : Bool) (m : Mapping) → 1 ≤ length (keep_of word keep m)
keep_some word keep m =
    let mark : List ℕ = choose keep 1 0 ∷ [] in
    behind_some (phrase_of word (words_of m)) (line_of (ascii " keep") mark) (line_some (ascii " keep") mark)

pub operation_some : (o : Operation) → 1 ≤ length (operation_lines o)
operation_some (Map m) = line_some (ascii "map") (words_of m)
operation_some (Remap keep m rs) = before_some (keep_line "remap" keep m) (rest_lines rs) (keep_some (ascii "remap") keep m)
operation_some (Unmap keep m) = keep_some (ascii "unmap") keep m

shown_some : (x : ℕ) (v : Shown) (n : ℕ) → 1 ≤ length (shown_line x v n)
shown_some x Nothing n = behind_some (phrase_of (ascii "at") (x ∷ [])) (line_of (ascii " none") (n ∷ [])) (line_some (ascii " none") (n ∷ []))
shown_some x Sparse n = behind_some (phrase_of (ascii "at") (x ∷ [])) (line_of (ascii " sparse") (n ∷ [])) (line_some (ascii " sparse") (n ∷ []))
shown_some x (Object object offset) n = line_some (ascii "at") (x ∷ object ∷ offset ∷ n ∷ [])

pub lines_some : (p : ℕ) (t : Told) → (t ≡ ended) ⊎ (1 ≤ length (lines p [] t))
lines_some p (emptied n) = inr (line_some (ascii "space") (n ∷ []))
lines_some p (granted g) = inr (before_some (line_of (ascii "granted") (g.operations ∷ g.count ∷ [])) _ (line_some (ascii "granted") (g.operations ∷ g.count ∷ [])))
lines_some p (shows x v) = inr (shown_some x v.shown v.bytes)
lines_some p (refusal n q) = inr (line_some (ascii "refused") (n ∷ []))
lines_some p other_mark = inr (line_some (ascii "mark") (p ∷ []))
lines_some p cut = inr (line_some (ascii "cut") (p ∷ []))
lines_some p ended = inl refl
