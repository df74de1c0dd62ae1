-- What is claimed of the lines: the digits of a number, and the text of each kind of line, for every number and
-- operation.
use Rattle.std.specs.Prelude.{◌≡◌, Bool, List, [], ◌∷◌, ◌++◌, ℕ, ◌+◌, ◌-◌, ◌*◌, ◌≤◌, ◌<◌, get_or}
use mathlib.Core.List.{flat_map}
use Rattle.model.specs.Rows.{choose}
use Rattle.model.specs.Exactly.{Each}
use Rattle.program.specs.Prelude.{Mapping, Lower, Upper, Both, Operation, Map, Remap, Unmap, Nothing, Sparse, Object, Grant}
use Rattle.program.specs.Text.{ascii, decimal, operation_lines}
use Rattle.program.specs.Script.{emptied, granted, shows, refusal, other_mark, cut, ended, lines}

-- the number that decimal digits say, behind the number n
abbrev pub read_decimal : ℕ → List ℕ → ℕ
read_decimal n [] = n
read_decimal n (d ∷ ds) = read_decimal (10 * n + (d - 48)) ds

-- a number's text is read back, and has digits alone, and no zero in front
pub record Decimal : Type 0 where
  pub reads_back : (n : ℕ) → read_decimal 0 (decimal n) ≡ n
  pub digits : (n : ℕ) → Each (λ d. (48 ≤ d) × (d ≤ 57)) (decimal n)
  pub one_digit : (n : ℕ) → n < 10 → decimal n ≡ (48 + n) ∷ []
  pub no_zero : (n : ℕ) → 10 ≤ n → 48 < get_or (decimal n) 0 0

-- a mapping is address, size, object, offset, a space between each two
abbrev pub fields : Mapping → List ℕ
fields m = decimal m.address ++ (ascii " " ++ (decimal m.size ++ (ascii " " ++ (decimal m.object ++ (ascii " " ++ decimal m.offset)))))

-- a remap's line, with another word an unmap's
abbrev pub keep_text : List ℕ → Mapping → ℕ → List ℕ
keep_text word m keep = word ++ (fields m ++ (ascii " keep " ++ (decimal keep ++ ascii "\n")))

abbrev pub rest_text : List ℕ → Mapping → List ℕ
rest_text word m = word ++ (fields m ++ ascii "\n")

-- the lines of an operation: its own, and one for each rest that there is, the lower first
pub record OperationTexts : Type 0 where
  pub of_map : (m : Mapping) → operation_lines (Map m) ≡ ascii "map " ++ (fields m ++ ascii "\n")
  pub of_unmap : (keep : Bool) (m : Mapping) → operation_lines (Unmap keep m) ≡ keep_text (ascii "unmap ") m (choose keep 1 0)
  pub lower_left : (keep : Bool) (m l : Mapping)
      → operation_lines (Remap keep m (Lower l)) ≡ keep_text (ascii "remap ") m (choose keep 1 0) ++ rest_text (ascii "lower ") l
  pub upper_left : (keep : Bool) (m u : Mapping)
      → operation_lines (Remap keep m (Upper u)) ≡ keep_text (ascii "remap ") m (choose keep 1 0) ++ rest_text (ascii "upper ") u
  pub both_left : (keep : Bool) (m l u : Mapping) → operation_lines (Remap keep m (Both l u))
      ≡ keep_text (ascii "remap ") m (choose keep 1 0) ++ (rest_text (ascii "lower ") l ++ rest_text (ascii "upper ") u)

-- the lines for what is told at the place p of the script, os being the operations that a granted request hands over
pub record Lines (p : ℕ) (os : List Operation) : Type 0 where
  pub of_space : (n : ℕ) → lines p os (emptied n) ≡ ascii "space " ++ (decimal n ++ ascii "\n")
  pub of_grant : (g : Grant) → lines p os (granted g)
      ≡ ascii "granted " ++ (decimal g.operations ++ (ascii " " ++ (decimal g.count ++ (ascii "\n" ++ flat_map operation_lines os))))
  pub of_nothing : (x n : ℕ) → lines p os (shows x (record { shown = Nothing; bytes = n }))
      ≡ ascii "at " ++ (decimal x ++ (ascii " none " ++ (decimal n ++ ascii "\n")))
  pub of_sparse : (x n : ℕ) → lines p os (shows x (record { shown = Sparse; bytes = n }))
      ≡ ascii "at " ++ (decimal x ++ (ascii " sparse " ++ (decimal n ++ ascii "\n")))
  pub of_object : (x object offset n : ℕ) → lines p os (shows x (record { shown = Object object offset; bytes = n }))
      ≡ ascii "at " ++ (decimal x ++ (ascii " " ++ (decimal object ++ (ascii " " ++ (decimal offset ++ (ascii " " ++ (decimal n ++ ascii "\n")))))))
  pub of_refusal : (n q : ℕ) → lines p os (refusal n q) ≡ ascii "refused " ++ (decimal n ++ ascii "\n")
  pub of_mark : lines p os other_mark ≡ ascii "mark " ++ (decimal p ++ ascii "\n")
  pub of_cut : lines p os cut ≡ ascii "cut " ++ (decimal p ++ ascii "\n")
  pub of_end : lines p os ended ≡ []

abbrev pub LineTexts : Type 0
LineTexts = (p : ℕ) (os : List Operation) → Lines p os
