-- A Result is known by its reading: the refusals in the order of their numbers give it back.
-- Assumes nothing.
use mathlib.Core.Path.{◌≡◌, refl, sym, ap, ◌∙◌}
use mathlib.Core.List.{List, [], ◌∷◌}
use Prim.Native.Nat.{ℕ, ◌-◌}
use lib.ListN.{get_or}
use Rattle.std.specs.Prelude.{Result, Ok, Err}
use Rattle.model.specs.Rows.{Reply, refused, answered}
use Rattle.model.specs.Calls.{numbered, reply_of}
use Rattle.model.specs.Exactly.{Pins, Pinned}
use Rattle.model.specs.declared.Refusal.{Refusal}
use Rattle.model.specs.declared.Refusal.TheVariants.{BadSpace, BadTableLength, ShortOperations, BadCount, BadMapping, Unaligned, OutsideSpace, Reserved, BadObject, BadOffset, NoRoom, BadRecordLength, BadOp, BadFlags, BadWorkLength, ShortOutput, StaleWords, BadRanges, RangeOverlaps, NoSuchRange}

abbrev pub refusals : ℕ → List Refusal
refusals p =
    BadSpace ∷ BadTableLength ∷ ShortOperations ∷ BadCount ∷ BadMapping p
    ∷ Unaligned ∷ OutsideSpace ∷ Reserved ∷ BadObject ∷ BadOffset ∷ NoRoom
    ∷ BadRecordLength ∷ BadOp ∷ BadFlags ∷ BadWorkLength ∷ ShortOutput
    ∷ StaleWords ∷ BadRanges ∷ RangeOverlaps ∷ NoSuchRange ∷ []

abbrev pub named : ℕ → ℕ → Refusal
named n p = get_or (refusals p) (n - 1) BadSpace

pub named_numbered : (w : Refusal) → named (numbered w).0 (numbered w).1 ≡ w
named_numbered BadSpace = refl
named_numbered BadTableLength = refl
named_numbered ShortOperations = refl
named_numbered BadCount = refl
named_numbered (BadMapping p) = refl
named_numbered Unaligned = refl
named_numbered OutsideSpace = refl
named_numbered Reserved = refl
named_numbered BadObject = refl
named_numbered BadOffset = refl
named_numbered NoRoom = refl
named_numbered BadRecordLength = refl
named_numbered BadOp = refl
named_numbered BadFlags = refl
named_numbered BadWorkLength = refl
named_numbered ShortOutput = refl
named_numbered StaleWords = refl
named_numbered BadRanges = refl
named_numbered RangeOverlaps = refl
named_numbered NoSuchRange = refl

-- the Result of a reply
abbrev result_of : {A : Type 0} → Reply A → Result A Refusal
result_of (refused n p) = Err (named n p)
result_of (answered a) = Ok a

read_back : {A : Type 0} (r : Result A Refusal) → result_of (reply_of r) ≡ r
read_back (Ok a) = refl
read_back (Err w) = ap Err (named_numbered w)

pub back_pins : {A B : Type 0} (read : A → B) (back : B → A) → ((a : A) → back (read a) ≡ a) → Pins read
back_pins read back same a b e = sym (same a) ∙ ap back e ∙ same b

pub pinned : {A : Type 0} → Pinned A
pinned = back_pins reply_of result_of read_back
