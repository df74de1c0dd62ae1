-- What the program tells of a record is known by its reading.
-- Assumes nothing.
use mathlib.Core.Path.{◌≡◌, refl, ap}
use Rattle.model.proofs.Pinned.{named, named_numbered, back_pins}
use Rattle.program.specs.Script.{Told, emptied, granted, shows, refusal, other_mark, cut, ended, response_told}
use Rattle.program.specs.Claims.{ResponsePinned}
use Rattle.program.specs.declared.Response.{Response}
use Rattle.program.specs.declared.Response.TheVariants.{Emptied, Granted, Shows, Refused, OtherMark, Cut, End}

abbrev response_of : Told → Response
response_of (emptied n) = Emptied n
response_of (granted g) = Granted g
response_of (shows x v) = Shows x v
response_of (refusal n p) = Refused (named n p)
response_of other_mark = OtherMark
response_of cut = Cut
response_of ended = End

response_back : (r : Response) → response_of (response_told r) ≡ r
response_back (Emptied n) = refl
response_back (Granted g) = refl
response_back (Shows x v) = refl
response_back (Refused w) = ap Refused (named_numbered w)
response_back OtherMark = refl
response_back Cut = refl
response_back End = refl

pub response_pinned : ResponsePinned
response_pinned = back_pins response_told response_of response_back
