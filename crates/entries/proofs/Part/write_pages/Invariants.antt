use Prim.Native.Nat.{◌*◌, ◌≤◌}
use lib.ListN.{length}
use Rattle.pages.specs.Pages.{entries_from}
use Rattle.entries.specs.Sizes.{Wrote}
use Rattle.entries.proofs.Part.write_pages.Given as goal

abbrev pub invariant-loop-i : goal.invariant-loop-i
invariant-loop-i l = Wrote l.initial.out l.out 0 (3 * l.i) (entries_from l.bytes l.i l.m.address l.m.offset) × (3 * l.count ≤ length l.initial.out)
