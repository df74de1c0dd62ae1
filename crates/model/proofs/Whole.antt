-- A request may be asked of a space exactly if each of its pieces may, in whatever order they come.
-- Assumes nothing.
use mathlib.Core.List.{List}
use Rattle.model.specs.Prelude.{Space, Request}
use Rattle.model.specs.Exactly.{Each}
use Rattle.model.specs.Demand3.{Pieces}
use Rattle.model.proofs.Actions.{each, each_mem}
use Rattle.model.proofs.Cuts.{pieces}
use Rattle.model.proofs.Sort.{Sorted, sorted}
use Rattle.model.proofs.Ask.{Asked, pieces_whole, whole_pieces}

module _ (s : Space) (r : Request) (ps : List Request) (cut : Pieces r ps) where
  sort : Sorted r r.address ps
  sort = sorted r ps cut

  pub asked-whole : Each (Asked s) ps → Asked s r
  asked-whole a = pieces_whole s r sort.cuts sort.cut
      (each (Asked s) (pieces r sort.cuts) (λ p m. each_mem (Asked s) ps p a (sort.back p m)))

  pub asked_pieces : Asked s r → Each (Asked s) ps
  asked_pieces a = each (Asked s) ps
      (λ p m. each_mem (Asked s) (pieces r sort.cuts) p (whole_pieces s r sort.cuts sort.cut a) (sort.onto p m))
