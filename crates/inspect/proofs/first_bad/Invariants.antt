use Rattle.model.specs.Table.{mappings_in, bad_place}
use Rattle.inspect.proofs.Bad.{BadFrom}
use Rattle.inspect.proofs.first_bad.Given as goal

abbrev pub invariant-loop-place : goal.invariant-loop-place
invariant-loop-place l = BadFrom l.s.space l.t l.count (bad_place l.s.space 0 (mappings_in l.count l.t)) l.place l.end
