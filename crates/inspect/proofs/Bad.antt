-- The exact pass, mapping by mapping: what it is to answer is i and the bad place from i on, where the mapping at i has
-- to start at `from` or behind.
-- Assumes nothing.
use Rattle.std.proofs.Common.{◌≡◌, ℕ, suc, ◌+◌, ◌<◌, true, false, List, drop, ap, arith}
use Rattle.model.specs.declared.Mapping.{Mapping}
use Rattle.model.specs.declared.Space.{Space}
use Rattle.model.specs.Rows.{all, choose}
use Rattle.model.specs.Rules.{end}
use Rattle.model.specs.Table.{mappings_in, fit_tests, bad_place}
use Rattle.table.specs.Places.{mapping_at}
use Rattle.table.proofs.Places.{from_place, from_end}

pub record BadFrom (s : Space) (ws : List ℕ) (n answer i from : ℕ) : Type 0 where
  pub is : answer ≡ i + bad_place s from (drop i (mappings_in n ws))

module _ {s : Space} {ws : List ℕ} {n answer i from : ℕ} where
  module _ {m : Mapping} (h : i < n) (e : m ≡ mapping_at ws i) (g : BadFrom s ws n answer i from) where
    here : bad_place s from (drop i (mappings_in n ws))
        ≡ choose (all (fit_tests s from m)) (suc (bad_place s (end m) (drop (i + 1) (mappings_in n ws)))) 0
    unfolding bad_place
    here = ap (bad_place s from) (from_place ws n i m h e)

    pub bad_next : all (fit_tests s from m) ≡ true → BadFrom s ws n answer (i + 1) (end m)
    bad_next t = record { is = omega (arith, g.is, rw (t, choose) at here) }

    pub bad_here : all (fit_tests s from m) ≡ false → i ≡ answer
    bad_here t = omega (arith, g.is, rw (t, choose) at here)

  pub bad_end : i ≡ n → BadFrom s ws n answer i from → i ≡ answer
  unfolding bad_place
  bad_end e g = omega (arith, g.is, ap (bad_place s from) (from_end ws n i e))
