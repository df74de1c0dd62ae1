-- The quick pass: what the joined words of the mappings before a place tell.
-- Assumes nothing.
use Rattle.std.proofs.Common.{◌≡◌, ℕ, ◌+◌, ◌*◌, ◌%◌, ◌^◌, ◌<◌, ◌≤◌, List, sym, ◌∙◌, subst, arith}
use Rattle.model.specs.declared.Mapping.{Mapping}
use Rattle.model.specs.Rules.{page, limit, most_mappings, end}
use Rattle.model.specs.Table.{mappings_in, fit_tests, bad_place}
use Rattle.model.proofs.Tests.{tests, all_facts}
use Rattle.inspect.specs.Joined.{Floor, Fits}
use Rattle.inspect.specs.Part.{up_to}
use Rattle.table.specs.Places.{mapping_at}
use Rattle.inspect.proofs.Bad.{BadFrom, bad_next, bad_end}

-- if those joined so far are clean, the last of the mappings ends at `to`; and if that is in time, all of them are in order
pub record Passed (ws : List ℕ) (n from stop place to : ℕ) : Type 0 where
  pub ends : to ≤ limit + (limit + limit) * place
  pub on_page : to % page ≡ 0
  pub good : to ≤ stop → BadFrom (up_to stop) ws n (bad_place (up_to stop) from (mappings_in n ws)) place to

pub pass_start : (ws : List ℕ) (n from stop : ℕ) → from ≤ limit → from % page ≡ 0 → Passed ws n from stop 0 from
pass_start ws n from stop h p = record { ends = omega (arith, h); on_page = p; good = λ _. record { is = omega arith } }

module _ {ws : List ℕ} {n from stop place to : ℕ} (g : Passed ws n from stop place to) where
  pub pass_next : {m : Mapping} {z : ℕ} → n ≤ most_mappings → place < n → m ≡ mapping_at ws place → (Floor to → Fits to m)
      → z ≡ end m % 2 ^ 64 → Passed ws n from stop (place + 1) z
  pass_next {m} {z} few h e joined q = record { ends = omega (arith, is, fits.ends, g.ends); on_page = omega (arith, is, fits.on_page); good = next }
    where
      floor : Floor to
      floor = record { most = omega (arith, g.ends, few, h); on_page = g.on_page }

      fits : Fits to m
      fits = joined floor

      is : z ≡ end m
      is = omega (arith, q, fits.ends, floor.most)

      next : z ≤ stop → BadFrom (up_to stop) ws n (bad_place (up_to stop) from (mappings_in n ws)) (place + 1) z
      next l =
          let t = fits.fits stop (omega (arith, is, l)) in
          let k = all_facts (fit_tests (up_to stop) to m) t in
          let before = g.good (omega (tests, is, l)) in
          subst (BadFrom (up_to stop) ws n (bad_place (up_to stop) from (mappings_in n ws)) (place + 1)) (sym is) (bad_next h e before t)

  pub pass_end : place ≡ n → to ≤ stop → bad_place (up_to stop) from (mappings_in n ws) ≡ n
  pass_end e l = sym (bad_end e (g.good l)) ∙ e
