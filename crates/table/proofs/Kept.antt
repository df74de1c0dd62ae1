-- A table that keeps its rules in some space keeps them in the widest one.
-- Assumes nothing.
use Rattle.std.proofs.Common.{◌≡◌, ℕ, suc, ◌+◌, ◌*◌, ◌≤◌, Bool, true, false, List, [], ◌∷◌, length, refl, sym, ◌∙◌, subst, arith}
use Rattle.model.specs.declared.Mapping.{Mapping}
use Rattle.model.specs.declared.Space.{Space}
use Rattle.model.specs.Rows.{all, choose}
use Rattle.model.specs.Rules.{limit, end}
use Rattle.model.specs.Table.{mappings_in, fit_tests, bad_place}
use Rattle.model.proofs.Store.{length-mappings}
use Rattle.model.proofs.Table.{top}
use Rattle.model.proofs.Tests.{tests, all_facts, all_true}
use Rattle.table.specs.Places.{widest, Valid, ValidIn, KeptIn}

widest_rules : (s : Space) (from : ℕ) (ms : List Mapping) → top s ≤ limit → bad_place s from ms ≡ length ms → bad_place widest from ms ≡ length ms
unfolding bad_place
widest_rules s from [] h e = refl
widest_rules s from (m ∷ ms) h e = go (all (fit_tests s from m)) refl e (widest_rules s (end m) ms h)
  where
    go : (b : Bool) → all (fit_tests s from m) ≡ b → choose b (suc (bad_place s (end m) ms)) 0 ≡ suc (length ms)
        → (bad_place s (end m) ms ≡ length ms → bad_place widest (end m) ms ≡ length ms)
        → choose (all (fit_tests widest from m)) (suc (bad_place widest (end m) ms)) 0 ≡ suc (length ms)
    go true q e ih =
        let k = all_facts (fit_tests s from m) q in
        let t : all (fit_tests widest from m) ≡ true = all_true (fit_tests widest from m) (omega (tests, h)) in
        rw (t, choose) (omega (arith, ih (omega (arith, e))))
    go false q e ih = absurd (omega (arith, e))

pub widest_kept : {ws : List ℕ} {n : ℕ} → Valid ws n → bad_place widest 0 (mappings_in n ws) ≡ n
widest_kept {ws} {n} v =
    let l = length-mappings n ws in
    widest_rules v.space 0 (mappings_in n ws) v.top (v.kept ∙ sym l) ∙ l

pub kept_valid : {ws : List ℕ} {n : ℕ} → 4 * n ≤ length ws → bad_place widest 0 (mappings_in n ws) ≡ n → Valid ws n
kept_valid held kept = record { held = held; space = widest; top = omega arith; kept = kept }

-- the same in a given space, of the mappings as a table holds them
pub kept_in : {s : Space} {ws : List ℕ} {n : ℕ} {ms : List Mapping} → ms ≡ mappings_in n ws → ValidIn s ws n → KeptIn s ms
kept_in {s} {ws} {n} {ms} e w =
    rw e (
      subst (λ (k : Space). k.start + k.size ≤ limit) w.1 w.0.top,
      subst (λ (k : Space). bad_place k 0 (mappings_in n ws) ≡ n) w.1 w.0.kept ∙ sym (length-mappings n ws),
    )

pub valid_in : {s : Space} {ws : List ℕ} {n : ℕ} → 4 * n ≤ length ws → KeptIn s (mappings_in n ws) → ValidIn s ws n
valid_in {s} {ws} {n} held k = (record { held = held; space = s; top = k.0; kept = k.1 ∙ length-mappings n ws }, refl)
