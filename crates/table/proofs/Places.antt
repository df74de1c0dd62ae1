-- Mappings place by place, as a loop over the words meets them.
-- Assumes nothing.
use mathlib.Core.Path.{◌≡◌, refl, sym, ap, subst, ◌∙◌}
use mathlib.Core.List.{List, [], ◌∷◌}
use Prim.Native.Nat.{ℕ, zero, suc, ◌+◌, ◌*◌, ◌≤◌, ◌<◌}
use native.Mathlib.Omega.{arith}
use native.Mathlib.Numerals.{add-one}
use lib.ListN.{length, get_or, drop}
use lib.Seq.{drop-cons, drop-length, get_or-drop}
use Rattle.model.specs.declared.Mapping.{Mapping}
use Rattle.model.specs.Rules.{limit, end}
use Rattle.model.specs.Table.{mappings_in}
use Rattle.model.specs.Exactly.{Each, MappingRules, Ascends, TableRules}
use Rattle.model.proofs.Store.{length-mappings}
use Rattle.model.proofs.Chain.{Chain}
use Rattle.model.proofs.Table.{top, good_chain, chain_rules}
use Rattle.table.specs.Places.{mapping_at, Valid}

-- a place of the words behind the first mapping
place_next : (ws : List ℕ) (i : ℕ) → mapping_at (drop 4 ws) i ≡ mapping_at ws (suc i)
unfolding mapping_at
place_next ws i = λ j. record {
  address = word (4 * i) (4 * suc i) (omega arith) j;
  size = word (4 * i + 1) (4 * suc i + 1) (omega arith) j;
  object = word (4 * i + 2) (4 * suc i + 2) (omega arith) j;
  offset = word (4 * i + 3) (4 * suc i + 3) (omega arith) j;
}
  where
    word : (k l : ℕ) → 4 + k ≡ l → get_or (drop 4 ws) k 0 ≡ get_or ws l 0
    word k l e = get_or-drop 4 ws k 0 ∙ ap (λ (n : ℕ). get_or ws n 0) e

pub at_place : (n : ℕ) (ws : List ℕ) (i : ℕ) (d : Mapping) → i < n → get_or (mappings_in n ws) i d ≡ mapping_at ws i
unfolding mappings_in mapping_at
at_place zero ws i d h = absurd (omega arith)
at_place (suc n) ws zero d h = refl
at_place (suc n) ws (suc i) d h = at_place n (drop 4 ws) i d (omega arith) ∙ place_next ws i

-- the mappings from place i on: the one at i, and those from the next on
pub from_place : (ws : List ℕ) (n i : ℕ) (m : Mapping) → i < n → m ≡ mapping_at ws i
    → drop i (mappings_in n ws) ≡ m ∷ drop (i + 1) (mappings_in n ws)
from_place ws n i m h e =
    let l : i < length (mappings_in n ws) = omega (arith, length-mappings n ws) in
    rw (add-one i) (drop-cons (mappings_in n ws) i m l ∙ ap (λ (k : Mapping). k ∷ drop (suc i) (mappings_in n ws)) (at_place n ws i m h ∙ sym e))

-- from behind the last on there is none
pub from_end : (ws : List ℕ) (n i : ℕ) → i ≡ n → drop i (mappings_in n ws) ≡ []
from_end ws n i e = ap (λ (k : ℕ). drop k (mappings_in n ws)) (e ∙ sym (length-mappings n ws)) ∙ drop-length (mappings_in n ws)

-- ── a table that passed its check ──

pub each_at : {A : Type 0} (P : A → Type 0) (xs : List A) (i : ℕ) (d : A) → Each P xs → i < length xs → P (get_or xs i d)
each_at P [] i d h l = absurd (omega arith)
each_at P (x ∷ xs) zero d h l = h.0
each_at P (x ∷ xs) (suc i) d h l = each_at P xs i d h.1 (omega arith)

module _ {ws : List ℕ} {n : ℕ} (v : Valid ws n) where
  pub valid_chain : Chain v.space 0 (top v.space) (mappings_in n ws)
  valid_chain = good_chain v.space (mappings_in n ws) (v.kept ∙ sym (length-mappings n ws))

  pub valid_rules : TableRules v.space (mappings_in n ws)
  valid_rules = chain_rules v.space 0 (top v.space) (mappings_in n ws) valid_chain

  pub valid_ascends : Ascends (mappings_in n ws)
  valid_ascends = valid_rules.1

  pub rules_at : {m : Mapping} (i : ℕ) → i < n → m ≡ mapping_at ws i → MappingRules v.space m
  rules_at {m} i h e =
      let l : i < length (mappings_in n ws) = omega (arith, length-mappings n ws) in
      let f = each_at (MappingRules v.space) (mappings_in n ws) i m valid_rules.0 l in
      subst (MappingRules v.space) (at_place n ws i m h ∙ sym e) f

  -- no sum of a mapping in it is large
  pub valid_at : {m : Mapping} (i : ℕ) → i < n → m ≡ mapping_at ws i → (end m ≤ limit) × (m.offset + m.size ≤ limit)
  valid_at {m} i h e =
      let g = rules_at i h e in
      (omega (arith, g.within, v.top), g.offset_end_most)
