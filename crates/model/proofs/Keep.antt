-- The keep mark of each operation.
-- Assumes nothing.
use mathlib.Core.Path.{◌≡◌, refl, sym, ap, subst, ◌∙◌}
use mathlib.Core.Logic.{◌↔◌}
use mathlib.Core.Bool.{Bool, true, false}
use mathlib.Core.List.Memᴰ
use Prim.Native.Nat.{ℕ, zero, suc, ◌≤◌}
use native.Mathlib.Omega.{arith}
use lib.Dec.{T, eqb→eq}
use Rattle.model.specs.Prelude.{Mapping, Request}
use Rattle.model.specs.Rows.{choose}
use Rattle.model.specs.Rules.{stop}
use Rattle.model.specs.Cut.{lower_part, upper_part, mapping_of, keep_tests, keep_mark, operation_for, operation_of}
use Rattle.model.specs.Exactly.{Agree}
use Rattle.model.specs.Grants.{keep_word, Marked, Keep}
use Rattle.model.proofs.Tests.{eq→eqb, all_facts, all_true}
use Rattle.model.proofs.Agreement.{agree_says}
use Rattle.model.proofs.Operations.{old-one, old_only, each_operation}

abbrev pub Kept : Request → Mapping → Type 0
Kept r m = (r.op ≡ 0) × Agree m (mapping_of r)

mark_kept : (r : Request) (m : Mapping) → (keep_mark r m ≡ true) ↔ Kept r m
mark_kept r m = (
  λ e. let t = all_facts (keep_tests r m) e in (eqb→eq _ _ t.0, (agree_says m (mapping_of r)).0 t.1),
  λ h. all_true (keep_tests r m) (eq→eqb _ _ h.0, (agree_says m (mapping_of r)).1 h.1),
)

word_is : (r : Request) (m : Mapping) → keep_word (operation_of r m) ≡ choose (keep_mark r m) 1 0
word_is r m = go (lower_part r.address m).size (upper_part (stop r) m).size
  where
    go : (i j : ℕ) → keep_word (operation_for i j (keep_mark r m) m (lower_part r.address m) (upper_part (stop r) m)) ≡ choose (keep_mark r m) 1 0
    go zero zero = refl
    go (suc i) zero = refl
    go zero (suc j) = refl
    go (suc i) (suc j) = refl

-- the word of a mapping that is hit
pub word_kept : (r : Request) (m : Mapping) → (keep_word (operation_of r m) ≡ 1) ↔ Kept r m
word_kept r m = go (keep_mark r m) refl
  where
    go : (b : Bool) → keep_mark r m ≡ b → (keep_word (operation_of r m) ≡ 1) ↔ Kept r m
    go true e = (λ _. (mark_kept r m).0 e, λ _. word_is r m ∙ ap (λ (b : Bool). choose b 1 0) e)
    go false e = (
      λ w. absurd (omega (arith, w, word_is r m ∙ ap (λ (b : Bool). choose b 1 0) e)),
      λ k. absurd (subst T (sym ((mark_kept r m).1 k) ∙ e) tt),
    )

marked_operation : (r : Request) (m : Mapping) → Marked r (operation_of r m)
marked_operation r m = (
  omega (arith, word_is r m, mark_most (keep_mark r m)),
  (
    λ e. let k = (word_kept r m).0 e in (m, rw (old-one r m) (Memᴰ.head refl), k.0, k.1),
    λ h. (word_kept r m).1 (subst (Kept r) (old_only r m h.0 h.1) (h.2, h.3)),
  ),
)
  where
    mark_most : (b : Bool) → choose b 1 0 ≤ 1
    mark_most true = omega arith
    mark_most false = omega arith

pub keep_claim : Keep
keep_claim r ms = each_operation (Marked r) r ms (λ m i. marked_operation r m)
    (λ n. (omega arith, (λ e. absurd (omega (arith, e)), λ h. absurd (Memᴰ.not-nil h.1))))
