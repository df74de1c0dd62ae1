-- Demand 3 of single calls alone, which is `model`'s claim, is the case of a series without batches.
-- Assumes nothing.
use mathlib.Core.Path.{◌≡◌, refl, sym, subst, ◌∙◌}
use mathlib.Core.Logic.{◌⊎◌, inl, inr}
use mathlib.Core.List.Memᴰ
use mathlib.Core.List.{List, [], ◌∷◌, map}
use Prim.Native.Nat.{ℕ}
use lib.ListN.{length}
use Rattle.model.specs.Calls.{asked, Lent}
use Rattle.model.specs.Exactly.{Each, ◌∈◌, ◌⊆◌, refusal}
use Rattle.model.specs.Demand3.{final, Somewhere, Everywhere, Call, Asks, answer_to, left_of, IsGrant, Replaced, Demand3 as OfSingle}
use Rattle.model.proofs.Actions.{each_map}
use Rattle.batches.specs.Prelude.{Space, Request}
use Rattle.batches.specs.Demand3.{single, answer_to_any, left_by_any, Lends, asks, Wants, Demand3}

module _ (s : Space) where
  final_single : (l : Lent) (cs : List Call) → final (left_by_any s) l (map single cs) ≡ final (left_of s) l cs
  unfolding final
  final_single l [] = refl
  final_single l (c ∷ cs) = final_single (left_of s l c) cs

  module _ (n L : ℕ) (ps : List Request) where
    each_asks : (cs : List Call) → Each (λ d. (p : Request) × p ∈ ps × Asks n p d) cs → Each (λ d. Lends n d × asks L d ⊆ ps) (map single cs)
    each_asks [] h = tt
    each_asks (c ∷ cs) ((p, m, w), h) = (((w.0, w.2), (subst (λ (q : Request). q ∈ ps) (sym w.1) m, tt)), each_asks cs h)

  module _ (L : ℕ) where
    somewhere_single : (p : Request) (l : Lent) (cs : List Call)
        → Somewhere (left_of s) (λ k d. (asked d.asking ≡ p) × IsGrant (answer_to s k d)) l cs
        → Somewhere (left_by_any s) (λ k d. p ∈ asks L d × IsGrant (answer_to_any s k d)) l (map single cs)
    somewhere_single p l [] h = h
    somewhere_single p l (c ∷ cs) (inl h) = inl (Memᴰ.head (sym h.0), h.1)
    somewhere_single p l (c ∷ cs) (inr h) = inr (somewhere_single p (left_of s l c) cs h)

    everywhere_single : (l : Lent) (cs : List Call)
        → Everywhere (left_by_any s) (λ k d. IsGrant (answer_to_any s k d) ⊎ Wants L d (answer_to_any s k d)) l (map single cs)
        → Everywhere (left_of s) (λ k d. IsGrant (answer_to s k d) ⊎ (answer_to s k d ≡ refusal 11)) l cs
    everywhere_single l [] h = tt
    everywhere_single l (c ∷ cs) h = (h.0, everywhere_single (left_of s l c) cs h.1)

pub base : Demand3 → OfSingle
base claim s l r ps c series off cut whole parts =
    let d = claim s l r ps c (map single series) off cut whole (each_asks s n L ps series parts) in (
      λ every.
          let g = d.0 (each_map Granted GrantedIn ps (λ p h. somewhere_single s L p l series h) every) in (
            g.0,
            λ e. subst (Replaced l r ps (left_of s l c)) (final_single s l series) (g.1 e),
            λ e. sym (final_single s l series) ∙ g.2 e,
          ),
      λ g. everywhere_single s L l series (d.1 g),
    )
  where
    n : ℕ
    n = length c.operations

    L : ℕ
    L = length l.table.words

    Granted : Request → Type 0
    Granted p = Somewhere (left_of s) (λ k d. (asked d.asking ≡ p) × IsGrant (answer_to s k d)) l series

    GrantedIn : Request → Type 0
    GrantedIn p = Somewhere (left_by_any s) (λ k d. p ∈ asks L d × IsGrant (answer_to_any s k d)) l (map single series)
