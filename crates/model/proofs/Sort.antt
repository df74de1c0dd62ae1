-- Requests that are pieces of another, in any order, are its pieces at some ascending addresses.
-- Assumes nothing.
use mathlib.Core.Path.{◌≡◌, refl, sym, ap, subst, ◌∙◌}
use mathlib.Core.Logic.{◌⊎◌, inl, inr}
use mathlib.Core.List.Memᴰ
use mathlib.Core.List.{List, [], ◌∷◌}
use Prim.Native.Nat.{ℕ, zero, suc, ◌≤◌, ◌<◌}
use native.Mathlib.Omega.{arith}
use lib.ListN.{length}
use Rattle.model.specs.Prelude.{Request}
use Rattle.model.specs.Rules.{stop}
use Rattle.model.specs.Exactly.{◌∈◌, Each, Ordered, Multiple, Inside}
use Rattle.model.specs.Demand3.{piece, Pieces}
use Rattle.model.proofs.Numbers.{order}
use Rattle.model.proofs.Actions.{each_mem}
use Rattle.model.proofs.Cuts.{Apart, pieces_from, CutsFrom}

-- ── a list with one of its members taken out ──

module _ {A : Type 0} where
  data Pick (x : A) : List A → List A → Type 0 where
    here : {l : List A} → Pick x (x ∷ l) l
    there : {y : A} {l k : List A} → Pick x l k → Pick x (y ∷ l) (y ∷ k)

  pick : (x : A) (l : List A) → x ∈ l → (k : List A) × Pick x l k
  pick x [] x'' = elim x'' [ ]
  pick x (y ∷ l) (Memᴰ.head e) = subst (λ (z : A). (k : List A) × Pick x (z ∷ l) k) e (l, here)
  pick x (y ∷ l) (Memᴰ.tail m) = let p = pick x l m in (y ∷ p.0, there p.1)

  pick_in : {x : A} {l k : List A} → Pick x l k → (y : A) → y ∈ k → y ∈ l
  pick_in here y m = Memᴰ.tail m
  pick_in (there p) y (Memᴰ.head e) = Memᴰ.head e
  pick_in (there p) y (Memᴰ.tail m) = Memᴰ.tail (pick_in p y m)

  pick_out : {x : A} {l k : List A} → Pick x l k → (y : A) → y ∈ l → (y ≡ x) ⊎ y ∈ k
  pick_out here y (Memᴰ.head e) = inl e
  pick_out here y (Memᴰ.tail m) = inr m
  pick_out (there p) y (Memᴰ.head e) = inr (Memᴰ.head e)
  pick_out {x} (there {y = z} {k = k} p) y (Memᴰ.tail m) = go (pick_out p y m)
    where
      go : (y ≡ x) ⊎ y ∈ k → (y ≡ x) ⊎ y ∈ (z ∷ k)
      go (inl e) = inl e
      go (inr n) = inr (Memᴰ.tail n)

  pick_length : {x : A} {l k : List A} → Pick x l k → length l ≡ suc (length k)
  pick_length here = refl
  pick_length (there p) = ap suc (pick_length p)

  pick_each : {x : A} {l k : List A} → Pick x l k → (P : A → Type 0) → Each P l → P x × Each P k
  pick_each here P h = h
  pick_each (there p) P h = let j = pick_each p P h.1 in (j.0, (h.0, j.1))

  pick_ordered : {x : A} {l k : List A} → Pick x l k → (R : A → A → Type 0) → ((y z : A) → R y z → R z y) → Ordered R l → Each (R x) k × Ordered R k
  pick_ordered here R back h = h
  pick_ordered {x} (there {y = y} p) R back h =
      let j = pick_each p (R y) h.0 in
      let i = pick_ordered p R back h.1 in
      ((back y x j.0, i.0), (j.1, i.1))

  no_member : (l : List A) → ((x : A) → x ∈ l → ⊥) → length l ≡ 0
  no_member [] f = refl
  no_member (x ∷ l) f = absurd (f x (Memᴰ.head refl))

-- ── the first piece, and the others ──

apart_back : (p q : Request) → Apart p q → Apart q p
apart_back p q (inl h) = inr h
apart_back p q (inr h) = inl h

-- some of ps covers the address x
abbrev Covers : ℕ → List Request → Type 0
Covers x ps = (p : Request) × p ∈ ps × (p.address ≤ x) × (x < stop p)

-- ps are pieces of r that make up what it has from an address on
record Rest (r : Request) (from : ℕ) (ps : List Request) : Type 0 where
  not_empty : (p : Request) → p ∈ ps → 0 < p.size
  part : (p : Request) → p ∈ ps → p ≡ piece r p.address (stop p)
  apart : Ordered Apart ps
  inside : (p : Request) → p ∈ ps → Inside p.address (stop p) from (stop r)
  whole : (x : ℕ) → from ≤ x → x < stop r → Covers x ps
  meet : (p q : Request) → p ∈ ps → q ∈ ps → stop p ≡ q.address → Multiple q.address

-- such requests are those at some cuts
pub record Sorted (r : Request) (from : ℕ) (ps : List Request) : Type 0 where
  pub cuts : List ℕ
  pub cut : CutsFrom r from cuts
  pub onto : (p : Request) → p ∈ ps → p ∈ pieces_from r from cuts
  pub back : (p : Request) → p ∈ pieces_from r from cuts → p ∈ ps
  pub number : length ps ≡ suc (length cuts)

-- p is the first piece, and qs are the others
module _ (r : Request) (from : ℕ) (ps : List Request) (m : Rest r from ps) (p : Request) (mem : p ∈ ps) (at : p.address ≡ from)
    (qs : List Request) (pk : Pick p ps qs) where
  -- the others stand behind it
  behind : (x : Request) → x ∈ qs → stop p ≤ x.address
  behind x n =
      go (each_mem (Apart p) qs x (pick_ordered pk Apart apart_back m.apart).0 n) (m.inside x (pick_in pk x n)) (m.not_empty x (pick_in pk x n))
    where
      go : Apart p x → Inside x.address (stop x) from (stop r) → 0 < x.size → stop p ≤ x.address
      go (inl h) k l = h
      go (inr h) k l = omega (arith, h, k, l, at)

  is_piece : p ≡ piece r from (stop p)
  is_piece = m.part p mem ∙ ap (λ (a : ℕ). piece r a (stop p)) at

  last : stop r ≤ stop p → Sorted r from ps
  unfolding pieces_from
  last h = record {
    cuts = [];
    cut = omega (arith, at, m.not_empty p mem, m.inside p mem);
    onto = λ x n. onto x (pick_out pk x n);
    back = λ x n. back x n;
    number = omega (arith, pick_length pk, no_member qs none);
  }
    where
      end : stop p ≡ stop r
      end = omega (arith, h, m.inside p mem)

      it : p ≡ piece r from (stop r)
      it = is_piece ∙ ap (piece r from) end

      none : (x : Request) → x ∈ qs → ⊥
      none x n = omega (arith, behind x n, m.not_empty x (pick_in pk x n), m.inside x (pick_in pk x n), end)

      onto : (x : Request) → (x ≡ p) ⊎ x ∈ qs → x ∈ (piece r from (stop r) ∷ [])
      onto x (inl e) = Memᴰ.head (e ∙ it)
      onto x (inr n) = absurd (none x n)

      back : (x : Request) → x ∈ (piece r from (stop r) ∷ []) → x ∈ ps
      back x (Memᴰ.head e) = subst (λ (y : Request). y ∈ ps) (sym (e ∙ sym it)) mem
      back x (Memᴰ.tail n) = elim n [ ]

  others : Rest r (stop p) qs
  others = record {
    not_empty = λ x n. m.not_empty x (pick_in pk x n);
    part = λ x n. m.part x (pick_in pk x n);
    apart = (pick_ordered pk Apart apart_back m.apart).1;
    inside = λ x n. (behind x n, (m.inside x (pick_in pk x n)).1);
    whole = λ x k l. whole x k (m.whole x (omega (arith, k, at)) l);
    meet = λ x y n o. m.meet x y (pick_in pk x n) (pick_in pk y o);
  }
    where
      whole : (x : ℕ) → stop p ≤ x → Covers x ps → Covers x qs
      whole x k w = go (pick_out pk w.0 w.1)
        where
          go : (w.0 ≡ p) ⊎ w.0 ∈ qs → Covers x qs
          go (inl e) = absurd (omega (arith, k, w.3, ap stop e))
          go (inr n) = (w.0, n, w.2, w.3)

  more : stop p < stop r → Sorted r (stop p) qs → Sorted r from ps
  unfolding pieces_from
  more h f = record {
    cuts = stop p ∷ f.cuts;
    cut = (omega (arith, at, m.not_empty p mem), meet (others.whole (stop p) (omega arith) h), f.cut);
    onto = λ x n. onto x (pick_out pk x n);
    back = λ x n. back x n;
    number = omega (arith, pick_length pk, f.number);
  }
    where
      meet : Covers (stop p) qs → Multiple (stop p)
      meet w =
          let e : stop p ≡ w.0.address = omega (arith, w.2, behind w.0 w.1) in
          subst Multiple (sym e) (m.meet p w.0 mem (pick_in pk w.0 w.1) e)

      onto : (x : Request) → (x ≡ p) ⊎ x ∈ qs → x ∈ (piece r from (stop p) ∷ pieces_from r (stop p) f.cuts)
      onto x (inl e) = Memᴰ.head (e ∙ is_piece)
      onto x (inr n) = Memᴰ.tail (f.onto x n)

      back : (x : Request) → x ∈ (piece r from (stop p) ∷ pieces_from r (stop p) f.cuts) → x ∈ ps
      back x (Memᴰ.head e) = subst (λ (y : Request). y ∈ ps) (sym (e ∙ sym is_piece)) mem
      back x (Memᴰ.tail n) = pick_in pk x (f.back x n)

-- the piece that covers the first address is the first; k counts the pieces left
sort : (k : ℕ) (r : Request) (from : ℕ) (ps : List Request) → length ps ≡ k → from < stop r → Rest r from ps → Sorted r from ps
sort zero r from ps e h m =
    let w = m.whole from (omega arith) h in
    absurd (omega (arith, e, pick_length (pick w.0 ps w.1).1))
sort (suc k) r from ps e h m = go (order (stop r) (stop p))
    (λ l. sort k r (stop p) qs (omega (arith, e, pick_length pk)) l (others r from ps m p w.1 at qs pk))
  where
    w : Covers from ps
    w = m.whole from (omega arith) h

    p : Request
    p = w.0

    at : p.address ≡ from
    at = omega (arith, w.2, m.inside p w.1)

    qs : List Request
    qs = (pick p ps w.1).0

    pk : Pick p ps qs
    pk = (pick p ps w.1).1

    go : (stop r ≤ stop p) ⊎ (stop p < stop r) → (stop p < stop r → Sorted r (stop p) qs) → Sorted r from ps
    go (inl l) ih = last r from ps m p w.1 at qs pk l
    go (inr l) ih = more r from ps m p w.1 at qs pk l (ih l)

-- some piece is not empty, and so the request is not
whole-not_empty : (r : Request) (ps : List Request) → Pieces r ps → 0 < r.size
whole-not_empty r [] m = absurd (omega (arith, m.one_or_more))
whole-not_empty r (p ∷ ps) m = let h : p ∈ (p ∷ ps) = Memᴰ.head refl in omega (arith, m.not_empty p h, m.inside p h)

pub sorted : (r : Request) (ps : List Request) → Pieces r ps → Sorted r r.address ps
sorted r ps m = sort (length ps) r r.address ps refl (omega (arith, whole-not_empty r ps m)) rest
  where
    rest : Rest r r.address ps
    rest = record { not_empty = m.not_empty; part = m.part; apart = m.apart; inside = m.inside; whole = m.whole; meet = m.meet }
