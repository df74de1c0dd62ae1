-- Lists of tests as facts, and back.
-- Assumes nothing.
use mathlib.Core.Path.{◌≡◌, refl, sym, subst, ◌∙◌}
use mathlib.Core.Logic.{◌⊎◌, inl, inr}
use mathlib.Core.Bool.{Bool, true, false, ◌&&◌, ◌||◌}
use mathlib.Core.List.{List, [], ◌∷◌, ◌++◌, map}
use Prim.Native.Nat.{ℕ}
use native.Mathlib.Omega.{arith}
use lib.Dec.{T, eqb, leb→le, le→leb, ltb→lt, lt→ltb, eqb→eq}
use mir.Facts.{yes_eqb}
use Rattle.model.specs.Rows.{all_from, all}
use Rattle.model.specs.Exactly.{Each}

pub eq→eqb : (a b : ℕ) → a ≡ b → T (eqb a b)
eq→eqb a b e = yes_eqb e

pub ruleset tests = (arith, leb→le, le→leb, ltb→lt, lt→ltb, eqb→eq, eq→eqb)

-- each of the tests holds
abbrev pub Alls : List Bool → Type 0
Alls [] = Unit {0}
Alls (b ∷ bs) = T b × Alls bs

pub and_both : (a b : Bool) → T (a && b) → T a × T b
and_both true b t = (tt, t)
and_both false b t = absurd t

both_and : (a b : Bool) → T a → T b → T (a && b)
both_and true b t u = u
both_and false b t u = t

pub or_cases : (a b : Bool) → T (a || b) → T a ⊎ T b
or_cases true b t = inl tt
or_cases false b t = inr t

pub or_left : (a b : Bool) → T a → T (a || b)
or_left true b t = tt
or_left false b t = absurd t

pub or_right : (a b : Bool) → T b → T (a || b)
or_right true b t = tt
or_right false b t = t

pub alls_split : (bs cs : List Bool) → Alls (bs ++ cs) → Alls bs × Alls cs
alls_split [] cs h = (tt, h)
alls_split (b ∷ bs) cs h = let k = alls_split bs cs h.1 in ((h.0, k.0), k.1)

pub alls_join : (bs cs : List Bool) → Alls bs → Alls cs → Alls (bs ++ cs)
alls_join [] cs h k = k
alls_join (b ∷ bs) cs h k = (h.0, alls_join bs cs h.1 k)

all_from_alls : (a : Bool) (bs : List Bool) → T (all_from a bs) → T a × Alls bs
all_from_alls a [] t = (t, tt)
all_from_alls a (b ∷ bs) t = let h = all_from_alls (a && b) bs t in let k = and_both a b h.0 in (k.0, (k.1, h.1))

alls_all_from : (a : Bool) (bs : List Bool) → T a → Alls bs → T (all_from a bs)
alls_all_from a [] t h = t
alls_all_from a (b ∷ bs) t h = alls_all_from (a && b) bs (both_and a b t h.0) h.1

pub all_alls : (bs : List Bool) → T (all bs) → Alls bs
all_alls [] t = tt
all_alls (b ∷ bs) t = all_from_alls b bs t

pub alls_all : (bs : List Bool) → Alls bs → T (all bs)
alls_all [] h = tt
alls_all (b ∷ bs) h = alls_all_from b bs h.0 h.1

true_of : (b : Bool) → T b → b ≡ true
true_of true t = refl
true_of false t = absurd t

false_of : (b : Bool) → (T b → ⊥) → b ≡ false
false_of true n = absurd (n tt)
false_of false n = refl

-- ── what a claim and a function's proof go by ──

pub all_facts : (bs : List Bool) → all bs ≡ true → Alls bs
all_facts bs e = all_alls bs (subst T (sym e) tt)

pub all_true : (bs : List Bool) → Alls bs → all bs ≡ true
all_true bs h = true_of (all bs) (alls_all bs h)

pub all_false : (bs : List Bool) → (Alls bs → ⊥) → all bs ≡ false
all_false bs n = false_of (all bs) (λ t. n (all_alls bs t))

pub not_facts : (bs : List Bool) → all bs ≡ false → Alls bs → ⊥
not_facts bs e h = subst T (sym (all_true bs h) ∙ e) tt

-- two lists of tests that hold together
pub all_same : (bs cs : List Bool) → (Alls bs → Alls cs) → (Alls cs → Alls bs) → all bs ≡ all cs
all_same bs cs f g = go (all bs) refl
  where
    go : (b : Bool) → all bs ≡ b → all bs ≡ all cs
    go true e = e ∙ sym (all_true cs (f (all_facts bs e)))
    go false e = e ∙ sym (all_false cs (λ h. not_facts bs e (g h)))

-- the tests hold exactly if the rule is kept
abbrev pub Says : List Bool → Type 0 → Type 0
Says bs Rule = (Alls bs → Rule) × (Rule → Alls bs)

-- a test of each
pub each_says : {A : Type 0} (f : A → Bool) (P : A → Type 0) → ((x : A) → T (f x) → P x) → ((x : A) → P x → T (f x)) → (xs : List A)
    → Says (map f xs) (Each P xs)
each_says f P to from [] = (λ h. tt, λ h. tt)
each_says f P to from (x ∷ xs) =
    let k = each_says f P to from xs in
    (λ h. (to x h.0, k.0 h.1), λ h. (from x h.0, k.1 h.1))
