-- Actions that commute and are idempotent: a list of them does what any other list of the same ones does, in whatever
-- order and however often.
-- Assumes nothing.
use mathlib.Core.Path.{◌≡◌, refl, sym, ap, subst, ◌∙◌}
use mathlib.Core.List.Memᴰ
use mathlib.Core.List.{List, [], ◌∷◌, ◌++◌}
use Rattle.model.specs.Exactly.{◌∈◌, ◌⊆◌, Each}

pub each : {A : Type 0} (P : A → Type 0) (l : List A) → ((x : A) → x ∈ l → P x) → Each P l
each P [] f = tt
each P (x ∷ xs) f = (f x (Memᴰ.head refl), each P xs (λ y m. f y (Memᴰ.tail m)))

pub each_mem : {A : Type 0} (P : A → Type 0) (l : List A) (x : A) → Each P l → x ∈ l → P x
each_mem {A = A} P [] x h x4 = elim x4 [ ]
each_mem P (y ∷ l) x h (Memᴰ.head e) = subst P (sym e) h.0
each_mem P (y ∷ l) x h (Memᴰ.tail m) = each_mem P l x h.1 m

pub each_map : {A : Type 0} (P Q : A → Type 0) (l : List A) → ((x : A) → P x → Q x) → Each P l → Each Q l
each_map P Q l f h = each Q l (λ x m. f x (each_mem P l x h m))

pub each_append : {A : Type 0} (P : A → Type 0) (l m : List A) → Each P l → Each P m → Each P (l ++ m)
each_append P [] m h k = k
each_append P (x ∷ l) m h k = (h.0, each_append P l m h.1 k)

abbrev pub run : {A T : Type 0} → (A → T → T) → List A → T → T
run act [] t = t
run act (x ∷ xs) t = run act xs (act x t)

pub run-append : {A T : Type 0} (act : A → T → T) (xs ys : List A) (t : T) → run act (xs ++ ys) t ≡ run act ys (run act xs t)
run-append act [] ys t = refl
run-append act (x ∷ xs) ys t = run-append act xs ys (act x t)

module _ {A T : Type 0} (act : A → T → T) (Ok : A → Type 0)
    (comm : (x y : A) → Ok x → Ok y → (t : T) → act x (act y t) ≡ act y (act x t))
    (idem : (x : A) → Ok x → (t : T) → act x (act x t) ≡ act x t) where
  act_run : (x : A) → Ok x → (G : List A) → Each Ok G → (t : T) → act x (run act G t) ≡ run act G (act x t)
  act_run x o [] os t = refl
  act_run x o (g ∷ G) os t = act_run x o G os.1 (act g t) ∙ ap (run act G) (comm x g o os.0 t)

  absorb : (x : A) → Ok x → (G : List A) → Each Ok G → x ∈ G → (t : T) → act x (run act G t) ≡ run act G t
  absorb x o [] os x3 t = elim x3 [ ]
  absorb x o (g ∷ G) os (Memᴰ.head e) t =
      act_run x o G os.1 (act g t)
      ∙ ap (run act G) (subst (λ (y : A). act x (act y t) ≡ act y t) e (idem x o t))
  absorb x o (g ∷ G) os (Memᴰ.tail m) t = absorb x o G os.1 m (act g t)

  absorbs : (P G : List A) → Each Ok P → Each Ok G → P ⊆ G → (t : T) → run act P (run act G t) ≡ run act G t
  absorbs [] G op og ms t = refl
  absorbs (p ∷ P) G op og ms t = ap (run act P) (absorb p op.0 G og ms.0 t) ∙ absorbs P G op.1 og ms.1 t

  run-run : (P G : List A) → Each Ok P → Each Ok G → (t : T) → run act P (run act G t) ≡ run act G (run act P t)
  run-run [] G op og t = refl
  run-run (p ∷ P) G op og t = ap (run act P) (act_run p op.0 G og t) ∙ run-run P G op.1 og (act p t)

  pub same_run : (P G : List A) → Each Ok P → Each Ok G → P ⊆ G → G ⊆ P
      → (t : T) → run act G t ≡ run act P t
  same_run P G op og pg gp t = sym (absorbs P G op og pg t) ∙ run-run P G op og t ∙ absorbs G P og op gp t
