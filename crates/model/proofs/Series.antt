-- A series of calls, granted and refused as they come: the granted ones act one after another, the others leave the
-- state, and if the uncut request is granted only room is ever wanting. For any service that shows its laws.
-- Assumes nothing.
use mathlib.Core.Path.{◌≡◌, sym, ap, subst, ◌∙◌}
use mathlib.Core.Logic.{◌⊎◌, inl, inr}
use mathlib.Core.List.Memᴰ
use mathlib.Core.List.{List, [], ◌∷◌, ◌++◌}
use Prim.Native.Nat.{◌<◌}
use native.Mathlib.Omega.{arith}
use lib.ListN.{length}
use Rattle.model.specs.Prelude.{Space, Mapping, Request}
use Rattle.model.specs.Exactly.{◌∈◌, ◌⊆◌, Each}
use Rattle.model.specs.Demand3.{Pieces, final}
use Rattle.model.proofs.Actions.{each_mem, each_map, each_append, run, run-append}
use Rattle.model.proofs.Ask.{Asked}
use Rattle.model.proofs.Whole.{asked_pieces}
use Rattle.model.proofs.Service.{Service, ForPieces, ForWhole, GrantedIn, OnlyRoom, View, StateLaws, served, GrantLaws, CallLaws}

module _ {S C A : Type 0} (act : Request → List Mapping → List Mapping) (v : Service S C A) (w : View S) (space : Space)
    (calls : CallLaws act v w space) where
  -- ── what is granted, one after another ──

  -- the requests gs were granted from s on, and left x
  pub record Wrote (s : S) (gs : List Request) (x : S) : Type 0 where
    pub good : w.Good s
    pub asked : Each (Asked space) gs
    pub room : w.Room s (length (run act gs (w.table s)))
    pub holds : v.Holds s (run act gs (w.table s)) x

  -- nothing was granted yet, or gs were
  data Left (s : S) : List Request → S → Type 0 where
    start : Left s [] s
    wrote : {gs : List Request} {x : S} → Wrote s gs x → Left s gs x

  module _ (states : StateLaws w v.Holds v.count) where
    wrote_more : (s x : S) (gs : List Request) (c : C) → Wrote s gs x → GrantLaws act v w space x c → Wrote s (gs ++ v.asks c) (v.next x c)
    wrote_more s x gs c h g = record {
      good = h.good;
      asked = each_append (Asked space) gs (v.asks c) h.asked g.asked;
      room = subst (λ (t : List Mapping). w.Room s (length t)) both (states.room_back s x _ _ h.holds g.room);
      holds = subst (λ (t : List Mapping). v.Holds s t (v.next x c)) both (states.holds_again s x _ _ _ h.holds g.holds);
    }
      where
        both : served act v w space x c ≡ run act (gs ++ v.asks c) (w.table s)
        both = ap (run act (v.asks c)) (states.holds_table s x _ h.holds) ∙ sym (run-append act gs (v.asks c) (w.table s))

    left_grant : (s : S) {x : S} {gs : List Request} (c : C) → Left s gs x → GrantLaws act v w space x c → Left s (gs ++ v.asks c) (v.next x c)
    left_grant s c start g = wrote (record { good = g.good; asked = g.asked; room = g.room; holds = g.holds })
    left_grant s c (wrote {gs = gs} {x = x} h) g = wrote (wrote_more s x gs c h g)

    -- what a series comes to that goes on from x
    record Ran (ps : List Request) (s : S) (gs : List Request) (x : S) (cs : List C) : Type 0 where
      all : List Request
      left : Left s all (final v.next x cs)
      only : all ⊆ ps
      past : (p : Request) → p ∈ gs → p ∈ all
      every : (p : Request) → GrantedIn v x cs p → p ∈ all

    ran : (ps : List Request) (s : S) (gs : List Request) (x : S) (cs : List C) → Left s gs x → gs ⊆ ps → Each (ForPieces v ps) cs → Ran ps s gs x cs
    unfolding final
    ran ps s gs x [] l o f = record { all = gs; left = l; only = o; past = λ p m. m; every = λ p m. absurd m }
    ran ps s gs x (c ∷ cs) l o f = go (calls.refusal x c f.0.0) (λ gs l o. ran ps s gs (v.next x c) cs l o f.1)
      where
        go : v.Granted (v.answer x c) ⊎ ((v.Granted (v.answer x c) → ⊥) × (v.next x c ≡ x))
            → ((gs : List Request) → Left s gs (v.next x c) → gs ⊆ ps → Ran ps s gs (v.next x c) cs)
            → Ran ps s gs x (c ∷ cs)
        go (inl g) ih =
            let k = ih (gs ++ v.asks c) (left_grant s c l (calls.grant x c f.0.0 g))
            (each_append (λ p. p ∈ ps) gs (v.asks c) o f.0.1) in
            record {
              all = k.all;
              left = k.left;
              only = k.only;
              past = λ p m. k.past p (Memᴰ.append_left (v.asks c) m);
              every = λ p. elim [ inl h ↦ k.past p (Memᴰ.append_right gs h.0) | inr m ↦ k.every p m ];
            }
        go (inr n) ih =
            let k = ih gs (subst (Left s gs) (sym n.1) l) o in
            record {
              all = k.all;
              left = k.left;
              only = k.only;
              past = k.past;
              every = λ p. elim [ inl h ↦ absurd (n.0 h.1) | inr m ↦ k.every p m ];
            }

    -- every piece granted at least once: the requests granted are the pieces, in some order and some of them more than
    -- once
    pub record All (ps : List Request) (s : S) (cs : List C) : Type 0 where
      pub gs : List Request
      pub only : gs ⊆ ps
      pub every : ps ⊆ gs
      pub wrote : Wrote s gs (final v.next s cs)

    pub all_granted : (ps : List Request) (s : S) (cs : List C) → 0 < length ps → Each (ForPieces v ps) cs → Each (GrantedIn v s cs) ps → All ps s cs
    all_granted ps s cs n f g = record { gs = k.all; only = k.only; every = every; wrote = go ps n every k.left }
      where
        k : Ran ps s [] s cs
        k = ran ps s [] s cs start tt f

        every : ps ⊆ k.all
        every = each_map (GrantedIn v s cs) (λ p. p ∈ k.all) ps k.every g

        go : (ps : List Request) → 0 < length ps → {gs : List Request} {x : S} → ps ⊆ gs → Left s gs x → Wrote s gs x
        go [] n h l = absurd (omega arith)
        go (p ∷ ps) n h start = absurd (Memᴰ.not-nil h.0)
        go (p ∷ ps) n h (wrote w) = w

  -- ── only room is wanting ──

  good_next : (x : S) (c : C) → v.Proper c → w.Good x → w.Good (v.next x c)
  good_next x c p g = elim (calls.refusal x c p) [ inl d ↦ (calls.grant x c p d).kept | inr n ↦ subst w.Good (sym n.1) g ]

  only_room_from : (ps : List Request) (x : S) (cs : List C) → Each (Asked space) ps → Each (ForPieces v ps) cs → w.Good x → OnlyRoom v x cs
  only_room_from ps x [] a f g = tt
  only_room_from ps x (c ∷ cs) a f g = (
    calls.serves x c f.0.0 g (each_map (λ p. p ∈ ps) (Asked space) (v.asks c) (λ p m. each_mem (Asked space) ps p a m) f.0.1),
    only_room_from ps (v.next x c) cs a f.1 (good_next x c f.0.0 g),
  )

  pub only_room : (ps : List Request) (s : S) (r : Request) (c : C) (cs : List C) → Pieces r ps → ForWhole v r c → Each (ForPieces v ps) cs
      → v.Granted (v.answer s c) → OnlyRoom v s cs
  only_room ps s r c cs cut whole f ok =
      let g = calls.grant s c whole.0 ok in
      only_room_from ps s cs (asked_pieces space r ps cut (subst (Each (Asked space)) whole.2 g.asked).0) f g.good
