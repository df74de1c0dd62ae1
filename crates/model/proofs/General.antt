-- Demand 3 of every service of cuts that shows its laws: cuts that share no byte commute, one that is repeated changes
-- nothing, and those that touch chain.
-- Assumes nothing.
use mathlib.Core.Path.{◌≡◌, sym, ap, subst, ◌∙◌}
use mathlib.Core.List.{List, [], ◌∷◌, map, flat_map}
use Prim.Native.Nat.{ℕ, ◌+◌}
use native.Mathlib.Omega.{arith}
use lib.ListN.{length, length-append, length-map}
use Rattle.model.specs.Prelude.{Space, Mapping, Request}
use Rattle.model.specs.Rules.{stop}
use Rattle.model.specs.Cut.{below, above, put, mapping_of, new, after}
use Rattle.model.specs.Exactly.{◌∈◌}
use Rattle.model.specs.Demand3.{Pieces, final}
use Rattle.model.proofs.Actions.{each, each_mem, each_map, run}
use Rattle.model.proofs.New.{new-map, new_unmap}
use Rattle.model.proofs.Cuts.{pieces}
use Rattle.model.proofs.Pieces.{any_order, pieces_ascending, news_map, news_unmap, pieces_length, news_enough}
use Rattle.model.proofs.Sort.{Sorted, sorted}
use Rattle.model.proofs.Ask.{Asked}
use Rattle.model.proofs.Whole.{asked-whole}
use Rattle.model.proofs.Service.{Service, ForWhole, InPlace, ServiceDemand3, View, StateLaws, CallLaws}
use Rattle.model.proofs.Series.{All, all_granted, only_room}

length-put : (a b : ℕ) (new t : List Mapping) → length (put a b new t) ≡ length (below a t) + (length new + length (above b t))
length-put a b new t = simp length-append

module _ {S C A : Type 0} (v : Service S C A) (w : View S) (space : Space)
    (calls : CallLaws after v w space) (states : StateLaws w v.Holds v.count) where
  -- each piece granted at least once
  module _ (s : S) (r : Request) (ps : List Request) (c : C) (cs : List C) (cut : Pieces r ps) (whole : ForWhole v r c)
      (all : All after v w space calls states ps s cs) where
    abbrev t : List Mapping
    t = w.table s

    sort : Sorted r r.address ps
    sort = sorted r ps cut

    abbrev parts : List Request
    parts = pieces r sort.cuts

    as_cut : run after all.gs t ≡ put r.address (stop r) (flat_map new parts) t
    as_cut = any_order r sort.cuts sort.cut all.gs
        (each_map (λ p. p ∈ ps) (λ p. p ∈ parts) all.gs sort.onto all.only)
        (each (λ p. p ∈ all.gs) parts (λ p m. each_mem (λ p. p ∈ all.gs) ps p all.every (sort.back p m))) t

    asked : Asked space r
    asked = asked-whole space r ps cut
        (each_map (λ p. p ∈ all.gs) (Asked space) ps (λ p m. each_mem (Asked space) all.gs p all.wrote.asked m) all.every)

    room : w.Room s (length (after r t))
    room = states.room_less s _ _ (omega (
      arith,
      length-put r.address (stop r) (new r) t,
      length-put r.address (stop r) (flat_map new parts) t,
      ap length as_cut,
      news_enough r sort.cuts,
    )) all.wrote.room

    granted : v.Granted (v.answer s c)
    granted = calls.single s c r whole all.wrote.good asked room

    uncut_holds : v.Holds s (after r t) (v.next s c)
    uncut_holds = subst (λ (rs : List Request). v.Holds s (run after rs t) (v.next s c)) whole.2 (calls.grant s c whole.0 granted).holds

    series_holds : v.Holds s (put r.address (stop r) (flat_map new parts) t) (final v.next s cs)
    series_holds = subst (λ (u : List Mapping). v.Holds s u (final v.next s cs)) as_cut all.wrote.holds

    mapped : r.op ≡ 0 → InPlace v s r ps (v.next s c) (final v.next s cs)
    mapped e = record {
      before = below r.address t;
      behind = above (stop r) t;
      sorted = parts;
      ascending = pieces_ascending r r.address sort.cuts sort.cut;
      members = (each (λ p. p ∈ ps) parts sort.back, each (λ p. p ∈ parts) ps sort.onto);
      uncut_table = subst (λ (n : List Mapping). v.Holds s (put r.address (stop r) n t) (v.next s c)) one uncut_holds;
      series_table = subst (λ (n : List Mapping). v.Holds s (put r.address (stop r) n t) (final v.next s cs)) many series_holds;
      counts = omega (
        arith,
        states.holds_count s _ _ uncut_holds,
        states.holds_count s _ _ series_holds,
        length-put r.address (stop r) (new r) t,
        length-put r.address (stop r) (flat_map new parts) t,
        ap length one,
        ap length many,
        length-map parts mapping_of,
        pieces_length r r.address sort.cuts,
        sort.number,
      );
    }
      where
        one : new r ≡ mapping_of r ∷ []
        one = new-map r e

        many : flat_map new parts ≡ map mapping_of parts
        many = news_map r r.address sort.cuts e

    unmapped : (r.op ≡ 0 → ⊥) → final v.next s cs ≡ v.next s c
    unmapped h = states.holds_same s _ _ _ series_holds
        (subst (λ (n : List Mapping). v.Holds s (put r.address (stop r) n t) (v.next s c))
        (new_unmap r h ∙ sym (news_unmap r r.address sort.cuts h)) uncut_holds)

  pub service_demand3 : ServiceDemand3 v
  service_demand3 s r ps c cs cut whole series = (
    λ every.
        let all = all_granted after v w space calls states ps s cs cut.one_or_more series every in
        (granted s r ps c cs cut whole all, mapped s r ps c cs cut whole all, unmapped s r ps c cs cut whole all),
    only_room after v w space calls ps s r c cs cut whole series,
  )
