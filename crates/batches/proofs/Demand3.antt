-- Demand 3 with batches beside single requests: the general claim, of both kinds of call. Whether a batch's work table is
-- as long as the table depends on the table, whose length no call changes: the service's states are what is lent with a
-- table of so many words.
-- Assumes nothing.
use mathlib.Core.Path.{◌≡◌, refl, sym, ap, subst, ◌∙◌}
use mathlib.Core.Logic.{◌⊎◌, inl, inr}
use mathlib.Core.Bool.{Bool}
use mathlib.Core.List.{List, [], ◌∷◌}
use Prim.Native.Nat.{ℕ, ◌*◌, ◌%◌, ◌≤◌}
use native.Mathlib.Omega.{arith}
use lib.Dec.{T, T_prop, leb, eqb, eqb→eq}
use lib.ListN.{length}
use Rattle.model.specs.Rows.{choose, Reply, refused, answered, decide}
use Rattle.model.specs.Table.{capacity, mappings}
use Rattle.model.specs.Cut.{after}
use Rattle.model.specs.Calls.{record_bytes, Asking, asked, Lent, Purpose, cuts, adds, removes, purpose, last_rows, bind_rows, grant_for, outcome_for, bind}
use Rattle.model.specs.Exactly.{Each, ◌∈◌, ◌⊆◌, Unflagged}
use Rattle.model.specs.Demand3.{Pieces, final, Somewhere, Everywhere, IsGrant, Replaced}
use Rattle.model.proofs.Actions.{each_map, run}
use Rattle.model.proofs.Tests.{tests, Alls, eq→eqb, all_true}
use Rattle.model.proofs.Rows.{Passed}
use Rattle.model.proofs.Store.{holds_rewritten}
use Rattle.model.proofs.Exactly.{answer_is}
use Rattle.model.proofs.Ask.{Asked}
use Rattle.model.proofs.Granted.{Good, granted_rows}
use Rattle.model.proofs.Service.{Service, ForPieces, GrantedIn, InPlace, View, StateLaws, GrantLaws, CallLaws}
use Rattle.model.proofs.General.{service_demand3}
use Rattle.model.proofs.Demand3.{HoldsLent, states, calls}
use Rattle.batches.specs.Prelude.{Space, Mapping, Request, Grant}
use Rattle.batches.specs.Batch.{most_records, requests_in, after_all}
use Rattle.batches.specs.Grants.{Batch, answer_to_batch, left_by_batch}
use Rattle.batches.specs.Demand3.{AnyCall, single, batch, answer_to_any, left_by_any, Lends, asks_batch, asks, Wants, Demand3}
use Rattle.batches.proofs.Turns.{after-all-run}
use Rattle.batches.proofs.Batch.{Granting, granting, left, may, room, kept, holds, serves}

-- ── no call changes the table's length ──

bind-length : (s : Space) (l : Lent) (os : List ℕ) (q : Asking) → length (bind s l os q).table ≡ length l.table.words
unfolding bind
bind-length s l os q = go (decide (bind_rows s l (length os) q) (grant_for (purpose r) r l)) refl (purpose r) refl
  where
    r : Request
    r = asked q

    go : (a : Reply Grant) → decide (bind_rows s l (length os) q) (grant_for (purpose r) r l) ≡ a → (for : Purpose) → purpose r ≡ for
        → length (outcome_for a for r l os).table ≡ length l.table.words
    go (refused n p) e for h = refl
    go (answered g) e adds h = refl
    go (answered g) e removes h = refl
    go (answered g) e cuts h =
        let k = (granted_rows s l os q g (answer_is _ (purpose r) r l os ∙ e)).2 in
        let z : Passed (last_rows cuts r l) = subst (λ (for : Purpose). Passed (last_rows for r l)) h k in
        (holds_rewritten l.table (after r (mappings l.table)) (omega (tests, z))).length_kept

left-length : (s : Space) (l : Lent) (c : AnyCall) → length (left_by_any s l c).table.words ≡ length l.table.words
left-length s l (single c) = bind-length s l c.operations c.asking
left-length s l (batch b) = elim (left s l b.work b.operations b.records) [
  | inl g ↦ (holds s l b.work b.operations b.records g.0 (granting s l b.work b.operations b.records g.0 g.1)).table.length_kept
  | inr h ↦ ap (λ (k : Lent). length k.table.words) h.1
]

-- ── the service ──

-- what is lent with a table of n words
abbrev Sized : ℕ → Type 0
Sized n = (l : Lent) × T (eqb (length l.table.words) n)

sized_same : (n : ℕ) (x y : Sized n) → x.0 ≡ y.0 → x ≡ y
sized_same n (l, h) (u, k) e =
    subst (λ (v : Lent). (z : T (eqb (length v.table.words) n)) → ◌≡◌ {A = Sized n} (l, h) (v, z)) e
    (λ z. ap {B = Sized n} (λ (z : T (eqb (length l.table.words) n)). (l, z)) (T_prop (eqb (length l.table.words) n) h z)) k

abbrev NoSparse : AnyCall → Type 0
NoSparse (single c) = Unflagged (asked c.asking)
NoSparse (batch b) = Unit {0}

abbrev IsSingle : AnyCall → Type 0
IsSingle (single c) = Unit {0}
IsSingle (batch b) = ⊥

module _ (s : Space) (n L : ℕ) where
  abbrev step : Sized L → AnyCall → Sized L
  step x c = (left_by_any s x.0 c, subst (λ (k : ℕ). T (eqb k L)) (sym (left-length s x.0 c)) x.1)

  -- calls with n words lent for operations
  abbrev mixed : Service (Sized L) AnyCall (Reply Grant)
  mixed = record {
    answer = λ x c. answer_to_any s x.0 c;
    next = step;
    asks = asks L;
    Proper = λ c. NoSparse c × Lends n c;
    Single = IsSingle;
    Granted = IsGrant;
    Wants = Wants L;
    Holds = λ x ms y. HoldsLent x.0 ms y.0;
    count = λ x. x.0.table.count;
  }

  abbrev sight : View (Sized L)
  sight = record { table = λ x. mappings x.0.table; Good = λ x. Good s n x.0; Room = λ x k. k ≤ capacity x.0.table }

  sized_states : StateLaws sight (λ x ms y. HoldsLent x.0 ms y.0) (λ x. x.0.table.count)
  sized_states =
      let k = states s n in
      record {
        holds_table = λ x y ms h. k.holds_table x.0 y.0 ms h;
        holds_count = λ x y ms h. k.holds_count x.0 y.0 ms h;
        holds_again = λ x y z ms ns h w. k.holds_again x.0 y.0 z.0 ms ns h w;
        holds_same = λ x y z ms h w. sized_same L y z (k.holds_same x.0 y.0 z.0 ms h w);
        room_back = λ x y ms m h w. k.room_back x.0 y.0 ms m h w;
        room_less = λ x m j h w. k.room_less x.0 m j h w;
      }

  -- a granted batch asks for all of its requests
  asks-all : (x : Sized L) (b : Batch) (g : Grant) → Granting s x.0 b.work b.operations b.records g → asks_batch L b ≡ requests_in b.records
  asks-all x b g k =
      let asking : List Bool =
      eqb (length b.records % record_bytes) 0 ∷ leb (length b.records) (most_records * record_bytes) ∷ eqb (length b.work) L ∷ [] in
      let h : Alls asking = (k.whole.0, (k.whole.1.0, (omega (tests, k.work, x.1), tt))) in
      ap (λ (t : Bool). choose t (requests_in b.records) []) (all_true asking h)

  batch-grant : (x : Sized L) (b : Batch) → length b.operations ≡ n → IsGrant (answer_to_batch s x.0 b) → GrantLaws after mixed sight s x (batch b)
  batch-grant x b e (g, a) = record {
    good = subst (λ (k : ℕ). Good s k l) e k.good;
    asked = subst (Each (Asked s)) (sym q) (may s l b.work b.operations b.records g k);
    room = subst (λ (ns : List Mapping). length ns ≤ capacity l.table) there (room s l b.work b.operations b.records g k);
    holds = subst (λ (ns : List Mapping). HoldsLent l ns (left_by_batch s l b)) there (holds s l b.work b.operations b.records g k);
    kept = subst (λ (k : ℕ). Good s k (left_by_batch s l b)) e (kept s l b.work b.operations b.records g k);
  }
    where
      l : Lent
      l = x.0

      k : Granting s l b.work b.operations b.records g
      k = granting s l b.work b.operations b.records g a

      q : asks_batch L b ≡ requests_in b.records
      q = asks-all x b g k

      there : after_all (requests_in b.records) (mappings l.table) ≡ run after (asks_batch L b) (mappings l.table)
      there = after-all-run (requests_in b.records) (mappings l.table) ∙ ap (λ (rs : List Request). run after rs (mappings l.table)) (sym q)

  mixed_calls : CallLaws after mixed sight s
  mixed_calls = record { grant = grant; refusal = refusal; serves = serve; single = whole }
    where
      grant : (x : Sized L) (c : AnyCall) → mixed.Proper c → IsGrant (answer_to_any s x.0 c) → GrantLaws after mixed sight s x c
      grant x (single c) p g =
          let k = (calls s n).grant x.0 c (p.0, p.1.0, p.1.1) g in
          record { good = k.good; asked = k.asked; room = k.room; holds = k.holds; kept = k.kept }
      grant x (batch b) p g = batch-grant x b p.1 g

      refusal : (x : Sized L) (c : AnyCall) → mixed.Proper c
          → IsGrant (answer_to_any s x.0 c) ⊎ ((IsGrant (answer_to_any s x.0 c) → ⊥) × (step x c ≡ x))
      refusal x (single c) p = elim ((calls s n).refusal x.0 c (p.0, p.1.0, p.1.1)) [
        | inl g ↦ inl g
        | inr h ↦ inr (h.0, sized_same L (step x (single c)) x h.1)
      ]
      refusal x (batch b) p = elim (left s x.0 b.work b.operations b.records) [
        | inl g ↦ inl g
        | inr h ↦ inr (h.0, sized_same L (step x (batch b)) x h.1)
      ]

      serve : (x : Sized L) (c : AnyCall) → mixed.Proper c → Good s n x.0 → Each (Asked s) (asks L c)
          → IsGrant (answer_to_any s x.0 c) ⊎ Wants L c (answer_to_any s x.0 c)
      serve x (single c) p g a = (calls s n).serves x.0 c (p.0, p.1.0, p.1.1) g a
      serve x (batch b) p g a =
          serves s x.0 b.work b.operations b.records L (eqb→eq _ _ x.1) (subst (λ (k : ℕ). Good s k x.0) (sym p.1) g) a

      whole : (x : Sized L) (c : AnyCall) (r : Request) → mixed.Proper c × IsSingle c × (asks L c ≡ r ∷ []) → Good s n x.0 → Asked s r
          → length (after r (mappings x.0.table)) ≤ capacity x.0.table → IsGrant (answer_to_any s x.0 c)
      whole x (single c) r f g a h = (calls s n).single x.0 c r ((f.0.0, f.0.1.0, f.0.1.1), tt, f.2) g a h
      whole x (batch b) r f g a h = absurd f.1

  -- ── what is lent alone ──

  final_of : (x : Sized L) (cs : List AnyCall) → (final step x cs).0 ≡ final (left_by_any s) x.0 cs
  unfolding final
  final_of x [] = refl
  final_of x (c ∷ cs) = final_of (step x c) cs

  somewhere_of : (P : Lent → AnyCall → Type 0) (x : Sized L) (cs : List AnyCall) → Somewhere (left_by_any s) P x.0 cs
      → Somewhere step (λ y d. P y.0 d) x cs
  somewhere_of P x [] h = h
  somewhere_of P x (c ∷ cs) (inl h) = inl h
  somewhere_of P x (c ∷ cs) (inr h) = inr (somewhere_of P (step x c) cs h)

  everywhere_of : (P : Lent → AnyCall → Type 0) (x : Sized L) (cs : List AnyCall) → Everywhere step (λ y d. P y.0 d) x cs
      → Everywhere (left_by_any s) P x.0 cs
  everywhere_of P x [] h = tt
  everywhere_of P x (c ∷ cs) h = (h.0, everywhere_of P (step x c) cs h.1)

  -- a piece has its request's flags
  for_pieces : (r : Request) (ps : List Request) → Unflagged r → Pieces r ps → (d : AnyCall) → Lends n d × asks L d ⊆ ps → ForPieces mixed ps d
  for_pieces r ps off cut (single c) w =
      ((λ e. off (sym (ap (λ (p : Request). p.flags) (cut.part (asked c.asking) w.1.0)) ∙ e), w.0), w.1)
  for_pieces r ps off cut (batch b) w = ((tt, w.0), w.1)

  replaced : (x : Sized L) (r : Request) (ps : List Request) (uncut series : Sized L) → InPlace mixed x r ps uncut series
      → Replaced x.0 r ps uncut.0 series.0
  replaced x r ps uncut series w = record {
    before = w.before;
    behind = w.behind;
    sorted = w.sorted;
    ascending = w.ascending;
    members = w.members;
    uncut_table = w.uncut_table.table;
    series_table = w.series_table.table;
    lists = (w.uncut_table.list, w.series_table.list);
    counts = w.counts;
  }

-- ── the claim ──

pub demand_3 : Demand3
demand_3 s l r ps c series off cut whole parts =
    let d = service_demand3 (mixed s n L) (sight s n L) s (mixed_calls s n L) (sized_states s n L) x r ps (single c) series cut
    ((λ e. off (sym (ap (λ (p : Request). p.flags) whole.1) ∙ e), (whole.0, whole.2)), tt, ap (λ (r : Request). r ∷ []) whole.1)
    (each_map (λ d. Lends n d × asks L d ⊆ ps) (ForPieces (mixed s n L) ps) series (for_pieces s n L r ps off cut) parts) in (
      λ every.
          let g = d.0 (each_map Granted (GrantedIn (mixed s n L) x series) ps
          (λ p h. somewhere_of s n L (λ k d. p ∈ asks L d × IsGrant (answer_to_any s k d)) x series h) every) in (
            g.0,
            λ e. subst (Replaced l r ps (left_by_any s l (single c))) (final_of s n L x series)
                (replaced s n L x r ps (step s n L x (single c)) (final (step s n L) x series) (g.1 e)),
            λ e. sym (final_of s n L x series) ∙ ap (λ (y : Sized L). y.0) (g.2 (λ z. omega (arith, e, z))),
          ),
      λ g. everywhere_of s n L (λ k d. IsGrant (answer_to_any s k d) ⊎ Wants L d (answer_to_any s k d)) x series (d.1 g),
    )
  where
    n : ℕ
    n = length c.operations

    L : ℕ
    L = length l.table.words

    x : Sized L
    x = (l, eq→eqb L L refl)

    Granted : Request → Type 0
    Granted p = Somewhere (left_by_any s) (λ k d. p ∈ asks L d × IsGrant (answer_to_any s k d)) l series
