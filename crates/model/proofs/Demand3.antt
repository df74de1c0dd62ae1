-- Demand 3 of map and unmap: the general claim, of the calls by numbers and by record.
-- Assumes nothing.
use mathlib.Core.Path.{◌≡◌, refl, sym, ap, subst, ◌∙◌}
use mathlib.Core.Logic.{inl, inr}
use mathlib.Core.List.Memᴰ
use mathlib.Core.List.{List, [], ◌∷◌, ◌++◌}
use Prim.Native.Nat.{ℕ, ◌≤◌}
use native.Mathlib.Omega.{arith}
use lib.Dec.{leb}
use lib.ListN.{length}
use Rattle.model.specs.Prelude.{Space, Mapping, Request, Grant}
use Rattle.model.specs.Rows.{Row, Reply}
use Rattle.model.specs.Rules.{sparse_flag, form_rows, request_rows}
use Rattle.model.specs.Table.{capacity, mappings, operations_row}
use Rattle.model.specs.Cut.{after}
use Rattle.model.specs.Calls.{asked, Lent, lent_rows, cuts, cut_grant, Outcome, outcome_for, lent_after}
use Rattle.model.specs.Exactly.{◌∈◌, Unflagged, WellFormed, refusal}
use Rattle.model.specs.Demand3.{Pieces, final, Somewhere, Call, Asks, answer_to, left_of, IsGrant, Holds, Replaced, Demand3}
use Rattle.model.proofs.Actions.{each_map}
use Rattle.model.proofs.Tests.{tests}
use Rattle.model.proofs.Rows.{passed_join, not_both}
use Rattle.model.proofs.Store.{holds_rewritten, holds_mappings, holds_count, holds_capacity, holds_again, holds_same}
use Rattle.model.proofs.Exactly.{record_says}
use Rattle.model.proofs.Groups.{passed_lent, passed_form, passed_request}
use Rattle.model.proofs.Ask.{asked_by, by_asked}
use Rattle.model.proofs.Granted.{Good, table_chain, after_chain, good_relent, fronts}
use Rattle.model.proofs.Plain.{front, plain}
use Rattle.model.proofs.Service.{Service, ForPieces, GrantedIn, InPlace, View, StateLaws, CallLaws}
use Rattle.model.proofs.ByRows.{ByRows, calls_by_rows}
use Rattle.model.proofs.General.{service_demand3}

-- k holds the mappings ms, as l's slice does, and l's list
pub record HoldsLent (l : Lent) (ms : List Mapping) (k : Lent) : Type 0 where
  pub table : Holds l.table ms k.table
  pub list : k.ranges ≡ l.ranges

module _ (s : Space) (n : ℕ) where
  -- calls without the flag, with n words lent for operations
  abbrev pub binding : Service Lent Call (Reply Grant)
  binding = record {
    answer = answer_to s;
    next = left_of s;
    asks = λ c. asked c.asking ∷ [];
    Proper = λ c. Unflagged (asked c.asking) × WellFormed c.asking × (length c.operations ≡ n);
    Single = λ c. Unit {0};
    Granted = IsGrant;
    Wants = λ c a. a ≡ refusal 11;
    Holds = HoldsLent;
    count = λ l. l.table.count;
  }

  abbrev pub view : View Lent
  view = record { table = λ l. mappings l.table; Good = Good s n; Room = λ l k. k ≤ capacity l.table }

  pub states : StateLaws view HoldsLent (λ l. l.table.count)
  states = record {
    holds_table = λ l k ms h. holds_mappings l.table k.table ms h.table;
    holds_count = λ l k ms h. holds_count l.table k.table ms h.table;
    holds_again = λ l k j ms ns h i.
        record { table = holds_again l.table k.table j.table ms ns h.table i.table; list = i.list ∙ h.list };
    holds_same = λ l k j ms h i.
        λ e. record { table = holds_same l.table k.table j.table ms h.table i.table e; ranges = (h.list ∙ sym i.list) e };
    room_back = λ l k ms n h r. omega (arith, holds_capacity l.table k.table ms h.table);
    room_less = λ l m k h r. omega arith;
  }

  by_rows : (l : Lent) (c : Call) → binding.Proper c → ByRows after binding view s l c
  by_rows l c p = record {
    request = r;
    asks = refl;
    front = front s l k c.asking;
    room_number = 11;
    room_test = leb (length (after r ms)) (capacity l.table);
    Value = Grant;
    value = cut_grant r l;
    answer = λ a. (outcome_for a cuts r l c.operations).answer;
    next = λ a. lent_after l (outcome_for a cuts r l c.operations);
    answer_is = ap (λ (o : Outcome). o.answer) (plain s l c.operations c.asking p.0);
    next_is = ap (lent_after l) (plain s l c.operations c.asking p.0);
    grants = (cut_grant r l, refl);
    refuses = λ n p g. not_both g.1;
    wants = refl;
    leaves = λ n p. refl;
    says = λ h.
        let f = fronts s l k c.asking h in
        (subst (λ (n : ℕ). Good s n l) p.2 f.good, asked_by (λ z. absurd (p.0 z)) f.form f.request);
    passes = λ g a.
        let b = by_asked a sparse_flag in (
          (record_says c.asking).1 p.1,
          passed_join (form_rows sparse_flag r) (lent ++ request_rows s r) (passed_form b.0)
              (passed_join lent (request_rows s r) (passed_lent (subst (λ (n : ℕ). Good s n l) (sym p.2) g)) (passed_request b.1)),
        );
    room = λ h. omega (tests, h);
    has_room = λ h. omega (tests, h);
    holds = λ g h. record { table = holds_rewritten l.table (after r ms) h; list = refl };
    kept = λ g a h. good_relent s n l (after r ms) g (after_chain s r ms a (table_chain s n l g)) h;
  }
    where
      r : Request
      r = asked c.asking

      ms : List Mapping
      ms = mappings l.table

      k : ℕ
      k = length c.operations

      lent : List Row
      lent = lent_rows s (operations_row k l.table ∷ []) l

  pub calls : CallLaws after binding view s
  calls = calls_by_rows after binding view s by_rows

-- ── the claim for map and unmap, from the general one ──

-- a call for a piece asks for it and for nothing else; a piece has its request's flags
for_piece : (s : Space) (n : ℕ) (r : Request) (ps : List Request) → Unflagged r → Pieces r ps → (c : Call) → (p : Request) × p ∈ ps × Asks n p c
    → ForPieces (binding s n) ps c
for_piece s n r ps off cut c w =
    let same : (asked c.asking).flags ≡ r.flags = ap (λ (q : Request). q.flags) (w.2.1 ∙ cut.part w.0 w.1) in
    ((λ z. off (sym same ∙ z), w.2.0, w.2.2), (subst (λ (r : Request). r ∈ ps) (sym w.2.1) w.1, tt))

granted_in : (s : Space) (n : ℕ) (l : Lent) (cs : List Call) (p : Request)
    → Somewhere (left_of s) (λ k d. (asked d.asking ≡ p) × IsGrant (answer_to s k d)) l cs → GrantedIn (binding s n) l cs p
granted_in s n l [] p h = h
granted_in s n l (c ∷ cs) p (inl h) = inl (Memᴰ.head (sym h.0), h.1)
granted_in s n l (c ∷ cs) p (inr h) = inr (granted_in s n (left_of s l c) cs p h)

replaced : (s : Space) (n : ℕ) (l : Lent) (r : Request) (ps : List Request) (uncut series : Lent)
    → InPlace (binding s n) l r ps uncut series → Replaced l r ps uncut series
replaced s n l r ps uncut series w = record {
  before = w.before;
  behind = w.behind;
  sorted = w.sorted;
  ascending = w.ascending;
  members = w.members;
  uncut_table = w.uncut_table.table;
  series_table = w.series_table.table;
  lists = (w.uncut_table.list, w.series_table.list);
  counts = w.counts;
}

pub demand_3 : Demand3
demand_3 s l r ps c series off cut whole parts =
    let d = service_demand3 (binding s n) (view s n) s (calls s n) (states s n) l r ps c series cut
    ((λ z. off (sym (ap (λ (q : Request). q.flags) whole.1) ∙ z), whole.0, whole.2), tt, ap (λ (r : Request). r ∷ []) whole.1)
    (each_map (λ d. (p : Request) × p ∈ ps × Asks n p d) (ForPieces (binding s n) ps) series (for_piece s n r ps off cut) parts) in (
      λ every.
          let g = d.0 (each_map Granted (GrantedIn (binding s n) l series) ps (granted_in s n l series) every) in
          (g.0, λ e. replaced s n l r ps (left_of s l c) (final (left_of s) l series) (g.1 e), λ e. g.2 (λ z. omega (arith, e, z))),
      d.1,
    )
  where
    n : ℕ
    n = length c.operations

    Granted : Request → Type 0
    Granted p = Somewhere (left_of s) (λ k d. (asked d.asking ≡ p) × IsGrant (answer_to s k d)) l series
