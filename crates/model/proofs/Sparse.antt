-- A granted request with the sparse flag: the list keeps its rules, with the range in it or without it, and nothing else
-- changes.
-- Assumes nothing.
use mathlib.Core.Path.{◌≡◌, refl, sym, ap, subst, ◌∙◌}
use mathlib.Core.Logic.{◌⊎◌, ◌↔◌, inr}
use mathlib.Core.List.{List, []}
use Prim.Native.Nat.{ℕ, suc, ◌+◌, ◌/◌, ◌≤◌}
use native.Mathlib.Omega.{arith}
use lib.ListN.{length}
use Rattle.model.specs.Prelude.{Range, Space, Mapping, Request, Nothing, Sparse, Grant}
use Rattle.model.specs.Rows.{Reply, refused, answered}
use Rattle.model.specs.Table.{mappings}
use Rattle.model.specs.Ranges.{ranges, list_tests, insert_range, remove_range}
use Rattle.model.specs.Calls.{Asking, asked, Lent, lent_rows, Purpose, purpose, range_of, last_rows, list_grant, grant_for, Outcome, cut, relisted, outcome_for, bind, ranges_count_after, lent_after, see_in, lookup}
use Rattle.model.specs.Exactly.{◌∈◌, RangeRules, ListRules, TableRules, Unflagged}
use Rattle.model.specs.Grants.{off_mappings, shows}
use Rattle.model.specs.Lookups.{Has, Free, InRange, NoRange}
use Rattle.model.specs.Sparse.{Relisted, SparseRanges}
use Rattle.model.proofs.Tests.{tests, Alls}
use Rattle.model.proofs.Rules.{apart_shares}
use Rattle.model.proofs.Rows.{Passed, passes}
use Rattle.model.proofs.Groups.{LentPassed, passed_lent, none_between}
use Rattle.model.proofs.Table.{top, chain_rules}
use Rattle.model.proofs.Translate.{shows-member, hides_all}
use Rattle.model.proofs.Ranges.{list_row_says, list_says, lists_all, listed_says, ranges_apart, read_list, length_list, length-ranges, bare_in, bare_none}
use Rattle.model.proofs.Relisted.{insert_tests, insert_members, insert-length, remove_tests, remove_members, remove_length, relist, relist_rules}
use Rattle.model.proofs.Exactly.{For, for_table, for_adding, for_removing, is_for, unchanged}
use Rattle.model.proofs.Granted.{Good, table_chain, granted_rows, Fronts, fronts, Granting, granting}

-- ── what a list that is written shows ──

module _ (s : Space) (n : ℕ) (l : Lent) (good : Good s n l) (zs : List Range) (rules : ListRules s (relist l.ranges zs)) where
  abbrev after : Lent
  after = record { table = l.table; ranges = relist l.ranges zs }

  abbrev ms : List Mapping
  ms = mappings l.table

  mapped : (m : Mapping) → m ∈ ms → (x : ℕ) → Has m x → shows after x ≡ shows l x
  mapped m i x h =
      let r : TableRules s ms = chain_rules s 0 (top s) ms (table_chain s n l good) in
      shows-member (off_mappings after x) ms m x r.1 i h ∙ sym (shows-member (off_mappings l x) ms m x r.1 i h)

  sparse : (x : ℕ) → Free ms x → (y : Range) → y ∈ ranges after.ranges → InRange y x → shows after x ≡ Sparse
  sparse x f y i h = hides_all (off_mappings after x) ms x f ∙ bare_in (ranges after.ranges) y x i h

  nothing : (x : ℕ) → Free ms x → NoRange (ranges after.ranges) x → shows after x ≡ Nothing
  nothing x f h = hides_all (off_mappings after x) ms x f ∙ bare_none (ranges after.ranges) x h

  answers : (x : ℕ) → lookup s after x ≡ answered (see_in s after x)
  unfolding lookup
  answers x =
      let p : LentPassed s [] after = record { table = (none_between good).table; list = (list_row_says s after.ranges).1 rules } in
      passes (lent_rows s [] after) (see_in s after x) (passed_lent p)

-- ── a grant with the flag ──

module _ (s : Space) (l : Lent) (os : List ℕ) (q : Asking) (f : Fronts s l (length os) q) where
  abbrev r : Request
  r = asked q

  abbrev ys : List Range
  ys = ranges l.ranges

  -- the range asked for keeps its rules
  may : RangeRules s (range_of r)
  may = record {
    multiples = (omega (tests, f.request.alignment), omega (tests, f.request.alignment));
    not_empty = omega (tests, f.request.alignment);
    within = (omega (tests, f.request.range), omega (tests, f.request.range));
    unreserved = apart_shares _ _ _ _ (omega (tests, f.request.reservation));
  }

  rules : ListRules s l.ranges
  rules = (list_row_says s l.ranges).0 f.good.list

  listed_so : Alls (list_tests s 0 ys)
  listed_so = (list_says s 0 ys).1 (lists_all s ys rules.each_range rules.ascends)

  count : length ys ≡ l.ranges.count
  count = length-ranges l.ranges.count l.ranges.words

  -- zs is the list after: it keeps its tests and fits, and has the members that are claimed
  module _ (zs : List Range) (kept : Alls (list_tests s 0 zs)) (fits : length zs ≤ length l.ranges.words / 2) where
    there : ranges (relist l.ranges zs) ≡ zs
    there = read_list (length l.ranges.words) zs

    relisted_so : (r.op ≡ 0 → (x : Range) → x ∈ zs ↔ ((x ≡ range_of r) ⊎ x ∈ ys)) → (r.op ≡ 1 → (x : Range) → x ∈ zs ↔ ((x ≡ range_of r → ⊥) × x ∈ ys))
        → (r.op ≡ 0 → length zs ≡ l.ranges.count + 1) → (r.op ≡ 1 → length zs + 1 ≡ l.ranges.count)
        → Relisted s r l (lent_after l (relisted (list_grant zs l) zs l os)) os os (list_grant zs l)
    relisted_so more less up down =
        let k = relist_rules s l.ranges zs rules kept fits in
        record {
          table = refl;
          operations = (refl, refl);
          kept = k;
          length_kept = length_list (length l.ranges.words) zs (omega (arith, fits));
          adds = λ e x. subst (λ (ws : List Range). x ∈ ws ↔ ((x ≡ range_of r) ⊎ x ∈ ys)) (sym there) (more e x);
          removes = λ e x. subst (λ (ws : List Range). x ∈ ws ↔ ((x ≡ range_of r → ⊥) × x ∈ ys)) (sym there) (less e x);
          counts = (up, down);
          mapped = mapped s (length os) l f.good zs k;
          sparse = sparse s (length os) l f.good zs k;
          nothing = nothing s (length os) l f.good zs k;
          answers = answers s (length os) l f.good zs k;
        }

  -- by what the request is for
  relisted_by : {for : Purpose} → For r for → r.flags ≡ 256 → Passed (last_rows for r l)
      → Relisted s r l (lent_after l (outcome_for (answered (grant_for for r l)) for r l os)) os (outcome_for (answered (grant_for for r l)) for r l os).operations (grant_for for r l)
  relisted_by (for_table z) e p = absurd (omega (arith, z, e))
  relisted_by (for_adding _ o) e p =
      let n : length (insert_range (range_of r) ys) ≡ suc (length ys) = insert-length (range_of r) ys in
      relisted_so (insert_range (range_of r) ys)
      (insert_tests s (range_of r) may 0 ys (omega arith) listed_so ((ranges_apart r ys).0 p.0))
      (omega (tests, p.1.1.0, n, count))
      (λ _ x. insert_members (range_of r) x ys) (λ d. absurd (omega (arith, o, d)))
      (λ _. omega (arith, n, count)) (λ d. absurd (omega (arith, o, d)))
  relisted_by (for_removing _ o) e p =
      let n : suc (length (remove_range (range_of r) ys)) ≡ length ys = remove_length (range_of r) ys ((listed_says (range_of r) ys).0 p.1.0.0) in
      relisted_so (remove_range (range_of r) ys)
      (remove_tests s (range_of r) 0 ys listed_so)
      (omega (arith, n, count, rules.held))
      (λ d. absurd (omega (arith, o, d))) (λ _ x. remove_members s (range_of r) x 0 ys listed_so)
      (λ d. absurd (omega (arith, o, d))) (λ _. omega (arith, n, count))

flagged : (s : Space) (l : Lent) (os : List ℕ) (q : Asking) (g : Grant) → (bind s l os q).answer ≡ answered g → (asked q).flags ≡ 256
    → Relisted s (asked q) l (lent_after l (bind s l os q)) os (bind s l os q).operations g
unfolding bind
flagged s l os q g e z =
    let r : Request = asked q in
    let w = granted_rows s l os q g e in
    let f = fronts s l (length os) q w.1 in
    let for = is_for r (omega (tests, f.form.op)) (inr z) in
    let out : bind s l os q ≡ outcome_for (answered g) (purpose r) r l os = ap (λ (a : Reply Grant). outcome_for a (purpose r) r l os) w.0 in
    subst (λ (o : Outcome). Relisted s r l (lent_after l o) os o.operations g) (sym out)
    (subst (λ (g : Grant). Relisted s r l (lent_after l (outcome_for (answered g) (purpose r) r l os)) os (outcome_for (answered g) (purpose r) r l os).operations g)
    (sym w.3) (relisted_by s l os q f for z w.2))

unflagged : (s : Space) (l : Lent) (os : List ℕ) (q : Asking) → Unflagged (asked q) → (lent_after l (bind s l os q)).ranges ≡ l.ranges
unflagged s l os q off = go (bind s l os q).answer refl
  where
    go : (a : Reply Grant) → (bind s l os q).answer ≡ a → (lent_after l (bind s l os q)).ranges ≡ l.ranges
    go (refused n p) e =
        λ i. record { words = (unchanged s l os q n p e).1 i; count = ap (λ (a : Reply Grant). ranges_count_after a l.ranges.count) e i }
    go (answered g) e =
        let w : Granting s l os q g = granting s l os q g off e in
        ap (λ (o : Outcome). (lent_after l o).ranges) (w.outcome ∙ ap (λ (g : Grant). cut g (asked q) l os) w.grant)

pub sparse_ranges : SparseRanges
sparse_ranges = record { flagged = flagged; unflagged = unflagged; by-numbers = λ op address size object offset e. omega arith }
