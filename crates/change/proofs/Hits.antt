-- A cut by places: the mappings that a request hits stand together, and what the request makes of the table is what it
-- makes of them, in their place.
-- Assumes nothing.
use mathlib.Core.Path.{◌≡◌, refl, sym, ap, subst, ◌∙◌}
use mathlib.Core.Bool.{true, false}
use mathlib.Core.List.{List, [], ◌∷◌, ◌++◌, append_assoc, append-nil}
use Prim.Native.Nat.{ℕ, zero, suc, ◌+◌, ◌-◌, ◌≤◌, ◌<◌, min, max}
use native.Mathlib.Omega.{arith}
use lib.ListN.{length, take, drop, take-append-drop, length-append, length-drop}
use lib.Seq.{drop-drop, take-append_seam, length-take-le}
use borrow.Author.Tests.{le-leb, lt-leb, ltb-false, ne_eqb}
use Rattle.model.specs.declared.Mapping.{Mapping}
use Rattle.model.specs.declared.Request.{Request}
use Rattle.model.specs.Rules.{end, stop}
use Rattle.model.specs.Table.{mappings_in}
use Rattle.model.specs.Cut.{lower_part, upper_part, prepend, below, above, new, after, spared, hits, operations}
use Rattle.model.specs.Exactly.{Each}
use Rattle.model.proofs.Actions.{each_map}
use Rattle.model.proofs.Store.{length-mappings}
use Rattle.model.proofs.Window.{below-append, above-append, below_under, below_over, above_under, above_over}
use Rattle.model.proofs.Run.{Run, run-from, below_none}
use Rattle.model.proofs.Chain.{chain_run}
use Rattle.model.proofs.Table.{top}
use Rattle.table.specs.Places.{mapping_at, between, first_where, starts_behind, ends_behind}
use Rattle.table.specs.declared.Replacement.{Replacement}
use Rattle.table.specs.Splice.{mappings_of, spliced}
use Rattle.table.proofs.Places.{valid_chain, valid_at}
use Rattle.table.proofs.First.{first_most, first_before}
use Rattle.std.proofs.Common.{Option, Some, None, eqb}
use Rattle.model.specs.Rows.{choose}
use Rattle.model.specs.Cut.{sized}
use Rattle.cut.specs.Operations.{some_left}
use Rattle.table.proofs.Parts.{part}
use Rattle.table.proofs.Between.{between_none, between_first, between_next, length-between, from_between}
use Rattle.cut.specs.Operations.{Hit, Cuttable, hit_operations, operations_for}
use Rattle.change.specs.Change.{Placed}
use Rattle.change.proofs.Runs.{run_drop, run-left, each_left, run_before, ends_before, ends-behind, starts-behind, hits-append, hits_none, hits-all}

-- what is left of a mapping, if anything is
left_is : (m : Mapping) → part (some_left m) ≡ prepend m []
left_is m = go m.size
  where
    go : (n : ℕ) → part (choose (eqb n 0) None (Some m)) ≡ sized n m []
    go zero = refl
    go (suc n) = rw (ne_eqb (suc n) 0 (λ e. omega (arith, e)), choose) refl

pub left_part : {m n : Mapping} {o : Option Mapping} → m ≡ n → o ≡ some_left m → part o ≡ prepend n []
left_part e q = ap part q ∙ left_is _ ∙ ap (λ (k : Mapping). prepend k []) e

-- what holds of each between two places holds at each place
each_at : (P : Mapping → Type 0) (ws : List ℕ) (hi k lo : ℕ) → lo + k < hi → Each P (between ws lo hi) → P (mapping_at ws (lo + k))
each_at P ws hi zero lo h es =
    let e : lo + 0 ≡ lo = omega arith in
    rw e (subst (Each P) (between_first ws lo hi (omega arith) refl) es).0
each_at P ws hi (suc k) lo h es =
    let e : lo + 1 + k ≡ lo + suc k = omega arith in
    subst (λ (j : ℕ). P (mapping_at ws j)) e (each_at P ws hi k (lo + 1) (omega arith) (subst (Each P) (between_first ws lo hi (omega arith) refl) es).1)

module _ {r : Request} {ws : List ℕ} {lo hi : ℕ} (p : Placed r ws lo hi) where
  abbrev n : ℕ
  n = p.count

  abbrev ms : List Mapping
  ms = mappings_in n ws

  abbrev a : ℕ
  a = r.address

  abbrev b : ℕ
  b = stop r

  abbrev hit : List Mapping
  hit = between ws lo hi

  -- how many are hit
  abbrev k : ℕ
  k = first_where (starts_behind (b - 1)) (drop lo ms)

  run : Run 0 ms
  run = chain_run p.table.space 0 (top p.table.space) ms (valid_chain p.table)

  pub low_high : (lo ≤ hi) × (hi ≤ n)
  low_high =
      let l : lo ≤ length ms = omega (arith, p.low, first_most (ends_behind a) ms) in
      (omega (arith, p.high), omega (arith, p.high, l, first_most (starts_behind (b - 1)) (drop lo ms), length-drop lo ms, length-mappings n ws))

  from_low : drop lo ms ≡ hit ++ drop hi ms
  from_low = from_between ws lo n hi low_high.0 low_high.1

  split : ms ≡ take lo ms ++ (hit ++ drop hi ms)
  split = sym (take-append-drop lo ms) ∙ ap (◌++◌ (take lo ms)) from_low

  -- ── before them, they, behind them ──

  before : Each (λ m. (end m ≤ a) × (0 < m.size)) (take lo ms)
  before = subst (λ (i : ℕ). Each (λ m. (end m ≤ a) × (0 < m.size)) (take i ms)) (sym p.low) (ends_before a 0 ms run)

  behind : Each (λ m. (b ≤ m.address) × (0 < m.size)) (drop hi ms)
  behind =
      let d = run_drop 0 lo ms run in
      let e : drop k (drop lo ms) ≡ drop hi ms = drop-drop k lo ms ∙ ap (λ (i : ℕ). drop i ms) (sym p.high) in
      run-from b (suc (b - 1)) (drop hi ms) (subst (Run (suc (b - 1))) e (starts-behind (b - 1) d.0 (drop lo ms) d.1)) (omega arith)

  hit_run : (f : ℕ) × Run f hit
  hit_run = let d = run_drop 0 lo ms run in (d.0, run-left d.0 hit (drop hi ms) (subst (Run d.0) from_low d.1))

  hit_ends : Each (λ m. (a < end m) × (0 < m.size)) hit
  hit_ends = each_left (λ m. (a < end m) × (0 < m.size)) hit (drop hi ms)
      (subst (Each (λ m. (a < end m) × (0 < m.size))) from_low
      (subst (λ (i : ℕ). Each (λ m. (a < end m) × (0 < m.size)) (drop i ms)) (sym p.low) (ends-behind a 0 ms run)))

  hit_starts : Each (λ m. m.address < b) hit
  hit_starts =
      let l : length hit ≡ k = length-between ws lo hi ∙ omega (arith, p.high) in
      let e : take k (drop lo ms) ≡ hit = ap (take k) from_low ∙ subst (λ (i : ℕ). take i (hit ++ drop hi ms) ≡ hit) l (take-append_seam hit (drop hi ms)) in
      each_map (λ m. starts_behind (b - 1) m ≡ false) (λ m. m.address < b) hit (λ m q. let h = ltb-false (b - 1) m.address q in omega (arith, h, p.not_empty))
      (subst (Each (λ m. starts_behind (b - 1) m ≡ false)) e (first_before (starts_behind (b - 1)) (drop lo ms)))

  pub hit_at : (i : ℕ) → lo ≤ i → i < hi → Hit r (mapping_at ws i)
  hit_at i l h =
      let e : lo + (i - lo) ≡ i = omega arith in
      let ends = each_at (λ m. (a < end m) × (0 < m.size)) ws hi (i - lo) lo (omega arith) hit_ends in
      let starts = each_at (λ m. m.address < b) ws hi (i - lo) lo (omega arith) hit_starts in
      subst (λ (j : ℕ). Hit r (mapping_at ws j)) e (ends.0, starts)

  pub cuttable : {m : Mapping} (i : ℕ) → lo ≤ i → i < hi → m ≡ mapping_at ws i → Cuttable r m
  cuttable i l h e =
      let m = valid_at p.table i (omega (arith, low_high)) e in
      record { not_empty = p.not_empty; hit = subst (Hit r) (sym e) (hit_at i l h); stop_most = p.stop_most; end_most = m.0; offset_most = m.1 }

  -- ── what the request makes of the table ──

  below_split : below a ms ≡ take lo ms ++ below a hit
  below_split =
      ap (below a) split
      ∙ below-append a (take lo ms) (hit ++ drop hi ms)
      ∙ rw (below-append a hit (drop hi ms), below_under a (take lo ms) before, below_over a (drop hi ms) over) (simp append-nil)
    where
      over : Each (λ m. a ≤ m.address) (drop hi ms)
      over = each_map (λ m. (b ≤ m.address) × (0 < m.size)) (λ m. a ≤ m.address) (drop hi ms) (λ m h. omega arith) behind

  above_split : above b ms ≡ above b hit ++ drop hi ms
  above_split =
      ap (above b) split
      ∙ above-append b (take lo ms) (hit ++ drop hi ms)
      ∙ rw (above-append b hit (drop hi ms), above_under b (take lo ms) under, above_over b (drop hi ms) behind)
    where
      under : Each (λ m. end m ≤ b) (take lo ms)
      under = each_map (λ m. (end m ≤ a) × (0 < m.size)) (λ m. end m ≤ b) (take lo ms) (λ m h. omega arith) before

  pub after_places : after r ms ≡ spliced ms lo hi (after r hit)
  after_places = rw (below_split, above_split) (simp append_assoc)

  -- ── its operations ──

  hits_places : hits r ms ≡ hit
  hits_places =
      ap (hits r) split
      ∙ hits-append r (take lo ms) (hit ++ drop hi ms)
      ∙ rw (hits-append r hit (drop hi ms), hits_none r (take lo ms) low, hits_none r (drop hi ms) high, hits-all r hit (all hit hit_ends hit_starts)) (append-nil hit)
    where
      low : Each (λ m. spared r m ≡ true) (take lo ms)
      low = each_map (λ m. (end m ≤ a) × (0 < m.size)) (λ m. spared r m ≡ true) (take lo ms) (λ m h. le-leb (min (end m) b) (max m.address a) (omega arith)) before

      high : Each (λ m. spared r m ≡ true) (drop hi ms)
      high = each_map (λ m. (b ≤ m.address) × (0 < m.size)) (λ m. spared r m ≡ true) (drop hi ms) (λ m h. le-leb (min (end m) b) (max m.address a) (omega arith)) behind

      all : (hs : List Mapping) → Each (λ m. (a < end m) × (0 < m.size)) hs → Each (λ m. m.address < b) hs → Each (λ m. spared r m ≡ false) hs
      all [] h g = tt
      all (m ∷ hs) h g = (lt-leb (min (end m) b) (max m.address a) (omega (arith, h.0, g.0, p.not_empty)), all hs h.1 g.1)

  pub operations_places : operations r ms ≡ operations_for r hit
  unfolding operations operations_for hit_operations
  operations_places = rw hits_places

  -- ── what it makes of the mappings hit: only the first is left below the range, and only the last above it ──

  after_none : lo ≡ hi → after r hit ≡ new r
  unfolding below above
  after_none e =
      let none : hit ≡ [] = ap (between ws lo) (sym e) ∙ between_none ws lo in
      rw none (append-nil (new r))

  below_hit : {m : Mapping} → lo < hi → m ≡ mapping_at ws lo → below a hit ≡ prepend (lower_part a m) []
  unfolding below
  below_hit {m} h e =
      let q : hit ≡ m ∷ between ws (lo + 1) hi = between_first ws lo hi h e in
      let run : Run hit_run.0 (m ∷ between ws (lo + 1) hi) = subst (Run hit_run.0) q hit_run.1 in
      let ends = subst (Each (λ m. (a < end m) × (0 < m.size))) q hit_ends in
      ap (below a) q ∙ rw (below_none a (end m) (between ws (lo + 1) hi) run.2 (omega (arith, ends.0)))

  above_hit : {m : Mapping} (i : ℕ) → hi ≡ i + 1 → lo ≤ i → m ≡ mapping_at ws i → above b hit ≡ prepend (upper_part b m) []
  unfolding above
  above_hit {m} i d h e =
      let front : List Mapping = between ws lo i in
      let q : hit ≡ front ++ (m ∷ []) = ap (between ws lo) d ∙ between_next ws lo i h e in
      let run = run_before hit_run.0 front m (subst (Run hit_run.0) q hit_run.1) in
      let last = each_last front (subst (Each (λ m. m.address < b)) q hit_starts) in
      let under = each_map (λ n. end n ≤ m.address) (λ n. end n ≤ b) front (λ n g. omega (arith, g, last)) run in
      ap (above b) q ∙ above-append b front (m ∷ []) ∙ rw (above_under b front under)
    where
      each_last : (hs : List Mapping) → Each (λ m. m.address < b) (hs ++ (m ∷ [])) → m.address < b
      each_last [] g = g.0
      each_last (n ∷ hs) g = each_last hs g.1

  after_some : {f l : Mapping} → lo < hi → f ≡ mapping_at ws lo → l ≡ mapping_at ws (hi - 1)
      → after r hit ≡ prepend (lower_part a f) [] ++ (new r ++ prepend (upper_part b l) [])
  after_some h e d = rw (below_hit h e, above_hit (hi - 1) (omega arith) (omega arith) d)

  pub length_places : length (after r ms) ≡ lo + length (after r hit) + (n - hi)
  length_places =
      let l : length (take lo ms) ≡ lo = length-take-le lo ms (omega (arith, low_high, length-mappings n ws)) in
      ap length after_places ∙ simp (length-append, length-drop, length-mappings) (omega (arith, l))

  -- ── the replacement, as it is put together ──

  pub replaced_none : (m : Option Mapping) → lo ≡ hi → part m ≡ new r → mappings_of (record { lower = None; new = m; upper = None }) ≡ after r hit
  replaced_none m e p = rw (p, after_none e) (append-nil (new r))

  pub replaced : {f l : Mapping} (n : Replacement) → (lo ≡ hi → ⊥) → f ≡ mapping_at ws lo → l ≡ mapping_at ws (hi - 1)
      → part n.lower ≡ prepend (lower_part a f) [] → part n.new ≡ new r → part n.upper ≡ prepend (upper_part b l) [] → mappings_of n ≡ after r hit
  replaced n ne ef el elower enew eupper =
      let h : lo < hi = omega (arith, low_high, ne) in
      rw (elower, enew, eupper, after_some h ef el)
