-- The loop of a batch: what is to come, behind what is done, is the whole.
-- Assumes nothing.
use mathlib.Core.Path.{◌≡◌, refl, sym, ap, ap₂, subst, ◌∙◌}
use mathlib.Core.List.{List, [], ◌∷◌, ◌++◌, map, append_assoc, append-nil}
use Prim.Native.Nat.{ℕ, zero, suc, ◌+◌, ◌-◌, ◌*◌, ◌/◌, ◌≤◌, ◌<◌}
use native.Mathlib.Omega.{arith}
use lib.ListN.{length, get_or, get_or-map, take, drop, length-append, length-drop, length-map, take-append-drop, drop_of_length-le}
use lib.Seq.{drop-cons, take-append-add, drop-append-add, length-take-le, take_all}
use borrow.Rule.Slice.PartMut.{put_mid}
use Rattle.model.specs.declared.Request.{Request}
use Rattle.model.specs.declared.Space.{Space}
use Rattle.model.specs.Rows.{Reply, refused, answered}
use Rattle.model.specs.Table.{Table}
use Rattle.model.specs.Calls.{request_of}
use Rattle.batches.specs.Batch.{records_in, requests_in}
use Rattle.table.specs.Places.{lent}
use Rattle.std.specs.Simd.{first_chunks}
use Rattle.change.specs.declared.Made.{Made}
use Rattle.change.specs.Change.{Changed}
use Rattle.request.specs.Bound.{Checked}
use Rattle.batch.specs.Turns.{one, more, behind, next, turned}
use Rattle.batch.proofs.Ones.{Kept, kept}

-- ── the records by their places ──

-- records of 40 bytes, as the library takes them
chunks_are : (k : ℕ) (bs : List ℕ) → first_chunks 40 k bs ≡ records_in k bs
unfolding records_in
chunks_are zero bs = refl
chunks_are (suc k) bs = ap (◌∷◌ (take 40 bs)) (chunks_are k (drop 40 bs))

pub by_chunks : (s : Space) {cs : List (List ℕ)} (t : Table) (os : List ℕ) {o : Changed} (bs : List ℕ) → cs ≡ first_chunks 40 (length bs / 40) bs
    → turned s 0 (map request_of cs) t os ≡ o → turned s 0 (requests_in bs) t os ≡ o
unfolding requests_in
by_chunks s t os bs e d = ap (λ (cs : List (List ℕ)). turned s 0 (map request_of cs) t os) (sym (e ∙ chunks_are (length bs / 40) bs)) ∙ d

request_at : (cs : List (List ℕ)) (i : ℕ) → i < length cs → drop i (map request_of cs) ≡ request_of (get_or cs i []) ∷ drop (suc i) (map request_of cs)
request_at cs i h =
    drop-cons (map request_of cs) i (request_of []) (omega (arith, h, length-map cs request_of))
    ∙ ap (λ (r : Request). r ∷ drop (suc i) (map request_of cs)) (get_or-map request_of cs i [])

requests_end : (cs : List (List ℕ)) (i : ℕ) → length cs ≤ i → drop i (map request_of cs) ≡ []
requests_end cs i h = drop_of_length-le (map request_of cs) {i = i} (omega (arith, h, length-map cs request_of))

-- ── what is done and what is to come ──

behind_again : (f g : List ℕ) (j k : ℕ) (o : Changed) → behind f j (behind g k o) ≡ behind (f ++ g) (j + k) o
behind_again f g j k o = λ i. record { reply = replies o.reply i; table = o.table; operations = sym (append_assoc f g o.operations) i }
  where
    replies : (a : Reply (Made)) → more j (more k a) ≡ more (j + k) a
    replies (refused n p) = refl
    replies (answered h) = λ i. answered (record { operations = sum i; count = h.count })
      where
        sum : j + (k + h.operations) ≡ j + k + h.operations
        sum = omega arith

-- i of the records cs are done, and made g: its operations stand in front of the words os, and ws holds its mappings
pub record Going (s : Space) (cs : List (List ℕ)) (t : Table) (before : List ℕ) (ws os : List ℕ) (g : Made) (i : ℕ) : Type 0 where
  pub checked : Checked s (lent ws g.count)
  pub fits : 14 * g.operations ≤ length os
  pub whole : turned s 0 (map request_of cs) t before
      ≡ behind (take (14 * g.operations) os) g.operations (turned s i (drop i (map request_of cs)) (lent ws g.count) (drop (14 * g.operations) os))

module _ {s : Space} {cs : List (List ℕ)} {t : Table} {before ws os : List ℕ} {done : Made} {i : ℕ} (go : Going s cs t before ws os done i) where
  abbrev k : ℕ
  k = done.operations

  abbrev n : ℕ
  n = done.count

  abbrev rs : List Request
  rs = map request_of cs

  -- the next request, on the words that are left
  abbrev o : Changed
  o = one s (lent ws n) (drop (14 * k) os) (request_of (get_or cs i []))

  abbrev rest : Changed → Made → Changed
  rest o g = turned s (suc i) (drop (suc i) rs) (lent o.table g.count) (drop (14 * g.operations) o.operations)

  first : i < length cs → turned s i (drop i rs) (lent ws n) (drop (14 * k) os) ≡ next i o.reply o.table o.operations (rest o)
  unfolding turned
  first h = ap (λ (rs : List Request). turned s i rs (lent ws n) (drop (14 * k) os)) (request_at cs i h)

  -- a refusal ends it
  refuses : {m p : ℕ} {a b : List ℕ} → i < length cs → o ≡ record { reply = refused m p; table = a; operations = b }
      → turned s 0 rs t before ≡ record { reply = refused m i; table = a; operations = take (14 * k) os ++ b }
  refuses h e = go.whole ∙ ap (behind (take (14 * k) os) k) (first h ∙ ap (λ (o : Changed). next i o.reply o.table o.operations (rest o)) e)

  -- a grant goes on
  abbrev sum_of : Made → Made
  sum_of g = record { operations = k + g.operations; count = g.count }

  grants : {g : Made} {a b os' : List ℕ} → i < length cs → o ≡ record { reply = answered g; table = a; operations = b }
      → length b ≡ length os - 14 * k → os' ≡ take (14 * k) os ++ b → Going s cs t before a os' (sum_of g) (i + 1)
  grants {g = g} {a = a} {b = b} {os' = os'} h e l d = record {
    checked = subst (λ (o : Changed). Checked s (lent o.table g.count)) e w.checked;
    fits = omega (arith, ap length d, length-append (take (14 * k) os) b, f, l, go.fits, room);
    whole = go.whole
        ∙ ap (behind (take (14 * k) os) k) (first h ∙ ap (λ (o : Changed). next i o.reply o.table o.operations (rest o)) e)
        ∙ behind_again (take (14 * k) os) (take (14 * m) b) k m (turned s (suc i) (drop (suc i) rs) (lent a g.count) (drop (14 * m) b))
        ∙ ap₂ (λ (f u : List ℕ). behind f (k + m) (turned s (suc i) (drop (suc i) rs) (lent a g.count) u)) (sym taken) (sym dropped)
        ∙ ap (λ (j : ℕ). behind (take (14 * (k + m)) os') (k + m) (turned s j (drop j rs) (lent a g.count) (drop (14 * (k + m)) os'))) (sym one_more);
  }
    where
      m : ℕ
      m = g.operations

      w : Kept s (lent ws n) (drop (14 * k) os) (request_of (get_or cs i [])) g
      w = kept s (lent ws n) (drop (14 * k) os) (request_of (get_or cs i [])) g go.checked (ap (λ (o : Changed). o.reply) e)

      f : length (take (14 * k) os) ≡ 14 * k
      f = length-take-le (14 * k) os go.fits

      room : 14 * m ≤ length os - 14 * k
      room = omega (arith, w.fits, length-drop (14 * k) os)

      sum : 14 * (k + m) ≡ length (take (14 * k) os) + 14 * m
      sum = omega (arith, f)

      taken : take (14 * (k + m)) os' ≡ take (14 * k) os ++ take (14 * m) b
      taken = ap₂ take sum d ∙ take-append-add (take (14 * k) os) b (14 * m)

      dropped : drop (14 * (k + m)) os' ≡ drop (14 * m) b
      dropped = ap₂ drop sum d ∙ drop-append-add (take (14 * k) os) b (14 * m)

      one_more : i + 1 ≡ suc i
      one_more = omega arith

  -- ── as the code has it: the tail of the slice lent on ──

  abbrev lent_on : List ℕ → Changed
  lent_on bytes = one s (lent ws n) (take (length os - 14 * k) (drop (14 * k) os)) (request_of bytes)

  lent_on_is : {bytes : List ℕ} → bytes ≡ get_or cs i [] → lent_on bytes ≡ o
  lent_on_is e = ap₂ (λ (us bs : List ℕ). one s (lent ws n) us (request_of bs)) tail e
    where
      tail : take (length os - 14 * k) (drop (14 * k) os) ≡ drop (14 * k) os
      tail = take_all (length os - 14 * k) (drop (14 * k) os) (omega (arith, length-drop (14 * k) os))

  back : (b : List ℕ) → put_mid (14 * k) (length os - 14 * k) os b ≡ take (14 * k) os ++ b
  back b =
      ap (λ (us : List ℕ). take (14 * k) os ++ (b ++ us)) (drop_of_length-le (drop (14 * k) os) {i = length os - 14 * k} (omega (arith, length-drop (14 * k) os)))
      ∙ ap (λ (us : List ℕ). take (14 * k) os ++ us) (append-nil b)

  module _ {bytes : List ℕ} (at : bytes ≡ get_or cs i []) {x : Reply Made} {a b : List ℕ} (e : lent_on bytes ≡ record { reply = x; table = a; operations = b }) where
    there : {y : Reply Made} → x ≡ y → o ≡ record { reply = y; table = a; operations = b }
    there d = sym (lent_on_is at) ∙ e ∙ ap (λ (x : Reply Made). record { reply = x; table = a; operations = b }) d

    pub refused_there : {m p q : ℕ} → i < length cs → x ≡ refused m p → q ≡ i
        → turned s 0 rs t before ≡ record { reply = refused m q; table = a; operations = put_mid (14 * k) (length os - 14 * k) os b }
    refused_there {m} h d l = refuses h (there d) ∙ ap₂ (λ (j : ℕ) (us : List ℕ). record { reply = refused m j; table = a; operations = us }) (sym l) (sym (back b))

    pub granted_there : {g : Made} → i < length cs → x ≡ answered g
        → length b ≡ length os - 14 * k → Going s cs t before a (put_mid (14 * k) (length os - 14 * k) os b) (sum_of g) (i + 1)
    granted_there h d l = grants h (there d) l (back b)

    pub granted_fits : {g : Made} → x ≡ answered g → 14 * (k + g.operations) ≤ length os
    granted_fits {g} d =
        let w = kept s (lent ws n) (drop (14 * k) os) (request_of (get_or cs i [])) g go.checked (ap (λ (o : Changed). o.reply) (there d)) in
        omega (arith, w.fits, length-drop (14 * k) os, go.fits)

  -- all of them are done
  pub ends : length cs ≤ i → turned s 0 rs t before ≡ record { reply = answered done; table = ws; operations = os }
  unfolding turned
  ends h =
      go.whole
      ∙ ap (λ (rs : List Request). behind (take (14 * k) os) k (turned s i rs (lent ws n) (drop (14 * k) os))) (requests_end cs i h)
      ∙ λ i. record { reply = answered (record { operations = sum i; count = n }); table = ws; operations = take-append-drop (14 * k) os i }
    where
      sum : k + 0 ≡ k
      sum = omega arith
