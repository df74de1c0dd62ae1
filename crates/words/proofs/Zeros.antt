-- Words that are zero, joined bit by bit: the joined word is zero exactly if each is. Stores that leave zeros at the end.
-- Assumes nothing.
use mathlib.Core.Path.{◌≡◌, refl, sym, ap, ◌∙◌}
use mathlib.Core.List.{List, [], ◌∷◌}
use Prim.Native.Nat.{ℕ, zero, suc, ◌*◌, ◌+◌, ◌-◌, ◌/◌, ◌%◌, ◌≤◌, ◌<◌}
use native.Mathlib.Omega.{arith}
use Rattle.std.proofs.lemmas.List.{take-replicate, drop-replicate}
use Rattle.std.specs.List.{fold}
use Rattle.std.specs.Simd.{first_chunks}
use lib.Bits.{bit_or, or_add_and, and_le_l, and_le_r}
use lib.ListN.{length, get_or, take, drop, replicate, take-append-drop, length-drop, length-replicate, replicate-append-replicate}
use lib.Seq.{length-take-le, take-add, take-take, take-length, drop-drop, drop-cons}
use Rattle.words.specs.Words.{stored, cleared, Zeros, ZeroFrom, Tells, Blank, Joins}
use borrow.Author.Rules.{rules}
use Rattle.std.proofs.lemmas.List.{drop-take}
use Rattle.words.proofs.Stored.{drop-stored, length-stored, cleared_twice}

or-zero : (a b : ℕ) → bit_or a b ≡ 0 → (a ≡ 0) × (b ≡ 0)
or-zero a b e = (omega (arith, e, or_add_and a b, and_le_r a b), omega (arith, e, or_add_and a b, and_le_l a b))

zero_or : (a b : ℕ) → a ≡ 0 → b ≡ 0 → bit_or a b ≡ 0
zero_or a b p q = omega (arith, p, q, or_add_and a b)

module _ (ws : List ℕ) (from : ℕ) where
  -- ── words and those behind them ──

  zeros_both : (n m : ℕ) → Zeros ws from n → Zeros ws (from + n) m → Zeros ws from (n + m)
  zeros_both n m z y = take-add n m (drop from ws) ∙ rw (z, drop-drop n from ws, y) (replicate-append-replicate {A = ℕ} n m 0)

  zeros_first : (n m : ℕ) → Zeros ws from (n + m) → Zeros ws from n
  zeros_first n m z =
      sym (take-take n (n + m) (drop from ws) (omega arith)) ∙ ap (take n) z ∙ take-replicate n (n + m) 0 (omega arith)

  zeros_second : (n m : ℕ) → from + n ≤ length ws → Zeros ws from (n + m) → Zeros ws (from + n) m
  zeros_second n m h z =
      let l : n ≤ length (drop from ws) = simp length-drop (omega arith) in
      let e : n + m - n ≡ m = omega arith in
      rw (← drop-drop n from ws) (sym (drop-take n m (drop from ws)) ∙ ap (drop n) z ∙ rw e at (drop-replicate {X = ℕ} n (n + m) 0))

  both_tell : {a b : ℕ} (n m : ℕ) → from + n ≤ length ws → Tells ws from n a → Tells ws (from + n) m b
      → Tells ws from (n + m) (bit_or a b)
  both_tell {a} {b} n m h t u = record {
    words_zero = λ e. let o = or-zero a b e in zeros_both n m (t.words_zero o.0) (u.words_zero o.1);
    seen_zero = λ z. zero_or a b (t.seen_zero (zeros_first n m z)) (u.seen_zero (zeros_second n m h z));
  }

  -- one
  pub word_tells : from < length ws → Tells ws from 1 (get_or ws from 0)
  word_tells h =
      let e : take 1 (drop from ws) ≡ get_or ws from 0 ∷ [] = ap (take 1) (drop-cons ws from 0 h) in
      record { words_zero = λ z. e ∙ rw z; seen_zero = λ z. ap (λ (l : List ℕ). get_or l 0 0) (sym e ∙ z) }

  -- ── in four words, with what was joined before ──

  pub none_join : (seen : List ℕ) → Joins seen ws from 0 seen
  none_join seen = record { words_zero = λ b. (b, refl); all_zero = λ b z. b }

  pub more_join : {seen most all : List ℕ} (n m : ℕ) → from + n ≤ length ws → Joins seen ws from n most → Joins most ws (from + n) m all
      → Joins seen ws from (n + m) all
  more_join n m h j k = record {
    words_zero = λ b. let p = k.words_zero b in let q = j.words_zero p.0 in (q.0, zeros_both n m q.1 p.1);
    all_zero = λ b z. k.all_zero (j.all_zero b (zeros_first n m z)) (zeros_second n m h z);
  }

  -- ── all of them ──

  all_words : take (length ws - from) (drop from ws) ≡ drop from ws
  all_words = rw (← length-drop from ws) (take-length (drop from ws))

  all_zero : Zeros ws from (length ws - from) → ZeroFrom ws from
  all_zero z = sym all_words ∙ z

  zero-all : ZeroFrom ws from → Zeros ws from (length ws - from)
  zero-all z = all_words ∙ z

  -- n of them joined in four words, those behind in one
  pub joined_zero : {none all : List ℕ} {rest : ℕ} (n : ℕ) → from + n ≤ length ws → Blank none → Joins none ws from n all
      → Tells ws (from + n) (length ws - (from + n)) rest → (Blank all → rest ≡ 0 → ZeroFrom ws from) × (ZeroFrom ws from → Blank all × (rest ≡ 0))
  joined_zero n h none j t =
      let e : length ws - from ≡ n + (length ws - (from + n)) = omega arith in (
        λ b r. all_zero (rw e (zeros_both n (length ws - (from + n)) (j.words_zero b).1 (t.words_zero r))),
        λ z.
            let y = rw e at (zero-all z) in
            (j.all_zero none (zeros_first n (length ws - (from + n)) y), t.seen_zero (zeros_second n (length ws - (from + n)) h y)),
      )

  -- where they are, a clear changes nothing
  pub cleared-zero : ZeroFrom ws from → cleared ws from ≡ ws
  unfolding cleared
  cleared-zero z = rw (← z) (take-append-drop from ws)

  pub zero_later : (to : ℕ) → from ≤ to → to ≤ length ws → ZeroFrom ws from → ZeroFrom ws to
  zero_later to h k z =
      let d : from + (to - from) ≡ to = omega arith in
      let n : length ws - from - (to - from) ≡ length ws - to = omega arith in
      rw d at (sym (drop-drop (to - from) from ws)) ∙ ap (drop (to - from)) z ∙ rw n at (drop-replicate {X = ℕ} (to - from) (length ws - from) 0)

-- four words, each joined with its own
pub words_join : (ws : List ℕ) (at : ℕ) (seen : List ℕ) → at + 4 ≤ length ws → Joins seen ws at 4 (
    bit_or (get_or seen 0 0) (get_or ws at 0)
    ∷ bit_or (get_or seen 1 0) (get_or ws (at + 1) 0)
    ∷ bit_or (get_or seen 2 0) (get_or ws (at + 2) 0)
    ∷ bit_or (get_or seen 3 0) (get_or ws (at + 3) 0)
    ∷ []
    )
words_join ws at seen h =
    let a = word_tells ws at (omega arith) in
    let b = word_tells ws (at + 1) (omega arith) in
    let c = word_tells ws (at + 2) (omega arith) in
    let d = word_tells ws (at + 3) (omega arith) in
    let all = both_tell ws at 3 1 (omega arith) (both_tell ws at 2 1 (omega arith) (both_tell ws at 1 1 (omega arith) a b) c) d in
    record {
      words_zero = λ z.
          let p = or-zero _ _ z.0 in
          let q = or-zero _ _ z.1 in
          let r = or-zero _ _ z.2 in
          let s = or-zero _ _ z.3 in
          ((p.0, q.0, r.0, s.0), all.words_zero (zero_or _ _ (zero_or _ _ (zero_or _ _ p.1 q.1) r.1) s.1));
      all_zero = λ b z.
          let p = or-zero _ _ (all.seen_zero z) in
          let q = or-zero _ _ p.0 in
          let r = or-zero _ _ q.0 in
          (zero_or _ _ b.0 r.0, zero_or _ _ b.1 r.1, zero_or _ _ b.2 q.1, zero_or _ _ b.3 p.1);
    }

-- all of them, and the word to which the rest was joined
pub blank_or : (all : List ℕ) (rest : ℕ)
    → bit_or (bit_or (bit_or (bit_or (get_or all 0 0) (get_or all 1 0)) (get_or all 2 0)) (get_or all 3 0)) rest ≡ 0 → Blank all × (rest ≡ 0)
blank_or all rest e =
    let p = or-zero _ _ e in
    let q = or-zero _ _ p.0 in
    let r = or-zero _ _ q.0 in
    let s = or-zero _ _ r.0 in
    ((s.0, s.1, r.1, q.1), p.1)

pub or_blank : (all : List ℕ) (rest : ℕ) → Blank all → rest ≡ 0
    → bit_or (bit_or (bit_or (bit_or (get_or all 0 0) (get_or all 1 0)) (get_or all 2 0)) (get_or all 3 0)) rest ≡ 0
or_blank all rest b e = zero_or _ _ (zero_or _ _ (zero_or _ _ (zero_or _ _ b.0 b.1) b.2) b.3) e

-- ── words of a part are words of the whole ──

module _ (ws part : List ℕ) (from m n : ℕ) (is : part ≡ take m (drop from ws)) (h : n ≤ m) where
  part_words : take n part ≡ take n (drop from ws)
  part_words = ap (take n) is ∙ take-take n m (drop from ws) h

  pub part_tells : {seen : ℕ} → Tells part 0 n seen → Tells ws from n seen
  part_tells t = record { words_zero = λ e. sym part_words ∙ t.words_zero e; seen_zero = λ z. t.seen_zero (part_words ∙ z) }

  pub part_joins : {seen all : List ℕ} → Joins seen part 0 n all → Joins seen ws from n all
  part_joins j = record {
    words_zero = λ b. let z = j.words_zero b in (z.0, sym part_words ∙ z.1);
    all_zero = λ b z. j.all_zero b (part_words ∙ z);
  }

pub chunk_is : (n k i : ℕ) (ws d : List ℕ) → i < k → get_or (first_chunks n k ws) i d ≡ take n (drop (n * i) ws)
chunk_is n zero i ws d h = grind arith
chunk_is n (suc k) zero ws d h =
    let e : n * 0 ≡ 0 = omega arith in
    rw e
chunk_is n (suc k) (suc i) ws d h =
    let e : n * suc i ≡ n + n * i = grind arith in
    chunk_is n k i (drop n ws) d (omega arith) ∙ rw (drop-drop (n * i) n ws, e)

pub length_chunk : (n k i : ℕ) (ws part : List ℕ) → i < k → n * k ≤ length ws → part ≡ get_or (first_chunks n k ws) i [] → length part ≡ n
length_chunk n k i ws part h l e =
    let more : n * (i + 1) ≡ n * i + n = grind arith in
    let fit : n * (i + 1) ≤ n * k = search rules in
    rw (e ∙ chunk_is n k i ws [] h) (length-take-le n (drop (n * i) ws) (simp length-drop (omega arith)))

-- one chunk more of n words
pub chunk_joins : (ws part : List ℕ) (n k i : ℕ) {seen most all : List ℕ} → i < k → n * k ≤ length ws
    → part ≡ get_or (first_chunks n k ws) i [] → Joins seen ws 0 (n * i) most → Joins most part 0 n all → Joins seen ws 0 (n * (i + 1)) all
chunk_joins ws part n k i h l e j m =
    let is = e ∙ chunk_is n k i ws [] h in
    let at : 0 + n * i ≡ n * i = omega arith in
    let more : n * (i + 1) ≡ n * i + n = grind arith in
    let fit : n * (i + 1) ≤ n * k = search rules in
    rw more (more_join ws 0 (n * i) n (omega arith) j (rw at (part_joins ws part (n * i) n n is (omega arith) m)))

-- the same of a chunk joined by fours in one go, or in two that are all of it: so the edit sixteen_skipped is refused for the
-- words that its two leave out, and not for being two
module _ (ws : List ℕ) (parts : List (List ℕ)) (n k i : ℕ) (is : parts ≡ first_chunks n k ws) (h : i < k) (fit : n * k ≤ length ws) where
  abbrev pub chunk : List ℕ
  chunk = get_or parts i []

  chunk_in : chunk ≡ get_or (first_chunks n k ws) i []
  chunk_in = ap (λ (x : List (List ℕ)). get_or x i []) is

  long : length chunk ≡ n
  long = length_chunk n k i ws chunk h fit chunk_in

  pub once_joins : {seen most all : List ℕ} → n % 4 ≡ 0 → Joins seen ws 0 (n * i) most → Joins most chunk 0 (4 * (length chunk / 4)) all
      → Joins seen ws 0 (n * (i + 1)) all
  once_joins z j m =
      let e : 4 * (length chunk / 4) ≡ n = omega (arith, long) in
      chunk_joins ws chunk n k i h fit chunk_in j (rw e at m)

  pub twice_joins : (a b : ℕ) {seen most mid all : List ℕ} → a + b ≡ n → a % 4 ≡ 0 → b % 4 ≡ 0 → Joins seen ws 0 (n * i) most
      → Joins most (take a chunk) 0 (4 * (length (take a chunk) / 4)) mid
      → Joins mid (take b (drop a chunk)) 0 (4 * (length (take b (drop a chunk)) / 4)) all → Joins seen ws 0 (n * (i + 1)) all
  twice_joins a b {most = most} {mid = mid} {all = all} s za zb j first second =
      let la : length (take a chunk) ≡ a = length-take-le a chunk (omega (arith, long)) in
      let lb : length (take b (drop a chunk)) ≡ b = length-take-le b (drop a chunk) (simp length-drop (omega (arith, long))) in
      let ea : 4 * (length (take a chunk) / 4) ≡ a = omega (arith, la) in
      let eb : 4 * (length (take b (drop a chunk)) / 4) ≡ b = omega (arith, lb) in
      let at : 0 + a ≡ a = omega arith in
      let one : Joins most chunk 0 a mid = part_joins chunk (take a chunk) 0 a a refl (omega arith) (rw ea at first) in
      let two : Joins mid chunk (0 + a) b all = rw at (part_joins chunk (take b (drop a chunk)) a b b refl (omega arith) (rw eb at second)) in
      chunk_joins ws chunk n k i h fit chunk_in j (rw s at (more_join chunk 0 a b (omega (arith, long)) one two))

-- the words up to a place joined in four, those behind up to the next too, and the rest in one
pub all_joined : (ws behind rest : List ℕ) (most more : ℕ) {none some all : List ℕ} {seen : ℕ} → most + more ≤ length ws
    → behind ≡ drop most ws → rest ≡ drop more behind → Blank none → Joins none ws 0 most some → Joins some behind 0 more all
    → Tells rest 0 (length rest) seen → (Blank all → seen ≡ 0 → ZeroFrom ws 0) × (ZeroFrom ws 0 → Blank all × (seen ≡ 0))
all_joined ws behind rest most more {some = some} {all = all} {seen = seen} h b r none p q t =
    let from : 0 + most ≡ most = omega arith in
    let end : 0 + (most + more) ≡ most + more = omega arith in
    let last : rest ≡ drop (most + more) ws = r ∙ rw b (drop-drop more most ws) in
    let n : ℕ = length ws - (most + more) in
    let l : length rest ≡ n = rw last (length-drop (most + more) ws) in
    let second : Joins some ws (0 + most) more all =
    rw from (part_joins ws behind most (length ws - most) more (b ∙ sym (all_words ws most)) (omega arith) q)
    in
    let third : Tells ws (0 + (most + more)) (length ws - (0 + (most + more))) seen =
    rw end (part_tells ws rest (most + more) n n (last ∙ sym (all_words ws (most + more))) (omega arith) (rw l at t))
    in
    joined_zero ws 0 (most + more) (omega arith) none (more_join ws 0 most more (omega arith) p second) third

-- ── words joined one by one ──

or_fold : (a : ℕ) (ws : List ℕ) → fold bit_or a ws ≡ 0 → (a ≡ 0) × (ws ≡ replicate (length ws) 0)
or_fold a [] e = (e, refl)
or_fold a (w ∷ ws) e =
    let more = or_fold (bit_or a w) ws e in
    let both = or-zero a w more.0 in
    (both.0, ap (λ x. x ∷ ws) both.1 ∙ ap (λ (xs : List ℕ). 0 ∷ xs) more.1)

fold_or : (n : ℕ) → fold bit_or 0 (replicate n 0) ≡ 0
fold_or zero = refl
fold_or (suc n) = rw (zero_or 0 0 refl refl) (fold_or n)

pub fold_tells : (ws : List ℕ) → Tells ws 0 (length ws) (fold bit_or 0 ws)
fold_tells ws = record {
  words_zero = λ e. take-length ws ∙ (or_fold 0 ws e).1;
  seen_zero = λ z. ap (fold bit_or 0) (sym (take-length ws) ∙ z) ∙ fold_or (length ws);
}

-- a run stored before them leaves them zero
pub zero-stored : (ws : List ℕ) (at : ℕ) (run : List ℕ) (from : ℕ) → at + length run ≤ from → at + length run ≤ length ws
    → ZeroFrom ws from → ZeroFrom (stored ws at run) from
zero-stored ws at run from h k z = drop-stored ws at run from h (omega arith) ∙ rw (length-stored ws at run k) z

-- with zeros behind, a clear up to there is one to the end
pub cleared-up_to : (ws : List ℕ) (from to : ℕ) → from ≤ to → to ≤ length ws → ZeroFrom ws to
    → stored ws from (replicate (to - from) 0) ≡ cleared ws from
cleared-up_to ws from to h k z =
    let zs : List ℕ = replicate (to - from) 0 in
    let l : length zs ≡ to - from = length-replicate (to - from) 0 in
    sym (cleared-zero (stored ws from zs) to (zero-stored ws from zs to (omega arith) (omega arith) z)) ∙ cleared_twice ws from to h k
