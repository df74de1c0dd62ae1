-- The pieces of a request, as actions on a table: in any order, however often, they make one put of the whole range.
-- Assumes nothing.
use mathlib.Core.Path.{◌≡◌, refl, sym, ap, ap₂, subst, ◌∙◌}
use mathlib.Core.Logic.{◌⊎◌, inl, inr}
use mathlib.Core.List.Memᴰ
use mathlib.Core.List.{List, [], ◌∷◌, ◌++◌, map, flat_map, append-nil}
use Prim.Native.Nat.{ℕ, zero, suc, ◌≤◌, ◌<◌}
use native.Mathlib.Omega.{arith}
use lib.ListN.{length, length-map}
use Rattle.model.specs.Prelude.{Mapping, Request}
use Rattle.model.specs.Rules.{end, stop}
use Rattle.model.specs.Cut.{put, mapping_of, new_for, new, after}
use Rattle.model.specs.Exactly.{◌∈◌, ◌⊆◌, Ordered, Multiple}
use Rattle.model.specs.Demand3.{piece, Pieces}
use Rattle.model.proofs.Numbers.{order}
use Rattle.model.proofs.Puts.{Within, put_over, put-apart, put_chain}
use Rattle.model.proofs.Actions.{each, each_mem, each_map, run, same_run}
use Rattle.model.proofs.New.{new-map, new_unmap}
use Rattle.model.proofs.Cuts.{Apart, pieces_from, pieces, CutsFrom, Cuts}

-- ── the new mappings of a request and of its pieces ──

new_for_within : (n : ℕ) (m : Mapping) → 0 < m.size → Within m.address (end m) (new_for n m)
new_for_within zero m h = omega arith
new_for_within (suc n) m h = tt

new_within : (r : Request) → 0 < r.size → Within r.address (stop r) (new r)
new_within r h = new_for_within r.op (mapping_of r) h

pub news_map : (r : Request) (from : ℕ) (cs : List ℕ) → r.op ≡ 0 → flat_map new (pieces_from r from cs) ≡ map mapping_of (pieces_from r from cs)
unfolding pieces_from flat_map
news_map r from [] e = ap (λ (x : List Mapping). x ++ []) (new-map (piece r from (stop r)) e)
news_map r from (c ∷ cs) e = ap₂ (λ (x y : List Mapping). x ++ y) (new-map (piece r from c) e) (news_map r c cs e)

pub news_unmap : (r : Request) (from : ℕ) (cs : List ℕ) → (r.op ≡ 0 → ⊥) → flat_map new (pieces_from r from cs) ≡ []
unfolding pieces_from flat_map
news_unmap r from [] h = ap (λ (x : List Mapping). x ++ []) (new_unmap (piece r from (stop r)) h)
news_unmap r from (c ∷ cs) h = ap₂ (λ (x y : List Mapping). x ++ y) (new_unmap (piece r from c) h) (news_unmap r c cs h)

pub pieces_length : (r : Request) (from : ℕ) (cs : List ℕ) → length (pieces_from r from cs) ≡ suc (length cs)
unfolding pieces_from
pieces_length r from [] = refl
pieces_length r from (c ∷ cs) = ap suc (pieces_length r c cs)

-- the pieces have at least as many as the whole request
pub news_enough : (r : Request) (cs : List ℕ) → length (new r) ≤ length (flat_map new (pieces r cs))
news_enough r cs = go r.op refl
  where
    go : (n : ℕ) → r.op ≡ n → length (new_for n (mapping_of r)) ≤ length (flat_map new (pieces r cs))
    go zero e = omega (arith, ap length (news_map r r.address cs e), length-map (pieces r cs) mapping_of, pieces_length r r.address cs)
    go (suc n) e = omega arith

-- ── where the pieces lie ──

pub cuts_end : (r : Request) (from : ℕ) (cs : List ℕ) → CutsFrom r from cs → from < stop r
cuts_end r from [] h = h
cuts_end r from (c ∷ cs) h = let k : c < stop r = cuts_end r c cs h.2 in omega arith

piece-stop : (r : Request) (x y : ℕ) → x ≤ y → stop (piece r x y) ≡ y
piece-stop r x y h = omega arith

record Lies (from : ℕ) (p : Request) : Type 0 where
  low : from ≤ p.address
  not_empty : 0 < p.size

lies : (r : Request) (from : ℕ) (cs : List ℕ) → CutsFrom r from cs → (p : Request) → p ∈ pieces_from r from cs → Lies from p
unfolding pieces_from
lies r from [] h p (Memᴰ.tail m) = elim m [ ]
lies r from [] h p (Memᴰ.head e) = subst (Lies from) (sym e) (omega arith)
lies r from (c ∷ cs) h p (Memᴰ.head e) = subst (Lies from) (sym e) (omega arith)
lies r from (c ∷ cs) h p (Memᴰ.tail m) = let l : Lies c p = lies r c cs h.2 p m in omega arith

pub pieces_ascending : (r : Request) (from : ℕ) (cs : List ℕ) → CutsFrom r from cs → Ordered (λ p q. stop p ≤ q.address) (pieces_from r from cs)
unfolding pieces_from
pieces_ascending r from [] h = (tt, tt)
pieces_ascending r from (c ∷ cs) h = (
  each (λ q. stop (piece r from c) ≤ q.address) (pieces_from r c cs)
      (λ q m. omega (arith, (lies r c cs h.2 q m).low, piece-stop r from c (omega (arith, h.0)))),
  pieces_ascending r c cs h.2,
)

-- a piece of r from an address on: its form, where it ends, and where it starts
record IsPiece (r : Request) (from : ℕ) (p : Request) : Type 0 where
  part : p ≡ piece r p.address (stop p)
  high : stop p ≤ stop r
  start : (p.address ≡ from) ⊎ Multiple p.address

is_piece : (r : Request) (x y : ℕ) → x ≤ y → y ≤ stop r → IsPiece r x (piece r x y)
is_piece r x y h k = record { part = ap (piece r x) (sym (piece-stop r x y h)); high = omega arith; start = inl refl }

are_pieces : (r : Request) (from : ℕ) (cs : List ℕ) → CutsFrom r from cs → (p : Request) → p ∈ pieces_from r from cs → IsPiece r from p
unfolding pieces_from
are_pieces r from [] h p (Memᴰ.tail m) = elim m [ ]
are_pieces r from [] h p (Memᴰ.head e) = subst (IsPiece r from) (sym e) (is_piece r from (stop r) (omega arith) (omega arith))
are_pieces r from (c ∷ cs) h p (Memᴰ.head e) =
    subst (IsPiece r from) (sym e) (is_piece r from c (omega arith) (omega (arith, cuts_end r c cs h.2)))
are_pieces r from (c ∷ cs) h p (Memᴰ.tail m) =
    let i : IsPiece r c p = are_pieces r c cs h.2 p m in
    record { part = i.part; high = i.high; start = inr (multiple i.start) }
  where
    multiple : (p.address ≡ c) ⊎ Multiple p.address → Multiple p.address
    multiple (inl e) = subst Multiple (sym e) h.1
    multiple (inr k) = k

-- together they cover the range
covered : (r : Request) (from : ℕ) (cs : List ℕ) → CutsFrom r from cs → (x : ℕ) → from ≤ x → x < stop r
    → (p : Request) × p ∈ pieces_from r from cs × (p.address ≤ x) × (x < stop p)
unfolding pieces_from
covered r from [] h x l k = (piece r from (stop r), Memᴰ.head refl, l, omega arith)
covered r from (c ∷ cs) h x l k = go (order c x) (λ n. covered r c cs h.2 x n k)
  where
    go : (c ≤ x) ⊎ (x < c) → (c ≤ x → (p : Request) × p ∈ pieces_from r c cs × (p.address ≤ x) × (x < stop p))
        → (p : Request) × p ∈ (piece r from c ∷ pieces_from r c cs) × (p.address ≤ x) × (x < stop p)
    go (inl n) ih = let w = ih n in (w.0, Memᴰ.tail w.1, w.2, w.3)
    go (inr n) ih = (piece r from c, Memᴰ.head refl, l, omega arith)

ordered_map : {A : Type 0} (R S : A → A → Type 0) (l : List A) → ((x y : A) → R x y → S x y) → Ordered R l → Ordered S l
ordered_map R S [] f o = tt
ordered_map R S (x ∷ l) f o = (each_map (R x) (S x) l (f x) o.0, ordered_map R S l f o.1)

-- any request cut at ascending page addresses has its pieces
pub cut_pieces : (r : Request) (cs : List ℕ) → Cuts r cs → Pieces r (pieces r cs)
cut_pieces r cs h = record {
  one_or_more = omega (arith, pieces_length r r.address cs);
  not_empty = λ p m. (lies r r.address cs h p m).not_empty;
  part = λ p m. (are_pieces r r.address cs h p m).part;
  apart = ordered_map (λ p q. stop p ≤ q.address) Apart (pieces r cs) (λ p q. inl) (pieces_ascending r r.address cs h);
  inside = λ p m. ((lies r r.address cs h p m).low, (are_pieces r r.address cs h p m).high);
  whole = covered r r.address cs h;
  meet = λ p q m n e. meet p q e (lies r r.address cs h p m) (are_pieces r r.address cs h q n).start;
}
  where
    -- the first piece has none in front of it
    meet : (p q : Request) → stop p ≡ q.address → Lies r.address p → (q.address ≡ r.address) ⊎ Multiple q.address → Multiple q.address
    meet p q e l (inl d) = absurd (omega (arith, e, l, d))
    meet p q e l (inr k) = k

-- two members of an ordered list are the same, or related one way or the other
ordered_two : {A : Type 0} (R : A → A → Type 0) (l : List A) → Ordered R l → (x y : A) → x ∈ l → y ∈ l → (x ≡ y) ⊎ (R x y ⊎ R y x)
ordered_two {A = A} R [] o x y x5 _ = elim x5 [ ]
ordered_two R (z ∷ l) o x y (Memᴰ.head d) (Memᴰ.head e) = inl (d ∙ sym e)
ordered_two R (z ∷ l) o x y (Memᴰ.head d) (Memᴰ.tail n) = inr (inl (subst (λ z. R z y) (sym d) (each_mem (R z) l y o.0 n)))
ordered_two R (z ∷ l) o x y (Memᴰ.tail m) (Memᴰ.head e) = inr (inr (subst (λ z. R z x) (sym e) (each_mem (R z) l x o.0 m)))
ordered_two R (z ∷ l) o x y (Memᴰ.tail m) (Memᴰ.tail n) = ordered_two R l o.1 x y m n

-- ── the pieces as actions ──

comm : (x y : Request) → 0 < x.size → 0 < y.size → (x ≡ y) ⊎ Apart x y → (t : List Mapping) → after x (after y t) ≡ after y (after x t)
comm x y h k (inl e) t = subst (λ (z : Request). after x (after z t) ≡ after z (after x t)) e refl
comm x y h k (inr (inl l)) t =
    put-apart x.address (stop x) y.address (stop y) (new x) (new y) t (new_within x h) (new_within y k) (omega arith) l (omega arith)
comm x y h k (inr (inr l)) t =
    sym (put-apart y.address (stop y) x.address (stop x) (new y) (new x) t (new_within y k) (new_within x h) (omega arith) l (omega arith))

idem : (x : Request) → 0 < x.size → (t : List Mapping) → after x (after x t) ≡ after x t
idem x h t =
    put_over x.address (stop x) x.address (stop x) (new x) (new x) t (new_within x h) (omega arith) (omega arith) (omega arith)

piece-after : (r : Request) (x y : ℕ) (t : List Mapping) → x ≤ y → after (piece r x y) t ≡ put x y (new (piece r x y)) t
piece-after r x y t h = ap (λ (z : ℕ). put x z (new (piece r x y)) t) (piece-stop r x y h)

piece_within : (r : Request) (x y : ℕ) → x < y → Within x y (new (piece r x y))
piece_within r x y h =
    subst (λ (z : ℕ). Within x z (new (piece r x y))) (piece-stop r x y (omega arith)) (new_within (piece r x y) (omega arith))

pieces_run : (r : Request) (from : ℕ) (cs : List ℕ) → CutsFrom r from cs → (t : List Mapping)
    → run after (pieces_from r from cs) t ≡ put from (stop r) (flat_map new (pieces_from r from cs)) t
unfolding pieces_from flat_map
pieces_run r from [] h t =
    piece-after r from (stop r) t (omega arith) ∙ ap (λ (z : List Mapping). put from (stop r) z t) (sym (append-nil (new (piece r from (stop r)))))
pieces_run r from (c ∷ cs) h t =
    let k : c < stop r = cuts_end r c cs h.2 in
    pieces_run r c cs h.2 (after (piece r from c) t)
    ∙ ap (put c (stop r) (flat_map new (pieces_from r c cs))) (piece-after r from c t (omega arith))
    ∙ put_chain from c (stop r) (new (piece r from c)) (flat_map new (pieces_from r c cs)) t (piece_within r from c h.0) (omega arith) (omega arith)

-- any list of the pieces that has each of them at least once
pub any_order : (r : Request) (cs : List ℕ) → Cuts r cs → (G : List Request) → G ⊆ pieces r cs → pieces r cs ⊆ G → (t : List Mapping)
    → run after G t ≡ put r.address (stop r) (flat_map new (pieces r cs)) t
any_order r cs h G gp pg t =
    same_run after (λ x. x ∈ pieces r cs) (λ x y mx my. comm x y (size x mx) (size y my) (apart x y mx my)) (λ x mx. idem x (size x mx))
    (pieces r cs) G (each (λ x. x ∈ pieces r cs) (pieces r cs) (λ x m. m)) gp pg gp t
    ∙ pieces_run r r.address cs h t
  where
    size : (x : Request) → x ∈ pieces r cs → 0 < x.size
    size x m = (lies r r.address cs h x m).not_empty

    apart : (x y : Request) → x ∈ pieces r cs → y ∈ pieces r cs → (x ≡ y) ⊎ Apart x y
    apart = ordered_two (λ p q. stop p ≤ q.address) (pieces r cs) (pieces_ascending r r.address cs h)
