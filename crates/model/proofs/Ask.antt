-- A request may be asked of a space exactly if each of its pieces may, the pieces being those at ascending addresses.
-- Assumes nothing.
use mathlib.Core.Path.{◌≡◌, refl, subst}
use mathlib.Core.Logic.{inl, inr}
use mathlib.Core.List.{List, [], ◌∷◌}
use Prim.Native.Nat.{ℕ, zero, suc, ◌+◌, ◌-◌, ◌≤◌, ◌<◌, min, max}
use native.Mathlib.Omega.{arith}
use lib.Dec.{eqb, eqb→eq}
use Rattle.model.specs.Prelude.{Space, Request}
use Rattle.model.specs.Rules.{stop, object_tests, offset_tests}
use Rattle.model.specs.Exactly.{Each, Multiple}
use Rattle.model.specs.Demand3.{piece, piece_offset}
use Rattle.model.proofs.Tests.{Alls, tests, or_cases, or_left, eq→eqb}
use Rattle.model.proofs.Groups.{FormPassed, RequestPassed}
use Rattle.model.proofs.Cuts.{pieces_from, pieces, CutsFrom, Cuts}
use Rattle.model.proofs.Pieces.{cuts_end}

-- [a, b) keeps off the reservation
abbrev KeepsOff : Space → ℕ → ℕ → Type 0
KeepsOff s a b = min b (s.reserved.start + s.reserved.size) ≤ max a s.reserved.start

-- r is without the flag, and passes 13, 14 and 6 to 10
pub record Asked (s : Space) (r : Request) : Type 0 where
  pub form : (r.op ≤ 1) × (r.flags ≡ 0) × (r.pad ≡ 0)
  pub address_multiple : Multiple r.address
  pub size_multiple : Multiple r.size
  pub offset_multiple : Multiple r.offset
  pub not_empty : 0 < r.size
  pub low : s.start ≤ r.address
  pub high : stop r ≤ s.start + s.size
  pub unreserved : KeepsOff s r.address (stop r)
  pub object_fits : Alls (object_tests r.op r)
  pub offset_fits : Alls (offset_tests r.op r)

-- a request without the flag that is served
pub asked_by : {s : Space} {served : ℕ} {r : Request} → (r.flags ≡ served → r.flags ≡ 0) → FormPassed served r → RequestPassed s r → Asked s r
asked_by {s} {served} {r} plain k h = record {
  form = (omega (tests, k.op), no_flags, omega (tests, k.flags.1));
  address_multiple = omega (tests, h.alignment);
  size_multiple = omega (tests, h.alignment);
  offset_multiple = omega (tests, h.alignment);
  not_empty = omega (tests, h.alignment);
  low = omega (tests, h.range);
  high = omega (tests, h.range);
  unreserved = omega (tests, h.reservation);
  object_fits = subst (λ (n : ℕ). Alls (object_tests n r)) op h.object;
  offset_fits = h.offset;
}
  where
    no_flags : r.flags ≡ 0
    no_flags = elim (or_cases (eqb r.flags 0) (eqb r.flags served) k.flags.0) [ inl e ↦ eqb→eq _ 0 e | inr e ↦ plain (eqb→eq _ served e) ]

    op : r.op + r.flags ≡ r.op
    op = omega (arith, no_flags)

pub by_asked : {s : Space} {r : Request} → Asked s r → (served : ℕ) → FormPassed served r × RequestPassed s r
by_asked {s} {r} a served = (
  record {
    op = omega (tests, a.form);
    flags = (or_left (eqb r.flags 0) (eqb r.flags served) (eq→eqb _ 0 a.form.1), (omega (tests, a.form), tt));
  },
  record {
    alignment = omega (tests, a);
    range = omega (tests, a.low, a.high);
    reservation = omega (tests, a.unreserved);
    object = subst (λ (n : ℕ). Alls (object_tests n r)) op a.object_fits;
    offset = a.offset_fits;
  },
)
  where
    op : r.op ≡ r.op + r.flags
    op = omega (arith, a.form)

-- ── by the op ──

-- r with another op: a proof that goes by the op of a piece is stated of it
abbrev with_op : ℕ → Request → Request
with_op n r = record { op = n; flags = r.flags; object = r.object; pad = r.pad; address = r.address; offset = r.offset; size = r.size }

abbrev Op : ℕ → Request → Type 0
Op n r = Multiple r.offset × Alls (object_tests n r) × Alls (offset_tests n r)

piece_op : (n : ℕ) (r : Request) (x y : ℕ) → Op n r → r.address ≤ x → x < y → y ≤ stop r → Multiple r.address → Multiple x
    → Op n (piece (with_op n r) x y)
piece_op zero r x y o h k l p q = (omega arith, o.1, omega tests)
piece_op (suc n) r x y o h k l p q = o

join_op : (n : ℕ) (r : Request) (x y z : ℕ) → r.address ≤ x → x < y → y < z
    → Op n (piece (with_op n r) x y) → Op n (piece (with_op n r) y z) → Op n (piece (with_op n r) x z)
join_op zero r x y z h k l o q = (o.0, o.1, omega tests)
join_op (suc n) r x y z h k l o q = o

-- ── a piece; two that touch; all of them ──

piece-asked : (s : Space) (r : Request) (x y : ℕ) → Asked s r → r.address ≤ x → x < y → y ≤ stop r → Multiple x → Multiple y → Asked s (piece r x y)
piece-asked s r x y a h k l p q = record {
  form = a.form;
  address_multiple = p;
  size_multiple = omega arith;
  offset_multiple = o.0;
  not_empty = omega arith;
  low = omega (arith, a.low);
  high = omega (arith, a.high);
  unreserved = omega (arith, a.unreserved);
  object_fits = o.1;
  offset_fits = o.2;
}
  where
    o : Op r.op (piece r x y)
    o = piece_op r.op r x y (a.offset_multiple, a.object_fits, a.offset_fits) h k l a.address_multiple p

join : (s : Space) (r : Request) (x y z : ℕ) → r.address ≤ x → x < y → y < z
    → Asked s (piece r x y) → Asked s (piece r y z) → Asked s (piece r x z)
join s r x y z h k l a b = record {
  form = a.form;
  address_multiple = a.address_multiple;
  size_multiple = omega (arith, a.size_multiple, b.size_multiple);
  offset_multiple = o.0;
  not_empty = omega arith;
  low = a.low;
  high = omega (arith, b.high);
  unreserved = touching (x + (y - x)) (y + (z - y)) (x + (z - x)) (omega arith) (omega arith) a.unreserved b.unreserved;
  object_fits = o.1;
  offset_fits = o.2;
}
  where
    o : Op r.op (piece r x z)
    o = join_op r.op r x y z h k l (a.offset_multiple, a.object_fits, a.offset_fits) (b.offset_multiple, b.object_fits, b.offset_fits)

    touching : (b d e : ℕ) → b ≡ y → d ≡ e → KeepsOff s x b → KeepsOff s y d → KeepsOff s x e
    touching b d e f g p q = omega arith

pieces_whole_from : (s : Space) (r : Request) (from : ℕ) (cs : List ℕ) → CutsFrom r from cs → r.address ≤ from
    → Each (Asked s) (pieces_from r from cs) → Asked s (piece r from (stop r))
unfolding pieces_from
pieces_whole_from s r from [] h k ds = ds.0
pieces_whole_from s r from (c ∷ cs) h k ds =
    join s r from c (stop r) k h.0 (cuts_end r c cs h.2) ds.0 (pieces_whole_from s r c cs h.2 (omega arith) ds.1)

-- the piece that is the whole
whole-piece : (r : Request) → piece r r.address (stop r) ≡ r
whole-piece r = λ i. record {
  op = r.op;
  flags = r.flags;
  object = r.object;
  pad = r.pad;
  address = r.address;
  offset = offset r.op i;
  size = size i;
}
  where
    size : stop r - r.address ≡ r.size
    size = omega arith

    offset : (n : ℕ) → piece_offset n r r.address ≡ r.offset
    offset zero = omega arith
    offset (suc n) = refl

pub pieces_whole : (s : Space) (r : Request) (cs : List ℕ) → Cuts r cs → Each (Asked s) (pieces r cs) → Asked s r
pieces_whole s r cs h ds = subst (Asked s) (whole-piece r) (pieces_whole_from s r r.address cs h (omega arith) ds)

whole_pieces_from : (s : Space) (r : Request) (from : ℕ) (cs : List ℕ) → Asked s r → CutsFrom r from cs → r.address ≤ from → Multiple from
    → Each (Asked s) (pieces_from r from cs)
unfolding pieces_from
whole_pieces_from s r from [] a h k p =
    (piece-asked s r from (stop r) a k h (omega arith) p (omega (arith, a.address_multiple, a.size_multiple)), tt)
whole_pieces_from s r from (c ∷ cs) a h k p =
    let l : c < stop r = cuts_end r c cs h.2 in
    (piece-asked s r from c a k h.0 (omega arith) p h.1, whole_pieces_from s r c cs a h.2 (omega arith) h.1)

pub whole_pieces : (s : Space) (r : Request) (cs : List ℕ) → Cuts r cs → Asked s r → Each (Asked s) (pieces r cs)
whole_pieces s r cs h a = whole_pieces_from s r r.address cs a h (omega arith) a.address_multiple
