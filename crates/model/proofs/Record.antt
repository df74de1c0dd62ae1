-- A request read back from its bytes and from its numbers, and the places of the fields.
-- Assumes nothing.
use mathlib.Core.Path.{◌≡◌, refl, sym, ap, ◌∙◌}
use mathlib.Core.List.{List, [], ◌++◌}
use Prim.Native.Nat.{ℕ, zero, suc, ◌+◌, ◌*◌, ◌/◌, ◌%◌, ◌^◌, ◌<◌}
use native.Mathlib.Omega.{arith}
use lib.ListN.{drop}
use Rattle.model.specs.Calls.{little_endian, request_of, bytes_of, record_of}
use Rattle.model.specs.Exactly.{ReadsBack, RecordLayout}

pub little_endian-bytes_of : (n x : ℕ) (rest : List ℕ) → x < 256 ^ n → little_endian n (bytes_of n x ++ rest) ≡ x
unfolding little_endian bytes_of
little_endian-bytes_of zero x rest h = omega arith
little_endian-bytes_of (suc n) x rest h =
    ap (λ (y : ℕ). x % 256 + 256 * y) (little_endian-bytes_of n (x / 256) rest (omega arith)) ∙ omega arith

pub reads_back : ReadsBack
unfolding request_of record_of bytes_of
reads_back r = (
  λ h k. (
    refl,
    λ i. record {
      op = little_endian-bytes_of 4 r.op (drop 4 bs) h.0 i;
      flags = little_endian-bytes_of 4 r.flags (drop 8 bs) h.1.0 i;
      object = little_endian-bytes_of 4 r.object (drop 12 bs) h.1.1.0 i;
      pad = little_endian-bytes_of 4 r.pad (drop 16 bs) h.1.1.1.0 i;
      address = little_endian-bytes_of 8 r.address (drop 24 bs) k.0 i;
      offset = little_endian-bytes_of 8 r.offset (drop 32 bs) k.1.0 i;
      size = little_endian-bytes_of 8 r.size [] k.1.1.0 i;
    },
  ),
  λ f p. λ i. record {
    op = r.op;
    flags = sym f i;
    object = r.object;
    pad = sym p i;
    address = r.address;
    offset = r.offset;
    size = r.size;
  },
)
  where
    bs : List ℕ
    bs = record_of r

pub record_layout : RecordLayout
unfolding request_of little_endian
record_layout = refl
