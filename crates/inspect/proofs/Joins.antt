-- Words joined bit by bit: what holds of all together holds of each.
-- Assumes nothing.
use Rattle.std.proofs.Common.{◌≡◌, ℕ, ◌+◌, ◌%◌, ◌^◌, ◌<◌, ◌≤◌, arith}
use lib.Bits.{bit_or, or_add_and, and_le_l, and_le_r, or_mod}
use Rattle.model.specs.declared.Mapping.{Mapping}
use Rattle.model.specs.Rules.{page, limit, last_object}
use Rattle.model.specs.Table.{fit_tests}
use Rattle.model.proofs.Tests.{tests, all_true}
use Rattle.inspect.specs.declared.Joined.{Joined}
use Rattle.inspect.specs.Joined.{Clean, Floor, Fits}
use Rattle.inspect.specs.Part.{up_to}

-- x is not larger than w, and on a page if w is
record Part (x w : ℕ) : Type 0 where
  most : x ≤ w
  on_page : w % page ≡ 0 → x % page ≡ 0

part_first : (a b : ℕ) → Part a (bit_or a b)
part_first a b = record {
  most = omega (arith, or_add_and a b, and_le_r a b);
  on_page = λ h. omega (arith, h, or_mod a b 12, or_add_and (a % 2 ^ 12) (b % 2 ^ 12), and_le_r (a % 2 ^ 12) (b % 2 ^ 12));
}

part_second : (a b : ℕ) → Part b (bit_or a b)
part_second a b = record {
  most = omega (arith, or_add_and a b, and_le_l a b);
  on_page = λ h. omega (arith, h, or_mod a b 12, or_add_and (a % 2 ^ 12) (b % 2 ^ 12), and_le_l (a % 2 ^ 12) (b % 2 ^ 12));
}

part-more : {x w : ℕ} (b : ℕ) → Part x w → Part x (bit_or w b)
part-more {x} {w} b p = let q = part_first w b in record { most = omega (arith, p.most, q.most); on_page = λ h. p.on_page (q.on_page h) }

-- each of those that were joined
parts : (x a b c : ℕ) → let w = bit_or (bit_or (bit_or x a) b) c in Part x w × Part a w × Part b w × Part c w
parts x a b c = (
  part-more c (part-more b (part_first x a)),
  part-more c (part-more b (part_second x a)),
  part-more c (part_second (bit_or x a) b),
  part_second (bit_or (bit_or x a) b) c,
)

-- a wrapped difference that is not very large did not wrap
exact : (r a b : ℕ) → (r + b) % 2 ^ 64 ≡ a → r ≤ limit → b ≤ 2 ^ 62 → r + b ≡ a
exact r a b e h k = omega (arith, e, h, k)

-- what `join` makes of a mapping's words: differences, all wrapped
pub record Wrapped (from : ℕ) (m : Mapping) : Type 0 where
  pub size : ℕ
  pub size_is : (size + 1) % 2 ^ 64 ≡ m.size
  pub object : ℕ
  pub object_is : (object + 1) % 2 ^ 64 ≡ m.object
  pub gap : ℕ
  pub gap_is : (gap + from) % 2 ^ 64 ≡ m.address
  pub last : ℕ
  pub last_is : last ≡ (m.offset + size) % 2 ^ 64

module _ (j : Joined) (from : ℕ) (m : Mapping) (d : Wrapped from m) where
  abbrev next : Joined
  next = record {
    bits = bit_or (bit_or (bit_or j.bits d.gap) m.size) m.offset;
    objects = bit_or j.objects m.object;
    differences = bit_or (bit_or (bit_or j.differences d.size) d.object) d.last;
  }

  module _ (k : Clean next) where
    word : {x : ℕ} → Part x next.bits → (x % page ≡ 0) × (x ≤ limit)
    word p = (p.on_page k.on_page, omega (arith, p.most, k.bits_most))

    small : {x : ℕ} → Part x next.differences → x < limit
    small p = omega (arith, p.most, k.differences_most)

    join_before : Clean j
    join_before =
        let w = word (parts j.bits d.gap m.size m.offset).0 in
        record {
          on_page = w.0;
          bits_most = w.1;
          objects_most = omega (arith, (part_first j.objects m.object).most, k.objects_most);
          differences_most = small (parts j.differences d.size d.object d.last).0;
        }

    join_fits : Floor from → Fits from m
    join_fits h =
        let p = parts j.bits d.gap m.size m.offset in
        let q = parts j.differences d.size d.object d.last in
        let gap = word p.1 in
        let size = word p.2 in
        let offset = word p.3 in
        let object_most : m.object ≤ last_object = omega (arith, (part_second j.objects m.object).most, k.objects_most) in
        let size_least = exact d.size m.size 1 d.size_is (omega (arith, small q.1)) (omega arith) in
        let object_least = exact d.object m.object 1 d.object_is (omega (arith, small q.2)) (omega arith) in
        let start = exact d.gap m.address from d.gap_is gap.1 h.most in
        let address : m.address % page ≡ 0 = omega (arith, start, gap.0, h.on_page) in
        let offset_most : m.offset + m.size ≤ limit = omega (arith, d.last_is, size_least, offset.1, small q.3) in
        record {
          ends = omega (arith, start, gap.1, size.1);
          on_page = omega (arith, address, size.0);
          fits = λ stop l. all_true (fit_tests (up_to stop) from m) (omega tests);
        }

  pub join_clean : Clean next → Clean j × (Floor from → Fits from m)
  join_clean k = (join_before k, join_fits k)
