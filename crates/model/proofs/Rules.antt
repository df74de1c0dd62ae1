-- The tests of each rule hold exactly if the rule in words is kept.
-- Assumes nothing.
use mathlib.Core.Path.{◌≡◌, refl}
use mathlib.Core.Logic.{◌⊎◌, inl, inr}
use mathlib.Core.Bool.{Bool, true, false}
use Prim.Native.Nat.{ℕ, zero, suc, ◌+◌, ◌^◌, ◌≤◌, ◌<◌, min, max}
use native.Mathlib.Omega.{arith}
use lib.Dec.{leb}
use borrow.Author.Tests.{leb-true, leb-false}
use Rattle.model.specs.Prelude.{Space, Mapping, Request}
use Rattle.model.specs.Rules.{reserved_tests, space_tests, mapping_tests, object_tests, offset_tests}
use Rattle.model.specs.Exactly.{ShareByte, Inside, SpaceRules, MappingRules, NoObject}
use Rattle.model.proofs.Tests.{tests, Alls, Says}

-- ── ranges that share no byte ──

pub apart_shares : (a b c d : ℕ) → min b d ≤ max a c → ShareByte a b c d → ⊥
apart_shares a b c d h x = omega arith

pub shares_apart : (a b c d : ℕ) → (ShareByte a b c d → ⊥) → min b d ≤ max a c
shares_apart a b c d h = go (leb (min b d) (max a c)) refl
  where
    go : (t : Bool) → leb (min b d) (max a c) ≡ t → min b d ≤ max a c
    go true e = leb-true (min b d) (max a c) e
    go false e =
        let k : max a c < min b d = leb-false (min b d) (max a c) e in
        absurd (h (max a c, omega arith, omega arith, omega arith, omega arith))

-- ── a space ──

abbrev Reservation : Space → Type 0
Reservation s =
    (s.reserved.size ≡ 0 → s.reserved.start ≡ 0)
    × (0 < s.reserved.size → Inside s.reserved.start (s.reserved.start + s.reserved.size) s.start (s.start + s.size))

reserved_says : (s : Space) → Says (reserved_tests s.reserved.size s) (Reservation s)
reserved_says s = go s.reserved.size refl
  where
    go : (n : ℕ) → s.reserved.size ≡ n → Says (reserved_tests n s) (Reservation s)
    go zero e = (λ h. (λ _. omega tests, λ h. absurd (omega arith)), λ r. (omega (tests, r.0 e), tt))
    go (suc n) e = (λ h. (λ z. absurd (omega arith), λ _. (omega tests, omega tests)), λ r. omega (tests, r.1 (omega arith)))

pub space_says : (s : Space) → Says (space_tests s) (SpaceRules s)
space_says s = (
  says,
  λ r.
      let t = (reserved_says s).1 (r.no_reservation, r.reservation) in
      (omega tests, (omega tests, (omega tests, (omega tests, (omega tests, (omega tests, t)))))),
)
  where
    says : Alls (space_tests s) → SpaceRules s
    says (a, (b, (c, (d, (e, (f, reserved)))))) =
        let r = (reserved_says s).0 reserved in
        record {
          multiples = (omega tests, omega tests, omega tests, omega tests);
          size_least = omega tests;
          end_most = omega tests;
          no_reservation = r.0;
          reservation = r.1;
        }

-- ── a mapping ──

pub mapping_says : (s : Space) (m : Mapping) → Says (mapping_tests s m) (MappingRules s m)
mapping_says s m = (
  λ h. record {
    multiples = (omega tests, omega tests, omega tests);
    size_least = omega tests;
    object_range = (omega tests, omega tests);
    offset_end_most = omega tests;
    within = (omega tests, omega tests);
    unreserved = apart_shares _ _ _ _ (omega tests);
  },
  λ r. let k = shares_apart _ _ _ _ r.unreserved in omega tests,
)

-- ── a request ──

-- the flags that row 14 lets through
abbrev pub Flags : Request → Type 0
Flags r = (r.flags ≡ 0) ⊎ (r.flags ≡ 256)

abbrev ObjectRules : Request → Type 0
ObjectRules r = (r.op ≡ 0 → r.flags ≡ 0 → (1 ≤ r.object) × (r.object < 2 ^ 32)) × (r.op ≡ 1 → NoObject r) × (r.flags ≡ 256 → NoObject r)

pub object_says : (r : Request) → r.op < 2 → Flags r → Says (object_tests (r.op + r.flags) r) (ObjectRules r)
object_says r op flags = go (r.op + r.flags) refl
  where
    go : (n : ℕ) → r.op + r.flags ≡ n → Says (object_tests n r) (ObjectRules r)
    go zero e = (
      λ h. (λ _ _. (omega tests, omega tests), λ o. absurd (omega arith), λ f. absurd (omega arith)),
      λ k. omega (tests, k.0 (omega arith) (omega arith)),
    )
    go (suc n) e = (
      λ h. (λ o f. absurd (omega arith), λ _. (omega tests, omega tests), λ _. (omega tests, omega tests)),
      λ k. none k flags,
    )
      where
        facts : NoObject r → Alls (object_tests (suc n) r)
        facts h = omega tests

        none : ObjectRules r → Flags r → Alls (object_tests (suc n) r)
        none k (inl f) = facts (k.1 (omega arith))
        none k (inr f) = facts (k.2 f)

pub offset_says : (r : Request) → Says (offset_tests r.op r) (r.op ≡ 0 → r.offset + r.size ≤ 2 ^ 48)
offset_says r = go r.op refl
  where
    go : (n : ℕ) → r.op ≡ n → Says (offset_tests n r) (r.op ≡ 0 → r.offset + r.size ≤ 2 ^ 48)
    go zero e = (λ t _. omega tests, λ k. omega (tests, k e))
    go (suc n) e = (λ t o. absurd (omega arith), λ k. tt)
