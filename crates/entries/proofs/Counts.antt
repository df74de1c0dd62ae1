-- The entries of a mapping size by size, and their number.
-- Assumes nothing.
use Rattle.std.specs.Cmp.{second_so}
use mathlib.Core.Path.{◌≡◌, refl, sym, ap, subst, ◌∙◌}
use mathlib.Core.Logic.{◌⊎◌, inl, inr}
use mathlib.Core.Bool.{Bool, true, false, ◌&&◌}
use mathlib.Core.List.{◌∷◌, ◌++◌}
use Prim.Native.Nat.{ℕ, ◌+◌, ◌*◌, ◌/◌, ◌≤◌, ◌<◌}
use native.Mathlib.Nat.{div-eq_of_lt}
use native.Mathlib.Omega.{arith}
use lib.Dec.{leb, ltb}
use lib.ListN.{length}
use borrow.Author.Tests.{ltb-true, leb-false}
use Rattle.std.specs.Prelude.{None, Some}
use Rattle.model.specs.declared.Mapping.{Mapping}
use Rattle.model.specs.Rows.{choose}
use Rattle.pages.specs.Pages.{lower, middle, upper, congruent, paged, cover, entry_count}
use Rattle.pages.specs.Claims.{Ladder, least}
use Rattle.pages.proofs.Level.{address_first_cut, first_cut_last_cut, last_cut-end}
use Rattle.pages.proofs.Counts.{count-length, length_three}
use Rattle.pages.proofs.Tiles.{Base}
use Rattle.pages.proofs.AnyLadder.{base}
use Rattle.pages.proofs.Small.{cover_small}
use Rattle.pages.proofs.Fewer.{count_less}
use Rattle.entries.specs.declared.PageSize.{PageSize}
use Rattle.entries.specs.declared.PageSize.TheVariants.{Page4K, Page2M, Page1G}
use Rattle.entries.specs.Sizes.{bytes_of, largest_in, size_below, sizes_below, cover_to, count_to, whole_pages, Listable, Pieces}
use Rattle.entries.proofs.Sizes.{size_some, ladder_at, least_at, none_below, next_below}

-- a mapping that lists has whole pages of the least of the sizes
base_of : (s : PageSize) (m : Mapping) → Listable m → Base (least (bytes_of s) (sizes_below s)) m
base_of s m k = subst (λ (z : ℕ). Base z m) (sym (least_at s)) (base 4096 m (k.multiples.0, (k.multiples.1, (k.multiples.2, tt))))

pub cover_least : (s : PageSize) (m : Mapping) → size_below s ≡ None → paged (bytes_of s) m ≡ cover_to s m
unfolding cover_to cover
cover_least s m e = rw (none_below s e)

-- ── a mapping that may have a page of a size: it is cut ──

-- the code's test
abbrev MayHave : PageSize → Mapping → Bool → Type 0
MayHave s m t = (leb (bytes_of s) m.size && congruent (bytes_of s) m) ≡ t

neither : (a b : Bool) → (a && b) ≡ false → (a ≡ false) ⊎ (b ≡ false)
neither true b e = inr e
neither false b e = inl refl

pub agrees : (s : PageSize) (m : Mapping) → MayHave s m true → congruent (bytes_of s) m ≡ true
agrees s m e = second_so (leb (bytes_of s) m.size) (congruent (bytes_of s) m) e

module _ (s t : PageSize) (m : Mapping) (next : size_below s ≡ Some t) where
  pub parts-cover : {p q r : Mapping} → p ≡ lower (bytes_of s) m → q ≡ middle (bytes_of s) m → r ≡ upper (bytes_of s) m
      → congruent (bytes_of s) m ≡ true → cover_to t p ++ (paged (bytes_of s) q ++ cover_to t r) ≡ cover_to s m
  unfolding cover_to cover
  parts-cover low whole high e = rw (low, whole, high, next_below s next, e)

  pub pieces : {p q r : Mapping} → p ≡ lower (bytes_of s) m → q ≡ middle (bytes_of s) m → r ≡ upper (bytes_of s) m
      → MayHave s m true → Pieces s t m p q r
  pieces {p} {q} {r} low whole high e =
      let same = parts-cover low whole high (agrees s m e) in
      record { entries = same; number = sym (length_three (cover_to t p) (paged (bytes_of s) q) (cover_to t r)) ∙ ap length same }

  -- ── one that has none: all of it is left to the smaller sizes ──

  cover-apart : congruent (bytes_of s) m ≡ false → cover_to t m ≡ cover_to s m
  unfolding cover_to cover
  cover-apart e = rw (next_below s next, e)

  pub cover-smaller : Listable m → m.size < bytes_of s → cover_to t m ≡ cover_to s m
  unfolding cover_to
  cover-smaller k h =
      let n = next_below s next in
      let l : Ladder (bytes_of s) (bytes_of t ∷ sizes_below t) = subst (Ladder (bytes_of s)) n (ladder_at s) in
      rw n (sym (cover_small (bytes_of s) (bytes_of t) (sizes_below t) m l (base_of t m k) h))

  pub cover_below : Listable m → MayHave s m false → cover_to t m ≡ cover_to s m
  cover_below k e = go (neither (leb (bytes_of s) m.size) (congruent (bytes_of s) m) e)
    where
      go : (leb (bytes_of s) m.size ≡ false) ⊎ (congruent (bytes_of s) m ≡ false) → cover_to t m ≡ cover_to s m
      go (inl h) = cover-smaller k (leb-false _ _ h)
      go (inr h) = cover-apart h

-- so it is as well to begin at the largest size that has one
pub cover_largest_in : (m : Mapping) → Listable m → cover_to (largest_in m.size) m ≡ cover_to Page1G m
cover_largest_in m k = go (ltb m.size 2097152) (ltb m.size 1073741824) refl refl
  where
    go : (t u : Bool) → ltb m.size 2097152 ≡ t → ltb m.size 1073741824 ≡ u
        → cover_to (choose t Page4K (choose u Page2M Page1G)) m ≡ cover_to Page1G m
    go true u p q =
        let h : m.size < 2097152 = ltb-true _ _ p in
        cover-smaller Page2M Page4K m refl k h ∙ cover-smaller Page1G Page2M m refl k (omega (arith, h))
    go false true p q = cover-smaller Page1G Page2M m refl k (ltb-true _ _ q)
    go false false p q = refl

-- ── the number of entries ──

pub count_cover : (s : PageSize) (m : Mapping) → count_to s m ≡ length (cover_to s m)
unfolding count_to cover_to
count_cover s m = count-length (bytes_of s) (sizes_below s) m

module _ (s : PageSize) (m : Mapping) where
  pub whole_some : MayHave s m true → (middle (bytes_of s) m).size / bytes_of s ≡ whole_pages s m
  unfolding whole_pages
  whole_some e = rw (agrees s m e)

  pub whole_none : MayHave s m false → 0 ≡ whole_pages s m
  unfolding whole_pages
  whole_none e = go (neither (leb (bytes_of s) m.size) (congruent (bytes_of s) m) e)
    where
      either : (t : Bool) (x : ℕ) → x ≡ 0 → 0 ≡ choose t x 0
      either true x d = sym d
      either false x d = refl

      go : (leb (bytes_of s) m.size ≡ false) ⊎ (congruent (bytes_of s) m ≡ false)
          → 0 ≡ choose (congruent (bytes_of s) m) ((middle (bytes_of s) m).size / bytes_of s) 0
      go (inl h) =
          let some = size_some s in
          either (congruent (bytes_of s) m) _ (div-eq_of_lt (omega (
            arith,
            leb-false (bytes_of s) m.size h,
            address_first_cut (bytes_of s) m some,
            first_cut_last_cut (bytes_of s) m some,
            last_cut-end (bytes_of s) m some,
          )))
      go (inr h) = rw h

-- a page of 2 MiB stands for 512 of 4 KiB, and one of 1 GiB for 512 of 2 MiB
pub count_whole : (m : Mapping) → Listable m → count_to Page1G m + 511 * (whole_pages Page2M m + whole_pages Page1G m) ≡ m.size / 4096
unfolding count_to whole_pages entry_count
count_whole m k = omega (
  arith,
  count_less 2097152 4096 (sizes_below Page4K) m (ladder_at Page2M) (base_of Page4K m k),
  count_less 1073741824 2097152 (sizes_below Page2M) m (ladder_at Page1G) (base_of Page2M m k),
)

pub count_most : (m : Mapping) → Listable m → 511 * (whole_pages Page2M m + whole_pages Page1G m) ≤ m.size / 4096
count_most m k = omega (arith, count_whole m k)
