-- What a byte address shows after a request: inside the range what the request says, elsewhere what it showed before.
-- Assumes nothing.
use mathlib.Core.Path.{◌≡◌, refl, sym, ap, ◌∙◌}
use mathlib.Core.Logic.{◌⊎◌, inl, inr}
use mathlib.Core.List.Memᴰ
use mathlib.Core.List.{List, [], ◌∷◌, ◌++◌}
use Prim.Native.Nat.{ℕ, zero, suc, ◌+◌, ◌-◌, ◌≤◌, ◌<◌}
use native.Mathlib.Omega.{arith}
use Rattle.model.specs.Prelude.{Mapping, Request, Shown, Object}
use Rattle.model.specs.Rules.{end, stop}
use Rattle.model.specs.Cut.{lower_part, upper_part, sized, prepend, below, above, mapping_of, new_for, new, after, inside_tests, translate}
use Rattle.model.specs.Exactly.{◌∈◌, Ascends}
use Rattle.model.specs.Lookups.{Has, Free}
use Rattle.model.proofs.Tests.{tests, all_true, all_false}
use Rattle.model.proofs.Actions.{each_mem}
use Rattle.model.proofs.Window.{prepend_pos, prepend-append}
use Rattle.model.proofs.Numbers.{order}

pub has_or-not : (m : Mapping) (x : ℕ) → Has m x ⊎ (Has m x → ⊥)
has_or-not m x = go (order m.address x) (order (end m) x)
  where
    go : (m.address ≤ x) ⊎ (x < m.address) → (end m ≤ x) ⊎ (x < end m) → Has m x ⊎ (Has m x → ⊥)
    go (inl h) (inr k) = inl (h, k)
    go (inl h) (inl k) = inr (λ i. omega arith)
    go (inr h) k = inr (λ i. omega arith)

-- off all mappings, what stands beside them is shown
module _ (off : Shown) where
  -- ── a mapping in front of others ──

  pub translate_here : (m : Mapping) (ms : List Mapping) (x : ℕ) → Has m x → translate off (m ∷ ms) x ≡ Object m.object (m.offset + (x - m.address))
  unfolding translate
  translate_here m ms x i = rw (all_true (inside_tests m x) (omega tests), translate)

  pub translate_past : (m : Mapping) (ms : List Mapping) (x : ℕ) → (Has m x → ⊥) → translate off (m ∷ ms) x ≡ translate off ms x
  unfolding translate
  translate_past m ms x n = rw (all_false (inside_tests m x) (λ t. n (omega tests)), translate)

  prepend_here : (m : Mapping) (ms : List Mapping) (x : ℕ) → Has m x → translate off (prepend m ms) x ≡ Object m.object (m.offset + (x - m.address))
  prepend_here m ms x i = rw (prepend_pos m ms (omega arith)) (translate_here m ms x i)

  prepend_past : (m : Mapping) (ms : List Mapping) (x : ℕ) → (Has m x → ⊥) → translate off (prepend m ms) x ≡ translate off ms x
  prepend_past m ms x n = go m.size
    where
      go : (k : ℕ) → translate off (sized k m ms) x ≡ translate off ms x
      go zero = refl
      go (suc k) = translate_past m ms x n

  -- ── the parts of a table under an address, and from one on ──

  below-shows : (a : ℕ) (ms ns : List Mapping) (x : ℕ) → x < a → translate off ns x ≡ off → translate off (below a ms ++ ns) x ≡ translate off ms x
  unfolding below translate
  below-shows a [] ns x h e = e
  below-shows a (m ∷ ms) ns x h e = rw (← prepend-append) (go (has_or-not m x) (below-shows a ms ns x h e))
    where
      go : Has m x ⊎ (Has m x → ⊥) → translate off (below a ms ++ ns) x ≡ translate off ms x
          → translate off (prepend (lower_part a m) (below a ms ++ ns)) x ≡ translate off (m ∷ ms) x
      go (inl i) ih = prepend_here (lower_part a m) (below a ms ++ ns) x (omega arith) ∙ sym (translate_here m ms x i)
      go (inr n) ih = prepend_past (lower_part a m) (below a ms ++ ns) x (λ i. n (omega arith)) ∙ ih ∙ sym (translate_past m ms x n)

  below_hides : (a : ℕ) (ms ns : List Mapping) (x : ℕ) → a ≤ x → translate off (below a ms ++ ns) x ≡ translate off ns x
  unfolding below
  below_hides a [] ns x h = refl
  below_hides a (m ∷ ms) ns x h =
      rw (← prepend-append) (prepend_past (lower_part a m) (below a ms ++ ns) x (λ i. omega arith) ∙ below_hides a ms ns x h)

  above-shows : (b : ℕ) (ms : List Mapping) (x : ℕ) → b ≤ x → translate off (above b ms) x ≡ translate off ms x
  unfolding above
  above-shows b [] x h = refl
  above-shows b (m ∷ ms) x h = go (has_or-not m x) (above-shows b ms x h)
    where
      go : Has m x ⊎ (Has m x → ⊥) → translate off (above b ms) x ≡ translate off ms x → translate off (prepend (upper_part b m) (above b ms)) x ≡ translate off (m ∷ ms) x
      go (inl i) ih =
          prepend_here (upper_part b m) (above b ms) x (omega arith) ∙ ap (Object m.object) (omega arith) ∙ sym (translate_here m ms x i)
      go (inr n) ih = prepend_past (upper_part b m) (above b ms) x (λ i. n (omega arith)) ∙ ih ∙ sym (translate_past m ms x n)

  above_hides : (b : ℕ) (ms : List Mapping) (x : ℕ) → x < b → translate off (above b ms) x ≡ off
  unfolding above translate
  above_hides b [] x h = refl
  above_hides b (m ∷ ms) x h = prepend_past (upper_part b m) (above b ms) x (λ i. omega arith) ∙ above_hides b ms x h

  new_hides : (r : Request) (ns : List Mapping) (x : ℕ) → (Has (mapping_of r) x → ⊥) → translate off (new r ++ ns) x ≡ translate off ns x
  new_hides r ns x n = go r.op
    where
      go : (op : ℕ) → translate off (new_for op (mapping_of r) ++ ns) x ≡ translate off ns x
      go zero = translate_past (mapping_of r) ns x n
      go (suc k) = refl

  -- ── a request ──

  module _ (r : Request) (ms : List Mapping) where
    pub translate_under : (x : ℕ) → x < r.address → translate off (after r ms) x ≡ translate off ms x
    translate_under x h = below-shows r.address ms (new r ++ above (stop r) ms) x h
        (new_hides r (above (stop r) ms) x (λ i. omega arith) ∙ above_hides (stop r) ms x (omega arith))

    pub translate_over : (x : ℕ) → stop r ≤ x → translate off (after r ms) x ≡ translate off ms x
    translate_over x h =
        below_hides r.address ms (new r ++ above (stop r) ms) x (omega arith)
        ∙ new_hides r (above (stop r) ms) x (λ i. omega arith)
        ∙ above-shows (stop r) ms x h

    -- from the range's start on nothing stands in front of the new mappings, by the op
    in_range : (op : ℕ) → r.op ≡ op → (x : ℕ) → r.address ≤ x → translate off (after r ms) x ≡ translate off (new_for op (mapping_of r) ++ above (stop r) ms) x
    in_range op e x h =
        below_hides r.address ms (new r ++ above (stop r) ms) x h
        ∙ ap (λ (n : ℕ). translate off (new_for n (mapping_of r) ++ above (stop r) ms) x) e

    pub translate-map : r.op ≡ 0 → (x : ℕ) → r.address ≤ x → x < stop r → translate off (after r ms) x ≡ Object r.object (r.offset + (x - r.address))
    translate-map e x h k = in_range 0 e x h ∙ translate_here (mapping_of r) (above (stop r) ms) x (h, k)

    pub translate_unmap : (r.op ≡ 0 → ⊥) → (x : ℕ) → r.address ≤ x → x < stop r → translate off (after r ms) x ≡ off
    translate_unmap n x h k = go r.op refl
      where
        go : (op : ℕ) → r.op ≡ op → translate off (after r ms) x ≡ off
        go zero e = absurd (n e)
        go (suc i) e = in_range (suc i) e x h ∙ above_hides (stop r) ms x k

  -- ── mappings in order ──

  -- a mapping that is not the first lies behind it
  pub shows-member : (ms : List Mapping) (m : Mapping) (x : ℕ) → Ascends ms → m ∈ ms → Has m x
      → translate off ms x ≡ Object m.object (m.offset + (x - m.address))
  shows-member [] m x a x5 i = elim x5 [ ]
  shows-member (n ∷ ms) m x a (Memᴰ.head e) i = rw e (translate_here n ms x (rw e at i))
  shows-member (n ∷ ms) m x a (Memᴰ.tail k) i =
      let behind : end n ≤ m.address = each_mem (λ m. end n ≤ m.address) ms m a.0 k in
      translate_past n ms x (λ j. omega arith) ∙ shows-member ms m x a.1 k i

  pub hides_all : (ms : List Mapping) (x : ℕ) → Free ms x → translate off ms x ≡ off
  unfolding translate
  hides_all [] x h = refl
  hides_all (m ∷ ms) x h = translate_past m ms x (h m (Memᴰ.head refl)) ∙ hides_all ms x (λ n k. h n (Memᴰ.tail k))
