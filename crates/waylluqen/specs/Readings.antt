-- What is claimed of the words that C gets: refusal 0 exactly if the call was granted or answered, and no two replies
-- read alike.
-- Assumes nothing.
use Rattle.std.specs.Prelude.{◌≡◌, ◌↔◌, List, ℕ}
use Rattle.model.specs.declared.Grant.{Grant}
use Rattle.model.specs.declared.Seen.{Seen}
use Rattle.model.specs.declared.Space.{Space}
use Rattle.model.specs.Rows.{Reply, answered, verdict}
use Rattle.model.specs.Calls.{Asking, Lent, bind, lookup, check_rows, check_request}
use Rattle.model.specs.declared.Mapping.{Mapping}
use Rattle.batches.specs.Batch.{bind_batch}
use Rattle.pages.specs.Pages.{page_entries}
use Rattle.waylluqen.specs.Words.{translation_of, answer_of, pages_of}

-- the replies that calls give
abbrev pub BindGives : Reply Grant → Type 0
BindGives a = (s : Space) × (l : Lent) × (os : List ℕ) × (q : Asking) × ((bind s l os q).answer ≡ a)

abbrev pub BatchGives : Reply Grant → Type 0
BatchGives a = (s : Space) × (l : Lent) × (ws : List ℕ) × (os : List ℕ) × (bs : List ℕ) × ((bind_batch s l ws os bs).answer ≡ a)

abbrev pub LookupGives : Reply Seen → Type 0
LookupGives a = (s : Space) × (l : Lent) × (x : ℕ) × (lookup s l x ≡ a)

abbrev pub PagesGives : Reply ℕ → Type 0
PagesGives a = (m : Mapping) × (ws : List ℕ) × ((page_entries m ws).answer ≡ a)

-- a reading pins the replies of these
abbrev pub PinsGiven : {A B : Type 0} → (A → Type 0) → (A → B) → Type 0
PinsGiven {A} Gives read = (a b : A) → Gives a → Gives b → read a ≡ read b → a ≡ b

pub record Readings : Type 0 where
  pub bind_zero : (count ranges : ℕ) (a : Reply Grant) → BindGives a → ((answer_of count ranges a).refusal ≡ 0) ↔ ((g : Grant) × (a ≡ answered g))
  pub batch_zero : (count ranges : ℕ) (a : Reply Grant) → BatchGives a → ((answer_of count ranges a).refusal ≡ 0) ↔ ((g : Grant) × (a ≡ answered g))
  pub lookup_zero : (a : Reply Seen) → LookupGives a → ((translation_of a).refusal ≡ 0) ↔ ((v : Seen) × (a ≡ answered v))
  pub pages_zero : (a : Reply ℕ) → PagesGives a → ((pages_of a).refusal ≡ 0) ↔ ((n : ℕ) × (a ≡ answered n))
  pub check_zero : (bs : List ℕ) (s : Space) → (check_request bs s ≡ 0) ↔ (verdict (check_rows bs s) ≡ answered tt)
  pub bind_pins : (count ranges : ℕ) → PinsGiven BindGives (answer_of count ranges)
  pub batch_pins : (count ranges : ℕ) → PinsGiven BatchGives (answer_of count ranges)
  pub lookup_pins : PinsGiven LookupGives translation_of
  pub pages_pins : PinsGiven PagesGives pages_of
