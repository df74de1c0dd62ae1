-- What C gets: answers as words.
-- Assumes nothing.
use Rattle.std.specs.Prelude.{List, ℕ}
use Rattle.model.specs.Rows.{Reply, refused, answered}
use Rattle.model.specs.declared.Shown.{Shown}
use Rattle.model.specs.declared.Shown.TheVariants.{Nothing, Sparse, Object}
use Rattle.model.specs.declared.Seen.{Seen}
use Rattle.model.specs.declared.Grant.{Grant}
use Rattle.model.specs.Calls.{Outcome}
use Rattle.model.specs.declared.Mapping.{Mapping}
use Rattle.batches.specs.Batch.{BatchOutcome}
use Rattle.pages.specs.Pages.{PagesOutcome}
use Rattle.waylluqen.specs.declared.Translation.{Translation}
use Rattle.waylluqen.specs.declared.AnswerWords.{AnswerWords}
use Rattle.waylluqen.specs.declared.MappingWords.{MappingWords}
use Rattle.waylluqen.specs.declared.PagesWords.{PagesWords}

-- a look-up: the refusal and its place; else 0 where nothing is shown, 1 for an object and its offset, 2 for sparse, and
-- for how many bytes. What does not apply is 0
abbrev pub shown_words : Shown → ℕ → Translation
shown_words Nothing n = record { refusal = 0; place = 0; shown = 0; object = 0; offset = 0; bytes = n }
shown_words Sparse n = record { refusal = 0; place = 0; shown = 2; object = 0; offset = 0; bytes = n }
shown_words (Object o f) n = record { refusal = 0; place = 0; shown = 1; object = o; offset = f; bytes = n }

abbrev pub translation_of : Reply Seen → Translation
translation_of (refused n p) = record { refusal = n; place = p; shown = 0; object = 0; offset = 0; bytes = 0 }
translation_of (answered v) = shown_words v.shown v.bytes

-- a map or unmap on a table of so many mappings and a list of so many ranges: the refusal and its place, no operation
-- and the same counts; else a grant's three numbers
abbrev pub answer_of : ℕ → ℕ → Reply Grant → AnswerWords
answer_of count ranges (refused n p) = record { refusal = n; place = p; operations = 0; count = count; ranges = ranges }
answer_of count ranges (answered g) = record { refusal = 0; place = 0; operations = g.operations; count = g.count; ranges = g.ranges }

-- the answer's words, and every lent word after the call
pub record Left : Type 0 where
  pub answer : AnswerWords
  pub table : List ℕ
  pub ranges : List ℕ
  pub operations : List ℕ

abbrev pub left : ℕ → ℕ → Outcome → Left
left count ranges o = record { answer = answer_of count ranges o.answer; table = o.table; ranges = o.ranges; operations = o.operations }

-- the same of a batch, whose list is only read
pub record BatchLeft : Type 0 where
  pub answer : AnswerWords
  pub table : List ℕ
  pub work : List ℕ
  pub operations : List ℕ

abbrev pub batch_left : ℕ → ℕ → BatchOutcome → BatchLeft
batch_left count ranges o = record { answer = answer_of count ranges o.answer; table = o.table; work = o.work; operations = o.operations }

-- the mapping in four words
abbrev pub mapping_in : MappingWords → Mapping
mapping_in m = record { address = m.address; size = m.size; object = m.object; offset = m.offset }

-- a listing of page entries: the refusal and its place, and no entry; else how many
abbrev pub pages_of : Reply ℕ → PagesWords
pages_of (refused n p) = record { refusal = n; place = p; entries = 0 }
pages_of (answered n) = record { refusal = 0; place = 0; entries = n }

pub record PagesLeft : Type 0 where
  pub answer : PagesWords
  pub words : List ℕ

abbrev pub pages_left : PagesOutcome → PagesLeft
pages_left o = record { answer = pages_of o.answer; words = o.words }
