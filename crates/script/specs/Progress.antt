-- The program between two reads: what it holds, what is still to be printed, and what a turn promises.
-- Assumes nothing.
use Rattle.std.specs.Prelude.{◌≡◌, ◌⊎◌, Bool, true, false, List, [], ◌++◌, ℕ, zero, suc, ◌+◌, ◌*◌, ◌^◌, ◌≤◌, ◌<◌, length, take, drop}
use Rattle.std.specs.Prelude.{None, Option, Some}
use Rattle.model.specs.declared.Space.{Space}
use Rattle.model.specs.declared.Operation.{Operation}
use Rattle.model.specs.Rows.{choose}
use Rattle.model.specs.Layout.{operation_in}
use Rattle.program.specs.declared.ScriptRecord.TheVariants.{Cut, End}
use Rattle.program.specs.Text.{operation_lines}
use Rattle.program.specs.Script.{State, Told, emptied, granted, shows, refusal, other_mark, cut, ended, record_at, run, leaves, start}
use Rattle.request.specs.Bound.{lent_words}
use Rattle.words.specs.Words.{stored}
use Rattle.script.specs.declared.Progress.{Progress}
use Rattle.script.specs.declared.Turned.{Turned}

-- the i-th operation in the words of the operation slice, if they are one, and its lines
abbrev pub operation_at : List ℕ → ℕ → Option Operation
operation_at os i = operation_in (take 14 (drop (14 * i) os))

abbrev pub listed_lines : Option Operation → List ℕ
listed_lines None = []
listed_lines (Some o) = operation_lines o

-- the lines of n operations, from the i-th on
unfoldable pub pending : List ℕ → ℕ → ℕ → List ℕ
pending os i zero = []
pending os i (suc n) = listed_lines (operation_at os i) ++ pending os (suc i) n

-- n operations are there, from the i-th on
unfoldable pub Known : List ℕ → ℕ → ℕ → Type 0
Known os i zero = Unit {0}
Known os i (suc n) = ((o : Operation) × (operation_at os i ≡ Some o)) × Known os (suc i) n

-- the operations still to be printed, `left` of them from the one numbered `next` on, are there
pub record Outstanding (os : List ℕ) (next left : ℕ) : Type 0 where
  pub within : 14 * (next + left) ≤ length os
  pub known : Known os next left

-- a space, the list's words and count, the table's, and the words for operations
abbrev pub state_of : Space → List ℕ → ℕ → List ℕ → ℕ → List ℕ → State
state_of s rs n ws count os = record { space = s; lent = lent_words rs n ws count; operations = os }

-- what the program holds: progress, and the words of the list, the table and the operations
abbrev pub held_by : Progress → List ℕ → List ℕ → List ℕ → State
held_by p rs ws os = state_of p.space rs p.ranges ws p.count os

-- all that is still to be printed: the operations of the last grant, and what the unread bytes bs give
unfoldable pub to_come : Progress → List ℕ → List ℕ → List ℕ → List ℕ → List ℕ
to_come p rs ws os bs = pending os p.next p.left ++ choose p.stopped [] (run (length bs) (held_by p rs ws os) p.place bs)

-- before the first byte
abbrev pub start_progress : Progress
start_progress = record { space = start.space; ranges = 0; count = 0; place = 0; next = 0; left = 0; stopped = false }

-- the bytes end before the record does; then the program waits, if more can come. The program stops there. How many
-- operations an answer hands over
abbrev pub is_short : Told → Bool
is_short (emptied n) = false
is_short (granted g) = false
is_short (shows x v) = false
is_short (refusal n p) = false
is_short other_mark = false
is_short cut = true
is_short ended = true

abbrev pub waits : Bool → Told → Bool
waits true t = false
waits false t = is_short t

abbrev pub stops : Told → Bool
stops (emptied n) = false
stops (granted g) = false
stops (shows x v) = false
stops (refusal n p) = false
stops other_mark = true
stops cut = true
stops ended = true

abbrev pub operation_count : Told → ℕ
operation_count (emptied n) = 0
operation_count (granted g) = g.operations
operation_count (shows x v) = 0
operation_count (refusal n p) = 0
operation_count other_mark = 0
operation_count cut = 0
operation_count ended = 0

-- a place that fits 64 bits, and operations that are there
pub record Ready (p : Progress) (os bs : List ℕ) : Type 0 where
  pub places : p.place + length bs < 2 ^ 64
  pub held : Outstanding os p.next p.left

-- nothing can be printed from the bytes bs: the program has stopped, or waits for more bytes
pub record Idle (p : Progress) (bs : List ℕ) (last : Bool) : Type 0 where
  pub none_left : p.left ≡ 0
  pub because : (p.stopped ≡ true) ⊎ ((last ≡ false) × ((record_at bs ≡ Cut) ⊎ (record_at bs ≡ End)))

-- from p, with the unread bytes bs, some text was put at a place of the output, and what it leaves goes on with the
-- rest, whatever bytes come behind; none come where bs are the last. What is held is what the records taken leave, also
-- where the program has stopped
pub record Goes (p : Progress) (rs ws os bs : List ℕ) (last : Bool) (out : List ℕ) (at : ℕ) (t : Turned) (rs' ws' os' out' : List ℕ) : Type 0 where
  pub text : List ℕ
  pub bytes : out' ≡ stored out at text
  pub behind : t.end ≡ at + length text
  pub goes_on : (more : List ℕ) → (last ≡ true → more ≡ [])
      → to_come p rs ws os (bs ++ more) ≡ text ++ to_come t.progress rs' ws' os' (drop t.taken bs ++ more)
  pub state : (more : List ℕ) → leaves (held_by p rs ws os) (take t.taken bs ++ more) ≡ leaves (held_by t.progress rs' ws' os') more
  pub within : t.taken ≤ length bs
  pub place : t.progress.place ≡ p.place + t.taken
  pub held : Outstanding os' t.progress.next t.progress.left

-- one turn: at most so many bytes, and none only where there is nothing to print
pub record Turns (p : Progress) (rs ws os bs : List ℕ) (last : Bool) (out : List ℕ) (at : ℕ) (t : Turned) (rs' ws' os' out' : List ℕ) : Type 0 where
  pub goes : Goes p rs ws os bs last out at t rs' ws' os' out'
  pub most : t.end ≤ at + 320
  pub idle : t.end ≡ at → Idle t.progress (drop t.taken bs) last

-- as many turns as there is room for, from the front of the output on
pub record Advances (p : Progress) (rs ws os bs : List ℕ) (last : Bool) (out : List ℕ) (t : Turned) (rs' ws' os' out' : List ℕ) : Type 0 where
  pub goes : Goes p rs ws os bs last out 0 t rs' ws' os' out'
  -- the space, the counts and the lent words, by the definition
  pub words : held_by t.progress rs' ws' os' ≡ leaves (held_by p rs ws os) (take t.taken bs)
  pub room : t.end ≤ length out
  pub ended : (length out < t.end + 320) ⊎ Idle t.progress (drop t.taken bs) last
