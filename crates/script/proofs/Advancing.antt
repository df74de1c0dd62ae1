-- One turn after another.
-- Assumes nothing.
use mathlib.Core.Path.{◌≡◌, refl, sym, ap, ◌∙◌}
use mathlib.Core.Logic.{◌⊎◌, inl, inr}
use mathlib.Core.Bool.{Bool}
use mathlib.Core.List.{List, [], ◌++◌, append_assoc, append-nil}
use Prim.Native.Nat.{ℕ, ◌+◌, ◌-◌, ◌^◌, ◌≤◌, ◌<◌}
use native.Mathlib.Omega.{arith}
use lib.ListN.{length, take, drop, length-append, length-drop}
use lib.Seq.{take_all, take-add, drop-drop}
use Rattle.program.specs.Script.{leaves}
use Rattle.program.proofs.Leaves.{leaves-nil}
use Rattle.words.proofs.Stored.{stored-behind}
use Rattle.script.specs.declared.Progress.{Progress}
use Rattle.text.specs.declared.Lines.{Lines}
use Rattle.script.specs.declared.Turned.{Turned}
use Rattle.script.specs.declared.Program.{Program}
use Rattle.script.specs.Progress.{Outstanding, Ready, Idle, Goes, Advances}
use Rattle.script.specs.Program.{SameLent, TurnsFrom}
use Rattle.script.proofs.Turning.{goes_nowhere, same_lent}

-- one turn after another
pub goes_further : {p : Progress} {rs ws os bs : List ℕ} {last : Bool} {out : List ℕ} {at : ℕ} {t u v : Turned} {rs' ws' os' out' rs'' ws'' os'' out'' : List ℕ} → at ≤ length out
    → Goes p rs ws os bs last out at t rs' ws' os' out' → Goes t.progress rs' ws' os' (drop t.taken bs) last out' t.end u rs'' ws'' os'' out''
    → v ≡ record { progress = u.progress; taken = t.taken + u.taken; end = u.end } → Goes p rs ws os bs last out at v rs'' ws'' os'' out''
goes_further {p} {rs} {ws} {os} {bs} {last} {out} {at} {t} {u} {v} h g k e = rw e (record {
  text = g.text ++ k.text;
  bytes = k.bytes ∙ rw (g.bytes, g.behind) (stored-behind out at g.text k.text h);
  behind = omega (arith, g.behind, k.behind, length-append g.text k.text);
  goes_on = λ more ends. g.goes_on more ends ∙ rw (k.goes_on more ends, drop-drop u.taken t.taken bs) (sym (append_assoc g.text k.text _));
  state = λ more.
      rw (take-add t.taken u.taken bs, append_assoc (take t.taken bs) (take u.taken (drop t.taken bs)) more)
      (g.state (take u.taken (drop t.taken bs) ++ more) ∙ k.state more);
  within = omega (arith, g.within, k.within, length-drop t.taken bs);
  place = omega (arith, g.place, k.place);
  held = k.held;
})

-- enough of them; the words are what the bytes taken leave, with none behind them
advanced : {p : Progress} {rs ws os bs : List ℕ} {last : Bool} {out : List ℕ} {t : Turned} {rs' ws' os' out' : List ℕ}
    → Goes p rs ws os bs last out 0 t rs' ws' os' out' → t.end ≤ length out → (length out < t.end + 320) ⊎ Idle t.progress (drop t.taken bs) last
    → Advances p rs ws os bs last out t rs' ws' os' out'
advanced {bs = bs} {t = t} g room ended = record {
  goes = g;
  words = sym (ap (leaves _) (sym (append-nil (take t.taken bs))) ∙ g.state [] ∙ leaves-nil _);
  room = room;
  ended = ended;
}

-- how far turns have come, from the program b and the lines k on
pub record Far (b : Program) (bs : List ℕ) (last : Bool) (k : Lines) (taken : ℕ) (a : Program) (l : Lines) : Type 0 where
  pub goes : Goes b.progress b.ranges.now b.table.now b.operations.now bs last k.out.now k.end (record { progress = a.progress; taken = taken; end = l.end })
      a.ranges.now a.table.now a.operations.now l.out.now
  pub outputs : length l.out.now ≡ length k.out.now
  pub room : l.end ≤ length k.out.now
  pub lent : SameLent b a
  pub same_slice : l.out.ghost_name ≡ k.out.ghost_name

pub far_start : {b : Program} (bs : List ℕ) (last : Bool) {k : Lines} → k.end ≤ length k.out.now → Outstanding b.operations.now b.progress.next b.progress.left
    → Far b bs last k 0 b k
far_start {b} bs last h held = record {
  goes = goes_nowhere b.ranges.now b.table.now b.operations.now bs last b.progress refl refl refl refl held;
  outputs = refl;
  room = h;
  lent = same_lent;
  same_slice = refl;
}

-- they are over, and the slices are as they were lent
pub record Over (b : Program) (bs : List ℕ) (last : Bool) (k : Lines) (taken : ℕ) (a : Program) (l : Lines) : Type 0 where
  pub advances : Advances b.progress b.ranges.now b.table.now b.operations.now bs last k.out.now (record { progress = a.progress; taken = taken; end = l.end })
      a.ranges.now a.table.now a.operations.now l.out.now
  pub ranges : b.ranges.ghost_name ≡ a.ranges.ghost_name
  pub table : b.table.ghost_name ≡ a.table.ghost_name
  pub operations : b.operations.ghost_name ≡ a.operations.ghost_name
  pub out : k.out.ghost_name ≡ l.out.ghost_name

over : {b : Program} {bs : List ℕ} {last : Bool} {k : Lines} {taken : ℕ} {a : Program} {l : Lines} → Far b bs last k taken a l → k.end ≡ 0
    → (length k.out.now < l.end + 320) ⊎ Idle a.progress (drop taken bs) last → Over b bs last k taken a l
over far z ended = record {
  advances = advanced (rw z at far.goes) far.room ended;
  ranges = sym far.lent.ranges;
  table = sym far.lent.table;
  operations = sym far.lent.operations;
  out = sym far.same_slice;
}

pub over_as : {b : Program} {bs : List ℕ} {last : Bool} {k : Lines} {t taken : ℕ} {c a : Program} {m l : Lines} → a ≡ c → l ≡ m → taken ≡ t
    → Over b bs last k t c m → Over b bs last k taken a l
over_as d e f o = rw (d, e, f) o

-- what stands in them is what comes back
pub comes_back : {b : Program} {bs : List ℕ} {last : Bool} {k : Lines} {taken : ℕ} {a : Program} {l : Lines} {out rs' ws' os' out' : List ℕ} → k.out.now ≡ out
    → Over b bs last k taken a l → (b.ranges.ghost_name ≡ a.ranges.ghost_name → rs' ≡ a.ranges.now)
    → (b.table.ghost_name ≡ a.table.ghost_name → ws' ≡ a.table.now) → (b.operations.ghost_name ≡ a.operations.ghost_name → os' ≡ a.operations.now)
    → (k.out.ghost_name ≡ l.out.ghost_name → out' ≡ l.out.now) → Advances b.progress b.ranges.now b.table.now b.operations.now bs last out
    (record { progress = a.progress; taken = taken; end = l.end }) rs' ws' os' out'
comes_back e o r t p w = rw (r o.ranges, t o.table, p o.operations, w o.out, ← e) o.advances

-- the bytes from a place on, as code lends them
pub lent_rest : (n : ℕ) (bs : List ℕ) → take (length bs - n) (drop n bs) ≡ drop n bs
lent_rest n bs = take_all (length bs - n) (drop n bs) (simp length-drop (omega arith))

module _ {b : Program} {bs : List ℕ} {last : Bool} {k : Lines} {taken : ℕ} {a : Program} {l : Lines} (far : Far b bs last k taken a l) where
  pub far_ready : b.progress.place + length bs < 2 ^ 64 → Ready a.progress a.operations.now (take (length bs - taken) (drop taken bs))
  far_ready h = rw (lent_rest taken bs) (record { places = omega (arith, far.goes.place, far.goes.within, length-drop taken bs); held = far.goes.held })

  pub far_full : k.end ≡ 0 → length l.out.now < l.end + 320 → Over b bs last k taken a l
  far_full z h = over far z (inl (omega (arith, far.outputs)))

  module _ {more : ℕ} {c : Program} {m : Lines} (turned : TurnsFrom a (take (length bs - taken) (drop taken bs)) last l more c m) where
    one_more : TurnsFrom a (drop taken bs) last l more c m
    one_more = rw (lent_rest taken bs) at turned

    pub far_next : k.end ≤ length k.out.now → l.end + 320 ≤ length l.out.now → Far b bs last k (taken + more) c m
    far_next h room = record {
      goes = goes_further h far.goes one_more.turn.goes refl;
      outputs = one_more.same_length ∙ far.outputs;
      room = omega (arith, one_more.turn.most, far.outputs);
      lent = record {
        ranges = one_more.lent.ranges ∙ far.lent.ranges;
        table = one_more.lent.table ∙ far.lent.table;
        operations = one_more.lent.operations ∙ far.lent.operations;
      };
      same_slice = one_more.same_slice ∙ far.same_slice;
    }

    -- nothing was printed
    pub far_idle : k.end ≡ 0 → l.end + 320 ≤ length l.out.now → m.end ≡ l.end → Over b bs last k (taken + more) c m
    far_idle z room e = over (far_next (omega arith) room) z (inr (rw (drop-drop more taken bs) at (one_more.turn.idle e)))
