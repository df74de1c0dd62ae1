-- What holds after the bytes at hand were printed, and how a stream goes on.
-- Assumes nothing.
use mathlib.Core.Path.{◌≡◌, refl, sym, ap, subst, subst⁻¹, ◌∙◌}
use mathlib.Core.Logic.{◌⊎◌, inl, inr}
use mathlib.Core.Bool.{Bool, true, false}
use mathlib.Core.List.{List, [], ◌++◌, append-nil}
use Prim.Native.Nat.{ℕ, zero, suc, ◌+◌, ◌-◌, ◌^◌, ◌≤◌, ◌<◌}
use native.Mathlib.Omega.{arith}
use lib.ListN.{length, take, drop, length-append, length-drop}
use lib.Seq.{drop-drop}
use Rattle.std.specs.Prelude.{Result, Ok, Err, ◌==◌}
use Rattle.std.specs.declared.ops.ControlFlow.TheVariants.{Continue, Break}
use Rattle.program.specs.Script.{record_at}
use Rattle.program.specs.declared.ScriptRecord.TheVariants.{Cut, End}
use Rattle.script.specs.Progress.{Idle}
use Rattle.script.specs.Streaming.{Stream, came, ended, printed}
use Rattle.std.proofs.lemmas.List.{drop-take}
use Rattle.words.proofs.Stored.{length-stored, take-stored-end}
use Rattle.words.proofs.Moved.{length_part}
use Rattle.script.proofs.Reading.{short_length}
use Rattle.vmbind.specs.declared.Failure.{Failure}
use Rattle.vmbind.specs.declared.Failure.TheVariants.{Read, Write, TooLong}
use Rattle.vmbind.specs.declared.Run.{Run}
use Rattle.vmbind.specs.Buffers.{unread, come, Printed, Writes, Refilled, Held, Outcome, Ends, Moves, full, grown, closed, Carries}

-- a round begins with nothing printed
abbrev begun : Run → Run
begun r = record r { printed = 0; written = 0 }

-- a round that prints nothing, since the places are at their end
pub too_long : (run : Run) → Held run → 2 ^ 63 ≤ run.progress.place → Carries run (Err TooLong) (begun run)
too_long run h e = record {
  ends = (refl, e);
  moves = λ g. cc;
  inside = omega arith;
  held = record { order = h.order; inside = h.inside; there = h.there };
  stream = λ {bs} {text} s. ([], rw (append-nil bs, append-nil text) s);
}

module _ (run : Run) (h : Held run) {q : Run} (p : Printed (begun run) q) where
  unread-length : length (unread run) ≡ run.to - run.from
  unread-length = length_part run.input run.from (run.to - run.from) (omega (arith, h.order, h.inside))

  pub taken_within : q.from ≤ q.to
  taken_within = omega (arith, h.order, p.advances.goes.within, unread-length, p.from, p.same.1)

  to_inside : q.to ≤ length q.input
  to_inside = omega (arith, h.inside, p.same.1, ap length p.same.0)

  -- what is unread afterwards
  rest : drop p.taken (unread run) ≡ unread q
  rest =
      let e : run.to - run.from ≡ p.taken + (q.to - q.from) = omega (arith, taken_within, p.from, p.same.1) in
      ap (λ (n : ℕ). drop p.taken (take n (drop run.from run.input))) e
      ∙ drop-take p.taken (q.to - q.from) (drop run.from run.input)
      ∙ ap (take (q.to - q.from)) (drop-drop p.taken run.from run.input ∙ ap (λ (n : ℕ). drop n run.input) (sym p.from) ∙ ap (drop q.from) (sym p.same.0))

  -- the text is what stands at the front of the output
  fits : 0 + length p.advances.goes.text ≤ length run.output
  fits = omega (arith, p.advances.goes.behind, p.advances.room)

  text_at : take q.printed q.output ≡ p.advances.goes.text
  text_at = rw (p.advances.goes.bytes, p.advances.goes.behind) (take-stored-end run.output 0 p.advances.goes.text (omega arith))

  out_length : length q.output ≡ length run.output
  out_length = ap length p.advances.goes.bytes ∙ length-stored run.output 0 p.advances.goes.text fits

  end-inside : q.printed ≤ length q.output
  end-inside = omega (arith, p.advances.room, out_length)

  -- what holds before the writes
  pub to_write : (q.written ≤ q.printed) × (q.printed ≤ length q.output)
  to_write = (omega (arith, p.same.3), end-inside)

  carries_on : {r : Run} {n : ℕ} (e : Outcome) → r ≡ record q { written = n } → Ends e (record q { written = n })
      → (e ≡ Ok (Continue tt) → length run.output < q.printed + 320) → Carries run e r
  carries_on {r} {n} e s ends moves = subst⁻¹ (λ (x : Run). Carries run e x) s (record {
    ends = ends;
    moves = λ g. full (omega (arith, moves g, out_length));
    inside = end-inside;
    held = record { order = taken_within; inside = to_inside; there = p.advances.goes.held };
    stream = λ {bs} {text} s. ([], rw (append-nil bs, ← rest, text_at, p.same.2) (printed s p.advances.goes));
  })

  pub carries_failed : {r : Run} {f : Failure} → Writes q (Err f) r → Carries run (Err Write) r
  carries_failed w = carries_on (Err Write) w.same w.outcome.1 (λ g. cc)

  module _ {q' : Run} (w : Writes q (Ok tt) q') where
    printed_still : q'.printed ≡ q.printed
    printed_still = ap (λ (x : Run). x.printed) w.same

    stopped_still : q'.progress.stopped ≡ q.progress.stopped
    stopped_still = ap (λ (x : Run). x.progress.stopped) w.same

    pub carries_full : length run.output < q'.printed + 320 → Carries run (Ok (Continue tt)) q'
    carries_full room = carries_on (Ok (Continue tt)) w.same w.outcome (λ _. omega (arith, printed_still))

    -- ── where there was room for more ──

    module _ (room : q'.printed + 320 ≤ length run.output) where
      idle : Idle q.progress (drop p.taken (unread run)) run.last
      idle = go p.advances.ended
        where
          go : (length run.output < q.printed + 320) ⊎ Idle q.progress (drop p.taken (unread run)) run.last
              → Idle q.progress (drop p.taken (unread run)) run.last
          go (inl f) = absurd (omega (arith, printed_still))
          go (inr i) = i

      pub carries_done : q'.progress.stopped ≡ true → Carries run (Ok (Break tt)) q'
      carries_done stopped = carries_on (Ok (Break tt)) w.same (w.outcome, sym stopped_still ∙ stopped, idle.none_left) (λ g. cc)

      -- where the program has not stopped, it waits for more bytes
      module _ (going : q'.progress.stopped ≡ false) where
        Waits : Type 0
        Waits = (run.last ≡ false) × ((record_at (drop p.taken (unread run)) ≡ Cut) ⊎ (record_at (drop p.taken (unread run)) ≡ End))

        waiting : Waits
        unfolding Waits
        waiting = by idle.because
          where
            by : (q.progress.stopped ≡ true) ⊎ Waits → Waits
            by (inl e) = cc
            by (inr k) = k

        more_come : q.last ≡ false
        unfolding Waits
        more_come = p.same.2 ∙ waiting.0

        -- and less than a record is unread
        pub few_unread : q.to < q.from + 42
        unfolding Waits
        few_unread =
            omega (arith, short_length _ waiting.1, length-drop p.taken (unread run), unread-length, taken_within, p.from, p.same.1)

        pub to_refill : 42 ≤ length run.input → (q'.from ≤ q'.to) × (q'.to < q'.from + length q'.input) × (q'.to ≤ length q'.input)
        to_refill size = rw w.same (taken_within, omega (arith, few_unread, ap length p.same.0), to_inside)

        module _ {e : Result (Unit {0}) Failure} {r : Run} (f : Refilled q' e r) where
          filled : r ≡ record q { written = w.taken; input = r.input; from = r.from; to = r.to; last = r.last }
          filled = subst (λ (x : Run). r ≡ record x { input = r.input; from = r.from; to = r.to; last = r.last }) w.same f.same

          behind : unread r ≡ unread q ++ f.more
          behind = subst (λ (x : Run). unread r ≡ unread x ++ f.more) w.same f.behind

          carries : (o : Outcome) → Ends o r → (o ≡ Ok (Continue tt) → Moves run r) → Carries run o r
          unfolding Waits
          carries o ends moves = record {
            ends = ends;
            moves = moves;
            inside = rw filled end-inside;
            held = record { order = f.order; inside = f.inside; there = rw filled p.advances.goes.held };
            stream = λ {bs} {text} s. (f.more, go text r.last (subst (λ (l : Bool). Stream bs l (unread q) (text ++ take q.printed q.output) q.progress q.ranges q.table q.operations) waiting.0 (rw (← rest, text_at) (printed s p.advances.goes))));
          }
            where
              onto : {bs : List ℕ} (text : List ℕ) (last : Bool) → Stream bs last (unread q ++ f.more) (text ++ take q.printed q.output) q.progress q.ranges q.table q.operations
                  → Stream bs last (unread r) (text ++ take r.printed r.output) r.progress r.ranges r.table r.operations
              onto {bs} text last s = subst⁻¹ (λ (x : Run). Stream bs last (unread r) (text ++ take x.printed x.output) x.progress x.ranges x.table x.operations) filled (rw behind s)

              go : {bs : List ℕ} (text : List ℕ) (last : Bool) → Stream bs false (unread q) (text ++ take q.printed q.output) q.progress q.ranges q.table q.operations
                  → Stream (bs ++ f.more) last (unread r) (text ++ take r.printed r.output) r.progress r.ranges r.table r.operations
              go text true s = onto text true (ended (came s f.more))
              go text false s = onto text false (came s f.more)

        pub carries_refilled : {r : Run} → Refilled q' (Ok tt) r → Carries run (Ok (Continue tt)) r
        unfolding Waits
        carries_refilled {r} f = carries f (Ok (Continue tt)) written (λ _. moves (length f.more) refl f.outcome)
          where
            written : r.written ≡ r.printed
            written = rw (filled f) w.outcome

            grows : come r ≡ come run + length f.more
            grows =
                let l : r.to - r.from ≡ length (unread q) + length f.more =
                sym (length_part r.input r.from (r.to - r.from) (omega (arith, f.order, f.inside))) ∙ ap length (behind f) ∙ length-append (unread q) f.more in
                omega (
                  arith,
                  ap (λ (x : Run). x.progress.place) (filled f),
                  p.advances.goes.place,
                  taken_within,
                  h.order,
                  p.from,
                  p.same.1,
                  length_part q.input q.from (q.to - q.from) (omega (arith, taken_within, to_inside)),
                )

            moves : (n : ℕ) → length f.more ≡ n → r.last ≡ (length f.more == 0) → Moves run r
            moves zero e l = closed waiting.0 (l ∙ ap (λ (n : ℕ). n == 0) e)
            moves (suc n) e l = grown (omega (arith, grows))

        pub carries_unread : {r : Run} {g : Failure} → Refilled q' (Err g) r → Carries run (Err Read) r
        unfolding Waits
        carries_unread {r} f = carries f (Err Read) (written, last, quiet) (λ g. cc)
          where
            written : r.written ≡ r.printed
            written = rw (filled f) w.outcome

            last : r.last ≡ false
            last = f.outcome.2 ∙ ap (λ (x : Run). x.last) w.same ∙ more_come

            unread_still : unread r ≡ drop p.taken (unread run)
            unread_still = behind f ∙ ap (λ (xs : List ℕ). unread q ++ xs) f.outcome.1 ∙ append-nil (unread q) ∙ sym rest

            quiet : Idle r.progress (unread r) r.last
            quiet = rw (ap (λ (x : Run). x.progress) (filled f), unread_still, last) (rw waiting.0 at idle)
