use native.Mathlib.Omega.{arith}
use Rattle.vmbind.proofs.Answers.{fails_by}
use Rattle.vmbind.proofs.Rounds.{to_write, carries_failed, carries_full, carries_done, to_refill, carries_refilled, carries_unread}
use Rattle.vmbind.proofs.Run.round.Goals as goal

pub write_out-requires : goal.write_out-requires
write_out-requires c = to_write c.args.self.now c.requires c.print.ensures

pub returns-in_err-write_out : goal.returns-in_err-write_out
returns-in_err-write_out c =
    let w = c.in_err-write_out.ensures {u = tt} in
    rw (fails_by c.from_residual.ensures.1 w.outcome.0) (carries_failed c.args.self.now c.requires c.print.ensures w)

pub returns-then-self-gt-OUTPUT_BYTES : goal.returns-then-self-gt-OUTPUT_BYTES
returns-then-self-gt-OUTPUT_BYTES c =
    carries_full c.args.self.now c.requires c.print.ensures (c.in_ok-write_out.ensures {u = tt}) (omega (arith, c.fits-self))

pub returns-then-self : goal.returns-then-self
returns-then-self c =
    carries_done c.args.self.now c.requires c.print.ensures (c.in_ok-write_out.ensures {u = tt}) (omega (arith, c.fits-self)) c.if-self.true

pub refill-requires : goal.refill-requires
refill-requires c =
    to_refill c.args.self.now c.requires c.print.ensures (c.in_ok-write_out.ensures {u = tt}) (omega (arith, c.fits-self)) c.if-self.false (omega (arith, c.fits-self))

pub returns-in_err-refill : goal.returns-in_err-refill
returns-in_err-refill c =
    let f = c.in_err-refill.ensures {u = tt} in
    rw (fails_by c.from_residual-in_err-refill.ensures.1 f.outcome.0)
    (carries_unread c.args.self.now c.requires c.print.ensures (c.in_ok-write_out.ensures {u = tt}) (omega (arith, c.fits-self)) c.if-self.false f)

pub returns : goal.returns
returns c =
    carries_refilled c.args.self.now c.requires c.print.ensures (c.in_ok-write_out.ensures {u = tt}) (omega (arith, c.fits-self)) c.if-self.false (c.in_ok-refill.ensures {u = tt})
