use mathlib.Core.Path.{refl}
use native.Mathlib.Omega.{arith}
use Rattle.vmbind.proofs.Answers.{fails_by}
use Rattle.vmbind.proofs.Refills.{refills, failed}
use Rattle.vmbind.proofs.Run.refill.Goals as goal

pub returns-in_err-count : goal.returns-in_err-count
returns-in_err-count c =
    let b = c.in_err-count.ensures {u = tt} in
    refills c.args.self.now 0 (omega arith) (omega arith) c.requires.0 c.requires.2 c.keep_unread-kept.ensures.0 c.keep_unread-kept.ensures.1 b.same (failed c.args.self.now (fails_by c.from_residual.ensures.1 b.outcome))

pub returns : goal.returns
returns c =
    let b = c.in_ok-count.ensures {u = tt} in
    refills c.args.self.now c.in_ok-count.count (omega arith) b.outcome c.requires.0 c.requires.2 c.keep_unread-kept.ensures.0 c.keep_unread-kept.ensures.1 b.same (λ bytes l. rw l refl)
