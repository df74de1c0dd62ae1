use mathlib.Core.Path.{refl, ap}
use mathlib.Core.Bool.{not}
use native.Mathlib.Omega.{arith}
use Rattle.rules.proofs.Laws.{held, failed}
use Rattle.ranges.proofs.Chunks.{row_count, row_range}
use Rattle.ranges.proofs.Fits.{fit_next, fit_not, fit_end, fits_end}
use Rattle.ranges.proofs.all_fit.Goals as goal

pub loop-row-init : goal.loop-row-init
loop-row-init c = record { is = refl }

pub returns-then-not-range_fits : goal.returns-then-not-range_fits
returns-then-not-range_fits c =
    let y = row_range c.args.list.now c.args.count c.requires.1 c.as_chunks.ensures.front_len c.as_chunks.ensures.front c.loop-row-test.true c.range_at-y.ensures in
    fit_not y.0 y.1 c.loop-row.invariant (failed c.range_fits.ensures (ap not c.if-not-range_fits.true))

pub overflow_add-end : goal.overflow_add-end
overflow_add-end c =
    omega (arith, fits_end c.args.s c.loop-row.end c.range_at-y.result c.requires.0 (held c.range_fits.ensures (ap not c.if-not-range_fits.false)))

pub loop-row-preserved : goal.loop-row-preserved
loop-row-preserved c =
    let y = row_range c.args.list.now c.args.count c.requires.1 c.as_chunks.ensures.front_len c.as_chunks.ensures.front c.loop-row-test.true c.range_at-y.ensures in
    let f = held c.range_fits.ensures (ap not c.if-not-range_fits.false) in
    fit_next y.0 y.1 c.loop-row.invariant f

pub returns : goal.returns
returns c = fit_end (omega (arith, row_count c.args.list.now c.args.count c.requires.1 c.as_chunks.ensures.front_len)) c.loop-row.invariant
