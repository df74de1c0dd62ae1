use Rattle.std.proofs.Common.{ap, not, arith}
use Rattle.rules.proofs.Laws.{held, failed}
use Rattle.inspect.proofs.Fits.{fits_end}
use Rattle.inspect.proofs.Chunks.{row_count, row_mapping}
use Rattle.inspect.proofs.Bad.{bad_next, bad_here, bad_end}
use Rattle.inspect.proofs.Spared.{space_ends}
use Rattle.inspect.proofs.first_bad.Goals as goal

pub loop-place-init : goal.loop-place-init
loop-place-init c = record { is = omega arith }

pub returns-then-not-mapping_fits : goal.returns-then-not-mapping_fits
returns-then-not-mapping_fits c =
    let m = row_mapping c.args.t.now c.args.count c.requires c.as_chunks.ensures.front_len c.as_chunks.ensures.front c.loop-place-test.true c.mapping_from-m.ensures in
    (bad_here m.0 m.1 c.loop-place.invariant (failed c.mapping_fits.ensures (ap not c.if-not-mapping_fits.true)), m.0)

pub overflow_add-end : goal.overflow_add-end
overflow_add-end c =
    let s = c.args.s in
    omega (arith, fits_end s.space c.loop-place.end c.mapping_from-m.result (space_ends s.space s.kept).space (held c.mapping_fits.ensures (ap not c.if-not-mapping_fits.false)))

pub loop-place-preserved : goal.loop-place-preserved
loop-place-preserved c =
    let m = row_mapping c.args.t.now c.args.count c.requires c.as_chunks.ensures.front_len c.as_chunks.ensures.front c.loop-place-test.true c.mapping_from-m.ensures in
    let f = held c.mapping_fits.ensures (ap not c.if-not-mapping_fits.false) in
    bad_next m.0 m.1 c.loop-place.invariant f

pub returns : goal.returns
returns c =
    let rows = row_count c.args.t.now c.args.count c.requires c.as_chunks.ensures.front_len in
    let e = bad_end (omega (arith, rows)) c.loop-place.invariant in
    omega (arith, e, rows)
