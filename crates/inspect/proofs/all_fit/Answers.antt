use mathlib.Core.Bool.{and-eq-true_iff}
use Rattle.std.proofs.Common.{leb, arith, leb-true, refl}
use Rattle.inspect.proofs.Chunks.{row_count, row_mapping}
use Rattle.inspect.proofs.Quick.{pass_start, pass_next, pass_end}
use Rattle.inspect.proofs.all_fit.Goals as goal

pub loop-row-init : goal.loop-row-init
loop-row-init c =
    let a = c.args in
    λ _ _. pass_start a.t.now a.count a.from a.stop c.requires.1 c.requires.2

pub loop-row-preserved : goal.loop-row-preserved
loop-row-preserved c =
    λ few clean.
    let both = c.join-seen.ensures clean in
    let before = c.loop-row.invariant few both.0 in
    let m = row_mapping c.args.t.now c.args.count c.requires.0 c.as_chunks.ensures.front_len c.as_chunks.ensures.front c.loop-row-test.true c.mapping_from-m.ensures in
    pass_next before few m.0 m.1 both.1 refl

pub returns : goal.returns
returns c =
    let done = c.loop-row in
    let a = c.args in
    let rows = row_count a.t.now a.count c.requires.0 c.as_chunks.ensures.front_len in
    λ e.
    let three = (and-eq-true_iff _ _).0 e in
    let both = (and-eq-true_iff c.all_keep_rules.result (leb done.end a.stop)).0 three.0 in
    let few = leb-true a.count _ three.1 in
    let passed = done.invariant (omega (arith, few)) (c.all_keep_rules.ensures both.0) in
    pass_end passed (omega (arith, rows)) (leb-true done.end a.stop both.1)
