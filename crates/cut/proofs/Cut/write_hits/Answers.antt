use mathlib.Core.Path.{sym, subst}
use native.Mathlib.Omega.{arith}
use Rattle.table.proofs.Places.{valid_at}
use Rattle.cut.specs.Operations.{Hit}
use Rattle.cut.proofs.Written.{hits-start, hits_next, room_each}
use Rattle.cut.proofs.Cut.write_hits.Goals as goal

pub loop-i-init : goal.loop-i-init
loop-i-init c = hits-start

pub invariant_of-hit : goal.invariant_of-hit
invariant_of-hit c =
    let pre = c.requires in
    let i = c.loop-i.i in
    let e = c.read_mapping.ensures in
    let m = valid_at pre.table i (omega (arith, pre.high)) e in
    record { cuttable = record { not_empty = pre.not_empty; hit = subst (Hit c.args.self.request) (sym e) (pre.hit i (omega arith) (omega arith)); stop_most = pre.stop_most; end_most = m.0; offset_most = m.1 } }

pub write_operation-requires : goal.write_operation-requires
write_operation-requires c = let pre = c.requires in omega (arith, room_each pre)

pub loop-i-preserved : goal.loop-i-preserved
loop-i-preserved c =
    hits_next (omega arith) c.read_mapping.ensures c.operation.ensures c.write_operation.ensures c.loop-i.invariant
