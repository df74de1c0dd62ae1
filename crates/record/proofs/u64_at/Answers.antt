use Rattle.std.proofs.Common.{ap, ◌∙◌, drop, arith}
use Rattle.std.specs.Int.{w64, from_le_bytes}
use Rattle.record.proofs.Bytes.{eight}
use Rattle.record.proofs.u64_at.Goals as goal

pub returns : goal.returns
returns c = record {
  is = c.from_le_bytes.ensures ∙ ap (from_le_bytes w64) c.bytes_at.ensures ∙ eight (drop c.args.at c.args.bytes.now);
  fits = omega (arith, c.from_le_bytes.type_inv);
}
