use Rattle.std.proofs.Common.{ap, ◌∙◌, drop, arith}
use Rattle.std.specs.Int.{w32, from_le_bytes}
use Rattle.record.proofs.Bytes.{four}
use Rattle.record.proofs.u32_at.Goals as goal

pub returns : goal.returns
returns c = record {
  is = c.from.ensures ∙ c.from_le_bytes.ensures ∙ ap (from_le_bytes w32) c.bytes_at.ensures ∙ four (drop c.args.at c.args.bytes.now);
  fits = omega (arith, c.from.ensures, c.from_le_bytes.type_inv);
}
