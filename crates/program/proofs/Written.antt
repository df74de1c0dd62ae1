-- A script's records are read as they were written.
-- Assumes nothing.
use mathlib.Core.Path.{refl, ap}
use mathlib.Core.List.{[]}
use lib.ListN.{drop}
use Rattle.model.specs.Calls.{bytes_of, record_of, space_of}
use Rattle.program.specs.Text.{ascii}
use Rattle.program.specs.Script.{record_at}
use Rattle.program.specs.Claims.{set_space_bytes, ScriptReadsBack}
use Rattle.program.specs.declared.ScriptRecord.TheVariants.{SetSpace, LookUp}
use Rattle.model.proofs.Record.{little_endian-bytes_of}

pub script_reads_back : ScriptReadsBack
unfolding record_at record_of bytes_of ascii
script_reads_back = record {
  space = λ a n b k h.
      let bs = set_space_bytes a n b k in
      λ i. SetSpace (space_of (little_endian-bytes_of 8 a (drop 10 bs) h.0 i) (little_endian-bytes_of 8 n (drop 18 bs) h.1.0 i)
      (little_endian-bytes_of 8 b (drop 26 bs) h.1.1.0 i) (little_endian-bytes_of 8 k [] h.1.1.1.0 i));
  request = λ r. (refl, refl);
  address = λ x h. ap LookUp (little_endian-bytes_of 8 x [] h);
}
