use mathlib.Core.Path.{◌∙◌}
use Rattle.table.proofs.Spliced.{splice_behind, splice_written}
use borrow.Author.Rules.{rules}
use Rattle.table.proofs.splice.Goals as goal

pub clear_behind-requires : goal.clear_behind-requires
clear_behind-requires c =
    let a = c.args in (
      search rules,
      search rules,
      rw (c.write_replacement.ensures, c.move_run.ensures, c.replacement_length.ensures.0)
          (splice_behind a.t.now a.count a.lo a.hi a.new c.requires),
    )

pub returns : goal.returns
returns c =
    let a = c.args in
    c.clear_behind.ensures
    ∙ rw (c.write_replacement.ensures, c.move_run.ensures, c.replacement_length.ensures.0)
    (splice_written a.t.now a.count a.lo a.hi a.new c.requires)
