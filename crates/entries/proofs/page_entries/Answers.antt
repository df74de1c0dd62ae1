use mathlib.Core.Path.{sym, ◌∙◌}
use Rattle.entries.proofs.Listing.{listed}
use Rattle.entries.proofs.page_entries.Goals as goal

pub returns : goal.returns
returns c =
    let fits = sym c.mapping_fits.ensures ∙ c.if-not-mapping_fits.false in
    listed c.args.m fits c.args.out.now c.entry_count-count.ensures c.if-out-count.false c.largest_in.ensures c.write.ensures
