use borrow.Author.Tests.{not-true, not-false}
use Rattle.std.proofs.Common.{sym}
use Rattle.ranges.specs.Lists.{lent_list}
use Rattle.ranges.proofs.Places.{valid_held, valid_zeros}
use Rattle.ranges.proofs.Found.{place_in, there_in, not_there, is_listed, not_listed, out_less, out_place}
use Rattle.ranges.proofs.Changed.{absent_refused, removed_is}
use Rattle.ranges.proofs.remove.Goals as goal

pub returns-then-ne : goal.returns-then-ne
returns-then-ne c =
    let a = c.args in
    let place = place_in c.requires a.range c.new-held.ensures c.first_ending_behind-i.ensures in
    let k = not_there c.requires a.range c.new-held.ensures _ c.get.ensures (not-true _ (sym c.if-ne.ensures)) in
    absent_refused a.range (lent_list a.list.now a.count) (not_listed c.requires a.range place k)

pub take_out-requires : goal.take_out-requires
take_out-requires c =
    let a = c.args in
    let place = place_in c.requires a.range c.new-held.ensures c.first_ending_behind-i.ensures in
    let there = there_in c.requires a.range c.new-held.ensures _ c.get.ensures (not-false _ (sym c.if-ne.ensures)) in
    (out_less c.requires a.range place there, valid_held c.requires, valid_zeros c.requires)

pub returns : goal.returns
returns c =
    let a = c.args in
    let place = place_in c.requires a.range c.new-held.ensures c.first_ending_behind-i.ensures in
    let there = there_in c.requires a.range c.new-held.ensures _ c.get.ensures (not-false _ (sym c.if-ne.ensures)) in
    removed_is a.range (lent_list a.list.now a.count) (is_listed c.requires a.range place there) (out_place c.requires a.range place there) c.take_out.ensures
