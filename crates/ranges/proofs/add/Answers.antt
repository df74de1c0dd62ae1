use Rattle.std.proofs.Common.{ap, not, arith}
use Rattle.rules.proofs.Laws.{held, failed}
use Rattle.ranges.specs.Lists.{lent_list}
use Rattle.ranges.proofs.Places.{valid_zeros}
use Rattle.ranges.proofs.Found.{place_in, free_in, found_most, put_place}
use Rattle.ranges.proofs.Changed.{overlap_refused, full_refused, added_is}
use Rattle.ranges.proofs.add.Goals as goal

pub returns-then-not-is_free_from : goal.returns-then-not-is_free_from
returns-then-not-is_free_from c =
    let a = c.args in
    let free = free_in c.requires.0 a.range c.new-held.ensures c.requires.1 c.first_ending_behind-i.ensures c.is_free_from.ensures.free in
    overlap_refused a.range (lent_list a.list.now a.count) (failed free (ap not c.if-not-is_free_from.true))

pub returns-then-list-count : goal.returns-then-list-count
returns-then-list-count c =
    let a = c.args in
    let free = free_in c.requires.0 a.range c.new-held.ensures c.requires.1 c.first_ending_behind-i.ensures c.is_free_from.ensures.free in
    full_refused a.range (lent_list a.list.now a.count) (held free (ap not c.if-not-is_free_from.false)) c.if-list-count.true

pub put_in-requires : goal.put_in-requires
put_in-requires c =
    let place = place_in c.requires.0 c.args.range c.new-held.ensures c.first_ending_behind-i.ensures in
    (found_most c.requires.0 c.args.range place, omega (arith, c.if-list-count.false), valid_zeros c.requires.0)

pub returns : goal.returns
returns c =
    let a = c.args in
    let place = place_in c.requires.0 a.range c.new-held.ensures c.first_ending_behind-i.ensures in
    let free = free_in c.requires.0 a.range c.new-held.ensures c.requires.1 c.first_ending_behind-i.ensures c.is_free_from.ensures.free in
    let t = held free (ap not c.if-not-is_free_from.false) in
    added_is a.range (lent_list a.list.now a.count) t (omega (arith, c.if-list-count.false)) (put_place c.requires.0 a.range place c.requires.1 t) c.put_in.ensures
