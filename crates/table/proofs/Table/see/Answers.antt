use Rattle.std.proofs.Common.{◌∙◌, ap, not, arith}
use Rattle.model.proofs.Store.{length-mappings}
use Rattle.table.proofs.Places.{at_place, valid_at}
use Rattle.table.proofs.Kept.{valid_in}
use Rattle.table.proofs.Looks.{first_place, found_ends}
use Rattle.table.proofs.Sees.{sees_outside, is_inside, sees_end, sees_mapping}
use Rattle.table.proofs.Table.see.Goals as goal

pub returns-then-not-in_space : goal.returns-then-not-in_space
returns-then-not-in_space c =
    c.nothing.ensures
    ∙ sees_outside (valid_in c.args.self.now.held c.requires) c.args.x c.in_space.ensures (ap not c.if-not-in_space.true)

pub returns-then-i-count : goal.returns-then-i-count
returns-then-i-count c =
    let i = is_inside (valid_in c.args.self.now.held c.requires) c.args.x c.in_space.ensures (ap not c.if-not-in_space.false) in
    c.nothing-then-i-count.ensures
    ∙ sees_end (valid_in c.args.self.now.held c.requires) c.args.x i c.first_ending_behind-i.ensures c.if-i-count.true

pub row-requires : goal.row-requires
row-requires c =
    let t = c.args.self.now in
    omega (arith, length-mappings t.count t.words.now, first_place (valid_in c.args.self.now.held c.requires).0 c.args.x)

pub seen_by-requires : goal.seen_by-requires
seen_by-requires c =
    let t = c.args.self.now in
    let p = first_place (valid_in c.args.self.now.held c.requires).0 c.args.x in
    let r = valid_at (valid_in c.args.self.now.held c.requires).0 _ (omega arith) (c.row.ensures ∙ at_place t.count t.words.now _ _ (omega arith)) in
    (found_ends (valid_in c.args.self.now.held c.requires).0 c.args.x _ c.first_ending_behind-i.ensures (omega arith) c.row.ensures, r.0, r.1)

pub returns : goal.returns
returns c =
    let p = first_place (valid_in c.args.self.now.held c.requires).0 c.args.x in
    let i = is_inside (valid_in c.args.self.now.held c.requires) c.args.x c.in_space.ensures (ap not c.if-not-in_space.false) in
    c.seen_by.ensures
    ∙ sees_mapping (valid_in c.args.self.now.held c.requires) c.args.x i _ c.first_ending_behind-i.ensures (omega arith) c.row.ensures
