use Rattle.std.proofs.Common.{length}
use Rattle.legs.specs.Legs.{legs_at}
use Rattle.legs.proofs.Whole.{are_legs, are_well_formed, few, many, own_there, told}
use Rattle.legs.proofs.all.legs_of.Goals as goal

pub returns-then-count-gt-MOST-clause-end : goal.returns-then-count-gt-MOST-clause-end
returns-then-count-gt-MOST-clause-end c =
    let typed = c.args.typed.now in
    let own = c.index-as_slice-method in
    let count = c.leg_count-count.result in
    let is = told typed c.args.method count c.as_slice.result.now own.result c.as_slice.ensures c.requires own.is c.leg_count-count.ensures in
    (many count (length (legs_at typed c.args.method)) is c.if-count-gt-MOST.true, is)

pub add_legs-requires-clause-own : goal.add_legs-requires-clause-own
add_legs-requires-clause-own c =
    let own = c.index-as_slice-method in
    own_there c.args.typed.now c.args.method c.as_slice.result.now own.result c.as_slice.ensures c.requires own.is

pub add_legs-requires-clause-counted : goal.add_legs-requires-clause-counted
add_legs-requires-clause-counted c =
    let typed = c.args.typed.now in
    let own = c.index-as_slice-method in
    let count = c.leg_count-count.result in
    few count (length (legs_at typed c.args.method))
    (told typed c.args.method count c.as_slice.result.now own.result c.as_slice.ensures c.requires own.is c.leg_count-count.ensures) c.if-count-gt-MOST.false

pub returns-clause-legs : goal.returns-clause-legs
returns-clause-legs c =
    let typed = c.args.typed.now in
    let own = c.index-as_slice-method in
    let count = c.leg_count-count.result in
    are_legs typed c.args.method count c.add_legs.new.out
    (told typed c.args.method count c.as_slice.result.now own.result c.as_slice.ensures c.requires own.is c.leg_count-count.ensures) c.if-count-gt-MOST.false
    c.in_ok-add_legs.ensures

pub returns-clause-well_formed : goal.returns-clause-well_formed
returns-clause-well_formed c =
    let typed = c.args.typed.now in
    let own = c.index-as_slice-method in
    let count = c.leg_count-count.result in
    are_well_formed typed c.args.method c.add_legs.new.out c.requires
    (are_legs typed c.args.method count c.add_legs.new.out
    (told typed c.args.method count c.as_slice.result.now own.result c.as_slice.ensures c.requires own.is c.leg_count-count.ensures) c.if-count-gt-MOST.false
    c.in_ok-add_legs.ensures)
