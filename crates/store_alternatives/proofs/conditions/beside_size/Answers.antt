use Rattle.term_store.proofs.Stores.{Holds-within}
use Rattle.store_alternatives.proofs.Numbers.{kept, later_within, binary_held}
use Rattle.store_alternatives.proofs.conditions.beside_size.Goals as goal

pub add_binary-requires-clause-left : goal.add_binary-requires-clause-left
add_binary-requires-clause-left c = later_within c.args.store.now c.add_unary.new.store c.args.i c.in_ok-size.ensures.grows c.requires.left

pub add_binary-requires-clause-right : goal.add_binary-requires-clause-right
add_binary-requires-clause-right c = Holds-within c.add_unary.new.store c.in_ok-size.size _ c.in_ok-size.ensures.number

pub returns-clause-number : goal.returns-clause-number
returns-clause-number c =
    let mid = c.add_unary.new.store in
    binary_held c.add_binary.result mid c.add_binary.new.store c.args.op c.args.i c.in_ok-size.size _ _ (kept c.args.store.now mid c.args.i c.in_ok-size.ensures.grows c.requires.left) c.in_ok-size.ensures.number c.add_binary.ensures.number
