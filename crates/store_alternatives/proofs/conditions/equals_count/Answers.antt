use Rattle.slang_values.specs.declared.operators.Binary.{Binary}
use Rattle.term_store.proofs.Stores.{Holds-within}
use Rattle.store_alternatives.proofs.Numbers.{kept, later_within, binary_held}
use Rattle.store_alternatives.proofs.conditions.equals_count.Goals as goal

pub add_binary-requires-clause-left : goal.add_binary-requires-clause-left
add_binary-requires-clause-left c = later_within c.args.store.now c.add_count.new.store c.args.j c.in_ok-right.ensures.grows c.requires

pub add_binary-requires-clause-right : goal.add_binary-requires-clause-right
add_binary-requires-clause-right c = Holds-within c.add_count.new.store c.in_ok-right.right _ c.in_ok-right.ensures.number

pub returns-clause-number : goal.returns-clause-number
returns-clause-number c =
    let mid = c.add_count.new.store in
    binary_held c.add_binary.result mid c.add_binary.new.store Binary.Eq c.args.j c.in_ok-right.right _ _ (kept c.args.store.now mid c.args.j c.in_ok-right.ensures.grows c.requires) c.in_ok-right.ensures.number c.add_binary.ensures.number
