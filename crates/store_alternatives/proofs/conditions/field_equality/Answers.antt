use Rattle.std.proofs.Common.{ap, subst}
use Rattle.slang_values.specs.declared.operators.Unary.{Unary}
use Rattle.slang_values.specs.declared.operators.Binary.{Binary}
use Rattle.slang_values.specs.Tree.{unary}
use Rattle.term_store.specs.Store.{tree_at, Holds}
use Rattle.term_store.proofs.Stores.{Grows-Holds, Grows-tree_at, Holds-within}
use Rattle.store_alternatives.proofs.Numbers.{later_within, unary_holds, kept, binary_held}
use Rattle.store_alternatives.proofs.conditions.field_equality.Goals as goal

pub add_unary-requires-2 : goal.add_unary-requires-2
add_unary-requires-2 c = later_within c.args.store.now c.add_unary.new.store c.args.b c.in_ok-left.ensures.grows c.requires.right

pub add_binary-requires-clause-left : goal.add_binary-requires-clause-left
add_binary-requires-clause-left c = Holds-within c.add_unary-2.new.store c.in_ok-left.left _ (Grows-Holds c.add_unary.new.store c.add_unary-2.new.store c.in_ok-left.left _ c.in_ok-right.ensures.grows c.in_ok-left.ensures.number)

pub add_binary-requires-clause-right : goal.add_binary-requires-clause-right
add_binary-requires-clause-right c = Holds-within c.add_unary-2.new.store c.in_ok-right.right _ c.in_ok-right.ensures.number

pub returns-clause-number : goal.returns-clause-number
returns-clause-number c =
    let old = c.args.store.now in
    let first = c.add_unary.new.store in
    let second = c.add_unary-2.new.store in
    let left = Grows-Holds first second c.in_ok-left.left _ c.in_ok-right.ensures.grows c.in_ok-left.ensures.number in
    let right = unary_holds first second (Unary.Field c.args.place) c.in_ok-right.right c.args.b _ (kept old first c.args.b c.in_ok-left.ensures.grows c.requires.right) c.in_ok-right.ensures.number in
    binary_held c.add_binary.result second c.add_binary.new.store Binary.Eq c.in_ok-left.left c.in_ok-right.right _ _ left right c.add_binary.ensures.number
