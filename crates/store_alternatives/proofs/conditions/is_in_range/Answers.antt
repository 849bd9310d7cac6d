use Rattle.slang_values.specs.Tree.{binary, unary}
use Rattle.slang_values.specs.declared.operators.Unary.{Unary}
use Rattle.slang_values.specs.declared.operators.Binary.{Binary}
use Rattle.std.proofs.Common.{ap₂, subst}
use Rattle.term_store.specs.Store.{tree_at, Holds}
use Rattle.term_store.proofs.Stores.{Grows-Holds, Grows-tree_at, Holds-within}
use Rattle.store_alternatives.proofs.Numbers.{kept, later_within, binary_held}
use Rattle.store_alternatives.proofs.conditions.is_in_range.Goals as goal

pub beside_size-requires-clause-left : goal.beside_size-requires-clause-left
beside_size-requires-clause-left c = later_within c.args.store.now c.at_least.new.store c.args.i c.in_ok-low.ensures.grows c.requires.right

pub beside_size-requires-clause-right : goal.beside_size-requires-clause-right
beside_size-requires-clause-right c = later_within c.args.store.now c.at_least.new.store c.args.a c.in_ok-low.ensures.grows c.requires.left

pub add_binary-requires-clause-left : goal.add_binary-requires-clause-left
add_binary-requires-clause-left c = Holds-within c.beside_size.new.store c.in_ok-low.low _ (Grows-Holds c.at_least.new.store c.beside_size.new.store c.in_ok-low.low _ c.in_ok-high.ensures.grows c.in_ok-low.ensures.number)

pub add_binary-requires-clause-right : goal.add_binary-requires-clause-right
add_binary-requires-clause-right c = Holds-within c.beside_size.new.store c.in_ok-high.high _ c.in_ok-high.ensures.number

pub returns-clause-number : goal.returns-clause-number
returns-clause-number c =
    let old = c.args.store.now in
    let first = c.at_least.new.store in
    let second = c.beside_size.new.store in
    let low = Grows-Holds first second c.in_ok-low.low _ c.in_ok-high.ensures.grows c.in_ok-low.ensures.number in
    let high = subst (Holds second c.in_ok-high.high) (ap₂ (λ x y. binary Binary.Lt x (unary Unary.Size y)) (Grows-tree_at old first c.args.i c.in_ok-low.ensures.grows c.requires.right) (Grows-tree_at old first c.args.a c.in_ok-low.ensures.grows c.requires.left)) c.in_ok-high.ensures.number in
    binary_held c.add_binary.result second c.add_binary.new.store Binary.And c.in_ok-low.low c.in_ok-high.high _ _ low high c.add_binary.ensures.number
