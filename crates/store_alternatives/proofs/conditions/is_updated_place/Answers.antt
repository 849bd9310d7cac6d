use Rattle.slang_values.specs.Tree.{literal, binary, unary}
use Rattle.slang_values.specs.declared.operators.Unary.{Unary}
use Rattle.slang_values.specs.declared.operators.Binary.{Binary}
use Rattle.std.proofs.Common.{pos, ap₂, subst}
use Rattle.read_rules.specs.Reads.{both_hold}
use Rattle.term_store.specs.Store.{tree_at, Holds}
use Rattle.term_store.proofs.Stores.{Grows-Holds, Grows-tree_at, Holds-within}
use Rattle.store_alternatives.proofs.Numbers.{kept, later_within, binary_held}
use Rattle.store_alternatives.proofs.conditions.is_updated_place.Goals as goal

pub is_in_range-requires-clause-left : goal.is_in_range-requires-clause-left
is_in_range-requires-clause-left c = later_within c.args.store.now c.add_binary.new.store c.args.a c.in_ok-same.ensures.grows c.requires.sequence

pub is_in_range-requires-clause-right : goal.is_in_range-requires-clause-right
is_in_range-requires-clause-right c = later_within c.args.store.now c.add_binary.new.store c.args.i c.in_ok-same.ensures.grows c.requires.updated

pub add_binary-requires-2-clause-left : goal.add_binary-requires-2-clause-left
add_binary-requires-2-clause-left c = Holds-within c.is_in_range.new.store c.in_ok-same.same _ (Grows-Holds c.add_binary.new.store c.is_in_range.new.store c.in_ok-same.same _ c.in_ok-range.ensures.grows c.in_ok-same.ensures.number)

pub add_binary-requires-2-clause-right : goal.add_binary-requires-2-clause-right
add_binary-requires-2-clause-right c = Holds-within c.is_in_range.new.store c.in_ok-range.range _ c.in_ok-range.ensures.number

pub returns-clause-number : goal.returns-clause-number
returns-clause-number c =
    let old = c.args.store.now in
    let first = c.add_binary.new.store in
    let second = c.is_in_range.new.store in
    let same = Grows-Holds first second c.in_ok-same.same _ c.in_ok-range.ensures.grows c.in_ok-same.ensures.number in
    let range = subst (Holds second c.in_ok-range.range) (ap₂ (λ x y. both_hold (binary Binary.Le (literal (pos 0)) x) (binary Binary.Lt x (unary Unary.Size y))) (Grows-tree_at old first c.args.i c.in_ok-same.ensures.grows c.requires.updated) (Grows-tree_at old first c.args.a c.in_ok-same.ensures.grows c.requires.sequence)) c.in_ok-range.ensures.number in
    binary_held c.add_binary-2.result second c.add_binary-2.new.store Binary.And c.in_ok-same.same c.in_ok-range.range _ _ same range c.add_binary-2.ensures.number
