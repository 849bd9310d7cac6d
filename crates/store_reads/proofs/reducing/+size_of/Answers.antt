use Rattle.std.proofs.Common.{pos, ap, ap₂, sym, ◌∙◌, arith}
use Rattle.slang_values.specs.Tree.{literal, binary}
use Rattle.slang_values.specs.declared.operators.Binary.{Binary}
use Rattle.read_rules.specs.Reduced.{size_tree}
use Rattle.term_store.specs.Store.{stored, tree_at}
use Rattle.term_store.proofs.Gains.{number_of_tree}
use Rattle.term_store.proofs.Stores.{Grows-length, Grows-tree_at, Holds-within, tree_at-Holds}
use Rattle.store_reads.proofs.Store.{shape-tree_at}
use Rattle.store_reads.proofs.reducing.+size_of.Goals as goal

pub add_binary-requires-clause-left : goal.add_binary-requires-clause-left
add_binary-requires-clause-left t c =
    omega (arith, Holds-within c.size_of-in-OneMore.new.store c.in_ok-below-in-OneMore.below _ c.in_ok-below-in-OneMore.ensures.number, Grows-length c.size_of-in-OneMore.new.store c.add_literal.new.store c.in_ok-one-in-OneMore.ensures.grows)

pub add_binary-requires-clause-right : goal.add_binary-requires-clause-right
add_binary-requires-clause-right t c = Holds-within c.add_literal.new.store c.in_ok-one-in-OneMore.one _ c.in_ok-one-in-OneMore.ensures.number

pub returns-in_ok-one-in-OneMore-clause-number : goal.returns-in_ok-one-in-OneMore-clause-number
returns-in_ok-one-in-OneMore-clause-number t c =
    let store = c.args.store.now in
    let first = c.size_of-in-OneMore.new.store in
    let second = c.add_literal.new.store in
    let below = c.in_ok-below-in-OneMore.below in
    let size = size_tree (tree_at store c.in-OneMore.s) in
    let held = c.in_ok-below-in-OneMore.ensures.number in
    let here = Grows-tree_at first second below c.in_ok-one-in-OneMore.ensures.grows (Holds-within first below size held) ∙ tree_at-Holds first below size held in
    let one = tree_at-Holds second c.in_ok-one-in-OneMore.one (literal (pos 1)) c.in_ok-one-in-OneMore.ensures.number in
    let whole = ap size_tree (shape-tree_at store c.args.a c.view.result.now c.shape.result c.view.ensures.placed c.shape.ensures) ∙ c.in-OneMore.ensures.1 (stored store) in
    number_of_tree c.add_binary.result c.add_binary.new.store (binary Binary.Add (tree_at second below) (tree_at second c.in_ok-one-in-OneMore.one)) (size_tree (tree_at store c.args.a)) (ap₂ (binary Binary.Add) here one ∙ sym whole) c.add_binary.ensures.number
