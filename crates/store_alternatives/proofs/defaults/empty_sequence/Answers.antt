use Rattle.std.proofs.Common.{map, ap₂, Some}
use Rattle.slang_values.specs.Tree.{listed, sequence_of}
use Rattle.slang_values.specs.Value.{sequence_type}
use Rattle.term_trees.specs.Term.{sort_type, trees_of}
use Rattle.term_store.specs.Store.{tree_at}
use Rattle.store_alternatives.proofs.EndingRecords.{held_default}
use Rattle.store_alternatives.proofs.defaults.empty_sequence.Goals as goal

pub returns-clause-number : goal.returns-clause-number
returns-clause-number c = λ records depth. (
    let store = c.args.store.now in
    held_default records c.add.result c.add.new.store (listed (sequence_of (sort_type c.in_ok-element.element)) (trees_of (map (tree_at store) c.new.result))) depth (sequence_type (sort_type c.args.element.now))
    (ap₂ (λ s ks. Some (listed (sequence_of (sort_type s)) (trees_of (map (tree_at store) ks)))) c.in_ok-element.ensures c.new.ensures) c.add.ensures.number)
