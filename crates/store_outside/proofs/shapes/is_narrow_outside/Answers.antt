use Rattle.std.proofs.Common.{map, sym, ◌∙◌}
use Rattle.slang_values.specs.Tree.{sequence_of, record_of}
use Rattle.term_trees.specs.Term.{sort_type}
use Rattle.term_sorts.specs.Types.{types_of, record_types}
use Rattle.term_store.specs.Store.{tree_at}
use Rattle.node_parts.proofs.Placed.{shape-tree_at}
use Rattle.store_outside.proofs.ByShape.{outside-listed}
use Rattle.store_outside.proofs.shapes.is_narrow_outside.Goals as goal

pub returns-in-Sequence : goal.returns-in-Sequence
returns-in-Sequence c =
    c.answer_for_all.ensures
    ∙ sym
    (outside-listed (record_types c.args.records.now) (types_of c.args.symbols.now) (tree_at c.args.store.now c.args.id) (sequence_of (sort_type c.in-Sequence.field-0.now)) (map (tree_at c.args.store.now) c.in-Sequence.parts.now)
    (shape-tree_at c.args.store.now c.args.id c.view.result.now _ c.view.ensures.placed c.in-Sequence.ensures))

pub returns-in-Record : goal.returns-in-Record
returns-in-Record c =
    c.answer_for_all-in-Record.ensures
    ∙ sym
    (outside-listed (record_types c.args.records.now) (types_of c.args.symbols.now) (tree_at c.args.store.now c.args.id) (record_of c.in-Record.field-0) (map (tree_at c.args.store.now) c.in-Record.parts.now)
    (shape-tree_at c.args.store.now c.args.id c.view.result.now _ c.view.ensures.placed c.in-Record.ensures))
