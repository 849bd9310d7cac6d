use Rattle.std.proofs.Common.{◌≡◌, map, drop}
use Rattle.term_trees.specs.Term.{sort_type, trees_of}
use Rattle.term_sorts.specs.Types.{types_of, record_types}
use Rattle.term_store.specs.Store.{tree_at}
use Rattle.sorted_sequents.specs.Fitting.{each_has}
use Rattle.sorted_sequents.proofs.fitting.each_has.Given as goal

abbrev pub invariant-loop-id : goal.invariant-loop-id
invariant-loop-id l =
    each_has (record_types l.records) (types_of l.symbols) (sort_type l.sort) (trees_of (map (tree_at l.store) l.ids))
    ≡ each_has (record_types l.records) (types_of l.symbols) (sort_type l.sort) (trees_of (map (tree_at l.store) (drop l.id-index l.ids)))
