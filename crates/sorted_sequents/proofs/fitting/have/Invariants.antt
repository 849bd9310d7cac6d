use Rattle.std.proofs.Common.{◌≡◌, map, drop}
use Rattle.term_trees.specs.Term.{sort_type, trees_of}
use Rattle.term_sorts.specs.Types.{types_of, record_types}
use Rattle.term_store.specs.Store.{tree_at}
use Rattle.sorted_sequents.specs.Fitting.{have}
use Rattle.sorted_sequents.proofs.fitting.have.Given as goal

abbrev pub invariant-loop-place : goal.invariant-loop-place
invariant-loop-place l =
    have (record_types l.records) (types_of l.symbols) (map sort_type l.sorts) (trees_of (map (tree_at l.store) l.ids))
    ≡ have (record_types l.records) (types_of l.symbols) (map sort_type (drop l.place l.sorts)) (trees_of (map (tree_at l.store) (drop l.place l.ids)))
