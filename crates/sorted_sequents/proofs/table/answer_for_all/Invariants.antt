use Rattle.std.proofs.Common.{◌≡◌, map, take, true}
use Rattle.std.specs.List.{list_all}
use Rattle.term_sorts.specs.Types.{types_of, record_types}
use Rattle.term_store.specs.Store.{tree_at}
use Rattle.sorted_sequents.specs.Fitting.{is_fit}
use Rattle.sorted_sequents.proofs.table.answer_for_all.Given as goal

abbrev pub invariant-loop-id : goal.invariant-loop-id
invariant-loop-id l = list_all (is_fit (record_types l.records) (types_of l.symbols)) (map (tree_at l.store) (take l.id-index l.ids)) ≡ true
