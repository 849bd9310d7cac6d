use Rattle.std.proofs.Common.{◌≡◌, map, take, true}
use Rattle.std.specs.List.{list_all}
use Rattle.closing.specs.Literals.{is_narrow_outside}
use Rattle.term_sorts.specs.Types.{types_of, record_types}
use Rattle.term_store.specs.Store.{tree_at}
use Rattle.store_outside.proofs.shapes.answer_for_all.Given as goal

abbrev pub invariant-loop-id : goal.invariant-loop-id
invariant-loop-id l =
    list_all (is_narrow_outside (record_types l.records) (types_of l.symbols)) (map (tree_at l.store) (take l.id-index l.ids)) ≡ true
