use Rattle.std.proofs.Common.{◌≡◌, None, take, drop}
use Rattle.term_sorts.specs.Types.{record_types, types_of}
use Rattle.term_store.specs.Store.{Grows}
use Rattle.store_cases.specs.Search.{trees_of_leaves}
use Rattle.whole_closing.specs.Closing.{closing_of_cases}
use Rattle.store_leaves.specs.Workings.{AreWorkings}
use Rattle.store_proving.specs.Ends.{LeavesTold}
use Rattle.store_proving.specs.Proofs.{AreProofsOf}
use Rattle.store_proving.proofs.proving.add_proofs.Given as goal

-- the leaves end as those that are left, and the others have their proofs
abbrev pub invariant-leaves : goal.invariant-leaves
invariant-leaves g l =
    (closing_of_cases (record_types l.sequent.records) (types_of l.sequent.sorts) (trees_of_leaves l.fn.store (drop l.leaf-index l.leaves))
    ≡ closing_of_cases (record_types l.sequent.records) (types_of l.sequent.sorts) (trees_of_leaves l.fn.store l.leaves)) ×
    AreProofsOf (record_types l.sequent.records) (types_of l.sequent.sorts) (trees_of_leaves l.fn.store (take l.leaf-index l.leaves)) l.proofs ×
    Grows l.fn.store l.store × AreWorkings (record_types l.sequent.records) (types_of l.sequent.sorts) l.store l.work × LeavesTold l.mine (g.S.Stop.told l.fn.stop) (g.S.Stop.told l.stop) None
