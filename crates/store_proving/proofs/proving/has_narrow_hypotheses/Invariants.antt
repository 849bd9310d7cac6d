use Rattle.std.proofs.Common.{◌≡◌, map, take, true}
use Rattle.std.specs.List.{list_all}
use Rattle.closing.specs.Literals.{is_narrow_outside}
use Rattle.term_sorts.specs.Types.{record_types, types_of}
use Rattle.term_store.specs.Store.{tree_at, Grows}
use Rattle.store_leaves.specs.Workings.{AreWorkings}
use Rattle.store_proving.proofs.proving.has_narrow_hypotheses.Given as goal

abbrev pub invariant-facts : goal.invariant-facts
invariant-facts l = record {
  narrow : list_all (is_narrow_outside (record_types l.sequent.records) (types_of l.sequent.sorts)) (map (tree_at l.fn.store) (take l.place l.sequent.facts))
      ≡ true;
  grows : Grows l.fn.store l.store;
  work : AreWorkings (record_types l.sequent.records) (types_of l.sequent.sorts) l.store l.work;
}
