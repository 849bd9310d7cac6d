use Rattle.std.proofs.Common.{◌+◌, ◌*◌, map, take}
use Rattle.term_trees.specs.Term.{sort_type}
use Rattle.term_sorts.specs.Types.{record_types}
use Rattle.term_store.specs.Store.{Grows}
use Rattle.store_alternatives.specs.Defaults.{AreDefaultsAt}
use Rattle.store_alternatives.proofs.defaults.+defaults.Given as goal

abbrev pub decreases-default_of : goal.decreases-default_of
decreases-default_of l =
    3 * l.depth + 2

abbrev pub decreases-default_record : goal.decreases-default_record
decreases-default_record l =
    3 * l.depth + 1

abbrev pub decreases-defaults_of : goal.decreases-defaults_of
decreases-defaults_of l =
    3 * l.depth + 3

abbrev pub invariant-defaults_of-loop-sort : goal.invariant-defaults_of-loop-sort
invariant-defaults_of-loop-sort l =
    Grows l.fn.store l.store × AreDefaultsAt (record_types l.records) l.depth l.store l.ids (take l.sort-index (map sort_type l.sorts))
