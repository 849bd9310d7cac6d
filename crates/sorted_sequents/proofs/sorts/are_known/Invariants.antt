use Rattle.std.proofs.Common.{◌≡◌, map, take, true}
use Rattle.std.specs.List.{list_all}
use Rattle.slang_values.specs.Value.{is_known}
use Rattle.term_trees.specs.Term.{sort_type}
use Rattle.term_sorts.specs.Types.{record_types}
use Rattle.sorted_sequents.proofs.sorts.are_known.Given as goal

abbrev pub invariant-loop-sort : goal.invariant-loop-sort
invariant-loop-sort l = list_all (is_known (record_types l.records)) (map sort_type (take l.sort-index l.sorts)) ≡ true
