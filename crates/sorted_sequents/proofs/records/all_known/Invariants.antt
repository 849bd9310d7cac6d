use Rattle.std.proofs.Common.{◌≡◌, map, take, true}
use Rattle.std.specs.List.{list_all}
use Rattle.slang_values.specs.Value.{is_known}
use Rattle.term_trees.specs.Term.{sort_type}
use Rattle.term_sorts.specs.Types.{record_types}
use Rattle.sorted_sequents.proofs.records.all_known.Given as goal

abbrev pub invariant-loop-fields : goal.invariant-loop-fields
invariant-loop-fields l = list_all (list_all (is_known (record_types l.records))) (record_types (take l.fields-index l.records)) ≡ true
