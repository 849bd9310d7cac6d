use Rattle.std.proofs.Common.{◌≡◌, map, take, get_or, true, false}
use Rattle.std.specs.List.{list_all}
use Rattle.std.specs.Option.{option_map_or}
use Rattle.slang_values.specs.Value.{named_record}
use Rattle.term_trees.specs.Term.{sort_type}
use Rattle.sorted_sequents.proofs.records.fields_end.Given as goal

abbrev pub invariant-loop-sort : goal.invariant-loop-sort
invariant-loop-sort l =
    list_all (λ t. option_map_or (λ n. get_or l.answers n false) (named_record t) true) (map sort_type (take l.sort-index l.sorts)) ≡ true
