use Rattle.std.proofs.Common.{◌≡◌, ◌+◌, ◌≤◌, min, map, drop, get_or}
use Rattle.std.specs.List.{sum_by}
use Rattle.slang_values.specs.Value.{parts_of_field}
use Rattle.term_trees.specs.Term.{sort_type}
use Rattle.sorted_sequents.proofs.records.fields_parts.Given as goal

abbrev pub invariant-loop-sort : goal.invariant-loop-sort
invariant-loop-sort l = record {
  whole : min (sum_by (λ t. 1 + parts_of_field (λ n. get_or l.counts n 0) t) (map sort_type l.sorts)) 1001
      ≡ min (l.parts + sum_by (λ t. 1 + parts_of_field (λ n. get_or l.counts n 0) t) (map sort_type (drop l.sort-index l.sorts))) 1001;
  small : l.parts ≤ 1001;
}
