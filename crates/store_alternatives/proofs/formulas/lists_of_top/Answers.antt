use Rattle.std.proofs.Common.{length, map, ◌≡◌, ◌≤◌, ap, arith}
use Rattle.std.proofs.lemmas.List.{length-map}
use Rattle.slang_values.specs.Value.{fields}
use Rattle.term_sorts.specs.Types.{record_types}
use Rattle.term_trees.specs.Term.{sort_type}
use Rattle.store_alternatives.proofs.EndingRecords.{few_fields}
use Rattle.store_alternatives.proofs.formulas.lists_of_top.Goals as goal

pub record_lists-requires-clause-few : goal.record_lists-requires-clause-few
record_lists-requires-clause-few c =
    let records = record_types c.args.records.now in
    let sorts = c.fields_of-count.result.now in
    let same : length (map sort_type sorts) ≡ length (fields records c.in-Records.n) = ap length c.fields_of-count.ensures in
    let few : length (fields records c.in-Records.n) ≤ 1000 = few_fields records c.requires.records c.in-Records.n in
    let many : length (map sort_type sorts) ≡ length sorts = length-map sorts sort_type in
    omega arith
