use Rattle.std.proofs.Common.{Bool, get_or, true, false, sym, ap, ◌∙◌}
use Rattle.std.specs.Option.{option_map_or}
use Rattle.slang_values.specs.Value.{ValueType, named_record}
use Rattle.term_trees.specs.Term.{sort_type}
use Rattle.sorted_sequents.proofs.Rounds.{one_fails}
use Rattle.sorted_sequents.proofs.records.fields_end.Goals as goal

pub returns-then-not-field_ends : goal.returns-then-not-field_ends
returns-then-not-field_ends c =
    let p : ValueType → Bool = (λ t. option_map_or (λ n. get_or c.args.answers.now n false) (named_record t) true) in
    one_fails p sort_type c.args.sorts.now c.loop-sort.sort-index c.sort-item.result c.loop-sort-test.true
    (ap (λ s. p (sort_type s)) (sym c.sort-item.is) ∙ sym c.field_ends.ensures ∙ c.if-not-field_ends.true)
