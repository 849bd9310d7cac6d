use Rattle.std.proofs.Common.{map, sym, ap, ◌∙◌}
use Rattle.std.specs.List.{list_all}
use Rattle.slang_values.specs.Value.{is_known}
use Rattle.term_trees.specs.Term.{sort_type}
use Rattle.term_sorts.specs.Types.{record_types}
use Rattle.sorted_sequents.proofs.Rounds.{one_fails}
use Rattle.sorted_sequents.proofs.records.all_known.Goals as goal

pub returns-then-not-are_known : goal.returns-then-not-are_known
returns-then-not-are_known c =
    let p = list_all (is_known (record_types c.args.records.now)) in
    one_fails p (map sort_type) c.args.records.now c.loop-fields.fields-index c.fields-item.result c.loop-fields-test.true
    (ap (λ s. p (map sort_type s)) (sym c.fields-item.is ∙ sym c.as_slice.ensures) ∙ sym c.are_known.ensures ∙ c.if-not-are_known.true)
