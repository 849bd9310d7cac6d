use Rattle.std.proofs.Common.{sym, ap, ◌∙◌}
use Rattle.slang_values.specs.Value.{is_known}
use Rattle.term_trees.specs.Term.{sort_type}
use Rattle.term_sorts.specs.Types.{record_types}
use Rattle.sorted_sequents.proofs.Rounds.{one_fails}
use Rattle.sorted_sequents.proofs.sorts.are_known.Goals as goal

pub returns-then-not-is_known : goal.returns-then-not-is_known
returns-then-not-is_known c =
    let p = is_known (record_types c.args.records.now) in
    one_fails p sort_type c.args.sorts.now c.loop-sort.sort-index c.sort-item.result c.loop-sort-test.true
    (ap (λ s. p (sort_type s)) (sym c.sort-item.is) ∙ sym c.is_known.ensures ∙ c.if-not-is_known.true)
