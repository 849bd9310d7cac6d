use Rattle.std.proofs.Common.{sym, ◌∙◌}
use Rattle.term_sorts.specs.Types.{types_of, record_types}
use Rattle.term_store.specs.Store.{tree_at}
use Rattle.sorted_sequents.specs.Fitting.{is_fit}
use Rattle.sorted_sequents.proofs.Rounds.{one_fails}
use Rattle.sorted_sequents.proofs.table.answer_for_all.Goals as goal

pub returns-then-not-answer_for : goal.returns-then-not-answer_for
returns-then-not-answer_for c =
    one_fails (is_fit (record_types c.args.records.now) (types_of c.args.symbols.now)) (tree_at c.args.store.now) c.args.ids.now c.loop-id.id-index 0
    c.loop-id-test.true
    (sym c.answer_for.ensures ∙ c.if-not-answer_for.true)
