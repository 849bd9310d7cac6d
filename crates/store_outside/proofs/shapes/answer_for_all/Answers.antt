use Rattle.std.proofs.Common.{sym, ◌∙◌}
use Rattle.closing.specs.Literals.{is_narrow_outside}
use Rattle.term_sorts.specs.Types.{types_of, record_types}
use Rattle.term_store.specs.Store.{tree_at}
use Rattle.store_outside.proofs.ByShape.{one_is_false}
use Rattle.store_outside.proofs.shapes.answer_for_all.Goals as goal

pub returns-then-not-answer_for : goal.returns-then-not-answer_for
returns-then-not-answer_for c =
    one_is_false (is_narrow_outside (record_types c.args.records.now) (types_of c.args.symbols.now)) (tree_at c.args.store.now) c.args.ids.now c.loop-id.id-index c.loop-id-test.true
    (sym c.answer_for.ensures ∙ c.if-not-answer_for.true)
