use Rattle.std.proofs.Common.{sym, ◌∙◌}
use Rattle.term_store.specs.Store.{tree_at}
use Rattle.store_literals.proofs.Literals.{false_negation, false_itself}
use Rattle.store_literals.proofs.negations.is_false.Goals as goal

pub returns-in-Some : goal.returns-in-Some
returns-in-Some c =
    c.is_truth.ensures ∙ sym (false_negation (tree_at c.args.store.now c.args.id) (tree_at c.args.store.now c.in-Some.a) c.in-Some.ensures.none_or_tree)

pub returns-in-None : goal.returns-in-None
returns-in-None c = c.is_truth-in-None.ensures ∙ sym (false_itself (tree_at c.args.store.now c.args.id) c.in-None.ensures.none_or_tree)
