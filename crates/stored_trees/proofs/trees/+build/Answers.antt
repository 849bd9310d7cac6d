use Rattle.std.proofs.Common.{◌≡◌, IfOk, sym, subst, ◌∙◌}
use Rattle.term_trees.specs.Term.{tree}
use Rattle.term_trees.proofs.Trees.{tree-Symbol, tree-Bound}
use Rattle.term_store.specs.Store.{tree_at}
use Rattle.stored_trees.proofs.trees.+build.Goals as goal

pub term_at-returns-in-Symbol : goal.term_at-returns-in-Symbol
term_at-returns-in-Symbol t c = tree-Symbol c.in-Symbol.n ∙ sym c.in-Symbol.ensures.tree

pub term_at-returns-in-Bound : goal.term_at-returns-in-Bound
term_at-returns-in-Bound t c = tree-Bound c.in-Bound.n ∙ sym c.in-Bound.ensures.tree

pub term_at-returns-in-Update : goal.term_at-returns-in-Update
term_at-returns-in-Update t c =
    let store = c.args.store.now in
    let w = c.in-Update in
    subst (λ u. IfOk c.update.result (λ r. tree r ≡ u)) (sym w.ensures.tree)
    (c.update.ensures (tree_at store w.a) (tree_at store w.i) (tree_at store w.x) c.term_at-in-Update.ensures c.term_at-in-Update-2.ensures
    c.term_at-in-Update-3.ensures)

pub term_at-returns-in-Quantified : goal.term_at-returns-in-Quantified
term_at-returns-in-Quantified t c =
    let store = c.args.store.now in
    let w = c.in-Quantified in
    subst (λ u. IfOk c.quantified.result (λ r. tree r ≡ u)) (sym w.ensures.tree)
    (c.quantified.ensures (tree_at store w.low) (tree_at store w.high) (tree_at store w.body) c.term_at-in-Quantified.ensures
    c.term_at-in-Quantified-2.ensures c.term_at-in-Quantified-3.ensures)
