use Rattle.std.proofs.Common.{ℕ, ℤ, SFits, rules, sym, ap, ◌∙◌, subst}
use Rattle.std.specs.Int.{w128}
use Rattle.std.proofs.lemmas.Int.{to_z-of_z}
use Rattle.slang_values.specs.Tree.{Tree, literal}
use Rattle.term_nodes.specs.Node.{shape_tree}
use Rattle.term_store.specs.Store.{stored}
use Rattle.node_parts.proofs.Placed.{shape-tree_at}
use Rattle.store_entries.specs.Entries.{IsEntryOf}
use Rattle.store_linear.proofs.table.entry_of.Goals as goal

pub returns-in-Literal-clause-entry : goal.returns-in-Literal-clause-entry
returns-in-Literal-clause-entry c =
    let store = c.args.store.now in
    let z = c.in-Literal.z in
    let fits : SFits w128 z = search rules in
    let is = shape-tree_at store c.args.id c.view.result.now c.shape.result c.view.ensures.placed c.shape.ensures
    ∙ ap (shape_tree (stored store)) c.in-Literal.is in
    subst (λ (t : Tree ℕ). IsEntryOf store t c.entry_of_literal.result) (sym is)
    (subst (λ (y : ℤ). IsEntryOf store (literal y) c.entry_of_literal.result) (to_z-of_z w128 z fits) (c.entry_of_literal.ensures store))
