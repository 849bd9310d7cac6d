use Rattle.std.proofs.Common.{sym, ap, ◌∙◌}
use Rattle.tree_forms.specs.Form.{is_narrow}
use Rattle.node_parts.proofs.Placed.{shape-tree_at}
use Rattle.closing.specs.Rows.{rows_of_negated}
use Rattle.store_rows.proofs.literals.negated.Goals as goal

pub contrary-requires : goal.contrary-requires
contrary-requires c =
    let is = shape-tree_at c.args.store.now c.args.id c.view.result.now _ c.view.ensures.placed c.in-Binary.ensures in
    sym (ap is_narrow is) ∙ c.requires.narrow

pub returns-in-Binary-clause-rows : goal.returns-in-Binary-clause-rows
returns-in-Binary-clause-rows c =
    let is = shape-tree_at c.args.store.now c.args.id c.view.result.now _ c.view.ensures.placed c.in-Binary.ensures in
    ap rows_of_negated is ∙ c.contrary.ensures.rows
