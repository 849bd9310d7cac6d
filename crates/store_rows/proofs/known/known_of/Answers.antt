use Rattle.std.proofs.Common.{◌<◌, sym, ap, ◌∙◌, subst}
use Rattle.std.specs.List.{AllByRecursion}
use Rattle.tree_forms.specs.Form.{is_narrow}
use Rattle.node_parts.proofs.Placed.{shape-tree_at}
use Rattle.closing.specs.Rows.{rows_of_atom}
use Rattle.store_rows.specs.Said.{known_rows}
use Rattle.store_rows.proofs.known.known_of.Goals as goal

pub returns-in-Unary-clause-rows : goal.returns-in-Unary-clause-rows
returns-in-Unary-clause-rows c =
    let store = c.args.store.now in
    let is = shape-tree_at store c.args.atom c.view.result.now _ c.view.ensures.placed c.in-Unary.ensures in
    ap rows_of_atom is ∙ c.known_of_unary.ensures.rows ∙ ap (λ t. known_rows store t c.known_of_unary.result) (sym is)

pub returns-in-Binary-clause-rows : goal.returns-in-Binary-clause-rows
returns-in-Binary-clause-rows c =
    let store = c.args.store.now in
    let is = shape-tree_at store c.args.atom c.view.result.now _ c.view.ensures.placed c.in-Binary.ensures in
    ap rows_of_atom is ∙ c.known_of_binary.ensures.rows ∙ ap (λ t. known_rows store t c.known_of_binary.result) (sym is)

pub returns-in-Binary-clause-narrow : goal.returns-in-Binary-clause-narrow
returns-in-Binary-clause-narrow c = λ h.
    let is = shape-tree_at c.args.store.now c.args.atom c.view.result.now _ c.view.ensures.placed c.in-Binary.ensures in
    c.known_of_binary.ensures.narrow (sym (ap is_narrow is) ∙ h)

pub returns-in-Binary-clause-below : goal.returns-in-Binary-clause-below
returns-in-Binary-clause-below c =
    c.known_of_binary.ensures.below c.args.atom ((subst (AllByRecursion (λ k. k < c.args.atom)) c.in-Binary.ensures.numbers c.view.ensures.placed.below).0)
