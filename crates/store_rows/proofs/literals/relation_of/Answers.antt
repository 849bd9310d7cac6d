use Rattle.std.proofs.Common.{◌<◌, sym, ap, ◌∙◌, subst}
use Rattle.std.specs.List.{AllByRecursion}
use Rattle.tree_forms.specs.Form.{is_narrow}
use Rattle.term_sorts.specs.Types.{types_of, record_types}
use Rattle.term_store.specs.Store.{tree_at}
use Rattle.node_parts.proofs.Placed.{shape-tree_at}
use Rattle.closing.specs.Rows.{rows_of_literal}
use Rattle.store_rows.proofs.Sides.{narrow-under}
use Rattle.store_rows.proofs.literals.relation_of.Goals as goal

pub denied-requires-clause-narrow : goal.denied-requires-clause-narrow
denied-requires-clause-narrow c =
    let store = c.args.store.now in
    let is = shape-tree_at store c.args.literal c.view.result.now _ c.view.ensures.placed c.in-Unary.ensures in
    narrow-under c.in-Unary.op (tree_at store c.in-Unary.a) (sym (ap is_narrow is) ∙ c.requires.narrow)

pub held-requires-clause-narrow : goal.held-requires-clause-narrow
held-requires-clause-narrow c =
    let store = c.args.store.now in
    let is = shape-tree_at store c.args.literal c.view.result.now _ c.view.ensures.placed c.in-Binary.ensures in
    sym (ap is_narrow is) ∙ c.requires.narrow

pub returns-in-Unary-clause-rows : goal.returns-in-Unary-clause-rows
returns-in-Unary-clause-rows c =
    let store = c.args.store.now in
    let is = shape-tree_at store c.args.literal c.view.result.now _ c.view.ensures.placed c.in-Unary.ensures in
    ap (rows_of_literal (record_types c.args.records.now) (types_of c.args.symbols.now)) is ∙ c.denied.ensures.rows

pub returns-in-Binary-clause-rows : goal.returns-in-Binary-clause-rows
returns-in-Binary-clause-rows c =
    let store = c.args.store.now in
    let is = shape-tree_at store c.args.literal c.view.result.now _ c.view.ensures.placed c.in-Binary.ensures in
    ap (rows_of_literal (record_types c.args.records.now) (types_of c.args.symbols.now)) is ∙ c.held.ensures.rows

pub returns-in-Binary-clause-below : goal.returns-in-Binary-clause-below
returns-in-Binary-clause-below c =
    let parts = subst (AllByRecursion (λ k. k < c.args.literal)) c.in-Binary.ensures.numbers c.view.ensures.placed.below in
    c.held.ensures.below c.args.literal parts.0 parts.1.0
