use Rattle.std.proofs.Common.{◌≡◌, ◌∙◌, ◌∷◌, ◌++◌, ◌+◌, [], ap, map, subst, sym, take, SFits, rules}
use Rattle.std.specs.Int.{w128}
use Rattle.std.proofs.lemmas.Int.{to_z-of_z}
use Rattle.std.proofs.lemmas.Result.{IfOk-at_ok, IfOk-weaker}
use Rattle.std.proofs.lemmas.List.{map_more}
use Rattle.std.specs.Option.{option_map}
use Rattle.slang_values.specs.Tree.{record_of, sequence_of}
use Rattle.slang_values.specs.declared.operators.Unary.{Unary}
use Rattle.slang_tree.specs.TypeTree.{type_tree}
use Rattle.slang_tree.specs.ExprTree.{ExprTree, expr_tree, exprs_of}
use Rattle.slang_tree.specs.ExprTree as e
use Rattle.slang_tree.proofs.Lines.{expr_tree-Number, expr_tree-True, expr_tree-False, expr_tree-Apply, expr_tree-Binary, expr_tree-Field, expr_tree-In, expr_tree-Minus, expr_tree-Name, expr_tree-Not, expr_tree-Old, expr_tree-Quantified, expr_tree-QuantifiedIndices, expr_tree-Res, expr_tree-Sequence, expr_tree-Update}
use Rattle.program_trees.specs.Programs.{listed, number, unary}
use Rattle.lk_programs.specs.Expr.{typed_expr, typed_exprs}
use Rattle.lk_programs.proofs.Exprs.{typed_expr-Rec, typed_expr-SeqLit}
use Rattle.type_rules.specs.Judged.{known_type}
use Rattle.type_rules.specs.Expressions.{callee, callee_meant, in_program, judged, judged_each, written_elements}
use Rattle.name_scopes.specs.Fits.{Fits}
use Rattle.typed_names.specs.Nodes.{IsMade}
use Rattle.typed_texts.specs.Claims.{selector, type_of_elements}
use Rattle.typed_texts.specs.Numbered.{headed, single}
use Rattle.typed_texts.specs.Values.{value_applied, value_of_tree, values_of_trees}
use Rattle.typed_parts.specs.Heads.{head_meaning}
use Rattle.typed_parts.proofs.Callees.{callee_is, method_found}
use Rattle.value_making.specs.Values.{numbered, value_in, values_in}
use Rattle.value_making.proofs.Forms.{applied_by, made_binary, made_listed, made_prefix, made_read, made_update, on_ok, value_by}
use Rattle.value_making.proofs.Series.{values_more}
use Rattle.value_making.proofs.making.+value.Goals as goal

pub value_of-returns-in-Number-clause-made : goal.value_of-returns-in-Number-clause-made
value_of-returns-in-Number-clause-made t c =
    let place = c.in-Number.place in
    let z = c.in-Number.z in
    let within : SFits w128 z = search rules in
    IfOk-weaker c.literal.result _ _ (λ v made at fits has.
    value_by c.args.numbers at _ _ (ap expr_tree c.in-Number.is ∙ expr_tree-Number place z)
    (subst (λ n. IsMade c.args.nodes.now c.literal.new.nodes (typed_expr v) (single place (λ node. number node n))) (to_z-of_z w128 z within) made)) c.literal.ensures

pub value_of-returns-in-True-clause-made : goal.value_of-returns-in-True-clause-made
value_of-returns-in-True-clause-made t c =
    IfOk-weaker c.truth.result _ _ (λ v made at fits has.
    value_by c.args.numbers at _ _ (ap expr_tree c.in-True.is ∙ expr_tree-True c.in-True.place) made) c.truth.ensures

pub value_of-returns-in-False-clause-made : goal.value_of-returns-in-False-clause-made
value_of-returns-in-False-clause-made t c =
    IfOk-weaker c.truth-in-False.result _ _ (λ v made at fits has.
    value_by c.args.numbers at _ _ (ap expr_tree c.in-False.is ∙ expr_tree-False c.in-False.place) made) c.truth-in-False.ensures

pub value_of-returns-in-Name-clause-made : goal.value_of-returns-in-Name-clause-made
value_of-returns-in-Name-clause-made t c =
    IfOk-weaker c.named.result _ _ (λ v made at fits has.
    value_by c.args.numbers at _ _ (ap expr_tree c.in-Name.is ∙ expr_tree-Name c.in-Name.name) (made at fits)) c.named.ensures

pub value_of-returns-in-Minus-clause-made : goal.value_of-returns-in-Minus-clause-made
value_of-returns-in-Minus-clause-made t c =
    IfOk-weaker c.prefixed.result _ _ (λ v made at fits has.
    value_by c.args.numbers at _ _
    (ap expr_tree c.in-Minus.is ∙ expr_tree-Minus c.in-Minus.place c.in-Minus.operand ∙ ap (λ a. e.minus c.in-Minus.place (expr_tree a)) (sym c.get.ensures))
    (made at fits has)) c.prefixed.ensures.made

pub value_of-returns-in-Not-clause-made : goal.value_of-returns-in-Not-clause-made
value_of-returns-in-Not-clause-made t c =
    IfOk-weaker c.prefixed-in-Not.result _ _ (λ v made at fits has.
    value_by c.args.numbers at _ _
    (ap expr_tree c.in-Not.is ∙ expr_tree-Not c.in-Not.place c.in-Not.operand ∙ ap (λ a. e.negation c.in-Not.place (expr_tree a)) (sym c.get-in-Not.ensures))
    (made at fits has)) c.prefixed-in-Not.ensures.made

pub value_of-returns-in-Binary-clause-made : goal.value_of-returns-in-Binary-clause-made
value_of-returns-in-Binary-clause-made t c =
    let place = c.in-Binary.place in
    let operator = c.in-Binary.operator in
    IfOk-weaker c.connected.result _ _ (λ v made at fits has.
    value_by c.args.numbers at _ _
    (ap expr_tree c.in-Binary.is ∙ expr_tree-Binary place operator c.in-Binary.left c.in-Binary.right
    ∙ ap (λ a. e.binary place operator (expr_tree a) (expr_tree c.in-Binary.right)) (sym c.get-in-Binary.ensures)
    ∙ ap (λ b. e.binary place operator (expr_tree c.get-in-Binary.result.now) (expr_tree b)) (sym c.get-in-Binary-2.ensures))
    (made at fits has)) c.connected.ensures.made

pub value_of-returns-in-Apply-clause-made : goal.value_of-returns-in-Apply-clause-made
value_of-returns-in-Apply-clause-made t c =
    let place = c.in-Apply.place in
    IfOk-weaker c.applied.result _ _ (λ v made at fits has.
    value_by c.args.numbers at _ _
    (ap expr_tree c.in-Apply.is ∙ expr_tree-Apply place c.in-Apply.head c.in-Apply.arguments
    ∙ ap (λ a. e.application place (expr_tree a) (exprs_of (map expr_tree c.in-Apply.arguments))) (sym c.get-in-Apply.ensures)
    ∙ ap (λ as'. e.application place (expr_tree c.get-in-Apply.result.now) (exprs_of (map expr_tree as'))) (sym c.as_slice.ensures))
    (made at fits has)) c.applied.ensures.made

pub value_of-returns-in-Update-clause-made : goal.value_of-returns-in-Update-clause-made
value_of-returns-in-Update-clause-made t c =
    let place = c.in-Update.place in
    IfOk-weaker c.updated.result _ _ (λ v made at fits has.
    value_by c.args.numbers at _ _
    (ap expr_tree c.in-Update.is ∙ expr_tree-Update place c.in-Update.head c.in-Update.index c.in-Update.element
    ∙ ap (λ a. e.update place (expr_tree a) (expr_tree c.in-Update.index) (expr_tree c.in-Update.element)) (sym c.get-in-Update.ensures)
    ∙ ap (λ a. e.update place (expr_tree c.get-in-Update.result.now) (expr_tree a) (expr_tree c.in-Update.element)) (sym c.get-in-Update-2.ensures)
    ∙ ap (λ a. e.update place (expr_tree c.get-in-Update.result.now) (expr_tree c.get-in-Update-2.result.now) (expr_tree a)) (sym c.get-in-Update-3.ensures))
    (made at fits has)) c.updated.ensures.made

pub value_of-returns-in-Field-clause-made : goal.value_of-returns-in-Field-clause-made
value_of-returns-in-Field-clause-made t c =
    let place = c.in-Field.place in
    IfOk-weaker c.field.result _ _ (λ v made at fits has.
    value_by c.args.numbers at _ _
    (ap expr_tree c.in-Field.is ∙ expr_tree-Field place c.in-Field.head c.in-Field.name
    ∙ ap (λ a. e.field place (expr_tree a) c.in-Field.name) (sym c.get-in-Field.ensures))
    (made at fits has)) c.field.ensures.made

pub value_of-returns-in-Sequence-clause-made : goal.value_of-returns-in-Sequence-clause-made
value_of-returns-in-Sequence-clause-made t c =
    let place = c.in-Sequence.place in
    let ty = option_map type_tree c.in-Sequence.ty in
    IfOk-weaker c.sequence.result _ _ (λ v made at fits has.
    value_by c.args.numbers at _ _
    (ap expr_tree c.in-Sequence.is ∙ expr_tree-Sequence place c.in-Sequence.ty c.in-Sequence.elements
    ∙ ap (λ es. e.sequence place ty (exprs_of (map expr_tree es))) (sym c.as_slice-in-Sequence.ensures))
    (made at fits has)) c.sequence.ensures.made

pub value_of-returns-in-Res-clause-made : goal.value_of-returns-in-Res-clause-made
value_of-returns-in-Res-clause-made t c =
    IfOk-weaker c.literal-in-Res.result _ _ (λ v made at fits has.
    value_by c.args.numbers at _ _ (ap expr_tree c.in-Res.is ∙ expr_tree-Res c.in-Res.place c.in-Res.field-1) made) c.literal-in-Res.ensures

pub value_of-returns-in-In-clause-made : goal.value_of-returns-in-In-clause-made
value_of-returns-in-In-clause-made t c =
    IfOk-weaker c.literal-in-In.result _ _ (λ v made at fits has.
    value_by c.args.numbers at _ _ (ap expr_tree c.in-In.is ∙ expr_tree-In c.in-In.place c.in-In.field-1) made) c.literal-in-In.ensures

pub value_of-returns-in-Old-clause-made : goal.value_of-returns-in-Old-clause-made
value_of-returns-in-Old-clause-made t c =
    IfOk-weaker c.literal-in-Old.result _ _ (λ v made at fits has.
    value_by c.args.numbers at _ _ (ap expr_tree c.in-Old.is ∙ expr_tree-Old c.in-Old.place c.in-Old.field-1) made) c.literal-in-Old.ensures

pub value_of-returns-in-Quantified-clause-made : goal.value_of-returns-in-Quantified-clause-made
value_of-returns-in-Quantified-clause-made t c =
    let it = c.in-Quantified in
    IfOk-weaker c.literal-in-Quantified.result _ _ (λ v made at fits has.
    value_by c.args.numbers at _ _ (ap expr_tree it.is ∙ expr_tree-Quantified it.place it.field-1 it.field-2 it.field-3 it.field-4 it.field-5) made) c.literal-in-Quantified.ensures

pub value_of-returns-in-QuantifiedIndices-clause-made : goal.value_of-returns-in-QuantifiedIndices-clause-made
value_of-returns-in-QuantifiedIndices-clause-made t c =
    let it = c.in-QuantifiedIndices in
    IfOk-weaker c.literal-in-QuantifiedIndices.result _ _ (λ v made at fits has.
    value_by c.args.numbers at _ _ (ap expr_tree it.is ∙ expr_tree-QuantifiedIndices it.place it.field-1 it.field-2 it.field-3 it.field-4) made) c.literal-in-QuantifiedIndices.ensures

-- ---- forms

pub prefixed-returns-clause-made : goal.prefixed-returns-clause-made
prefixed-returns-clause-made t c =
    IfOk-weaker c.unary.result _ _ (λ v is at fits has.
    made_prefix c.args.numbers c.args.nodes.now _ c.args.place c.in_ok-node.node.0 c.in_ok-node.ensures.number c.in_ok-node.ensures.added _ c.args.op _ _
    (value_of_tree at (expr_tree c.args.operand.now)) (c.in_ok-operand.ensures.made at fits has) is) c.unary.ensures

pub field-returns-clause-made : goal.field-returns-clause-made
field-returns-clause-made t c =
    IfOk-weaker c.prefixed.result _ _ (λ v made at fits has.
    subst (λ op. IsMade c.args.nodes.now c.prefixed.new.nodes (typed_expr v) (numbered c.args.numbers (headed c.args.place (λ node a. unary node op a)
    (value_of_tree at (expr_tree c.args.head.now)))))
    (c.in_ok-op.ensures.selected at fits has ∙ ap (selector at (known_type (judged at in_program (expr_tree c.args.head.now)))) c.as_str.ensures)
    (made at (subst (λ s. Fits s at) (sym c.in_ok-op.ensures.scope) fits) has)) c.prefixed.ensures.made

pub connected-returns-clause-made : goal.connected-returns-clause-made
connected-returns-clause-made t c =
    let parts = c.in_ok-left.ensures.parts in
    IfOk-weaker c.binary.result _ _ (λ v is at fits has.
    made_binary c.args.numbers c.args.nodes.now _ c.args.place c.in_ok-node.node.0 c.in_ok-node.ensures.number c.in_ok-node.ensures.added _ _ c.args.operator _ _ _
    (value_of_tree at (expr_tree c.args.left.now)) (value_of_tree at (expr_tree c.args.right.now))
    (IfOk-at_ok _ parts.0 c.value_of.ensures.made at fits has)
    (IfOk-at_ok _ parts.1 c.value_of-2.ensures.made at (subst (λ s. Fits s at) (sym (on_ok parts.0 c.value_of.ensures.scope)) fits) has) is) c.binary.ensures

pub updated-returns-clause-made : goal.updated-returns-clause-made
updated-returns-clause-made t c =
    let parts = c.in_ok-head.ensures.parts in
    IfOk-weaker c.update.result _ _ (λ v is at fits has.
    let fits_index = subst (λ s. Fits s at) (sym (on_ok parts.0 c.value_of.ensures.scope)) fits in
    let fits_element = subst (λ s. Fits s at) (sym (on_ok parts.1 c.value_of-2.ensures.scope)) fits_index in
    made_update c.args.numbers c.args.nodes.now _ c.args.place c.in_ok-node.node.0 c.in_ok-node.ensures.number c.in_ok-node.ensures.added _ _ _ _ _ _ _
    (value_of_tree at (expr_tree c.args.head.now)) (value_of_tree at (expr_tree c.args.index.now)) (value_of_tree at (expr_tree c.args.element.now))
    (IfOk-at_ok _ parts.0 c.value_of.ensures.made at fits has)
    (IfOk-at_ok _ parts.1 c.value_of-2.ensures.made at fits_index has)
    (IfOk-at_ok _ parts.2 c.value_of-3.ensures.made at fits_element has) is) c.update.ensures

pub applied-returns-in-Value-clause-made : goal.applied-returns-in-Value-clause-made
applied-returns-in-Value-clause-made t c =
    IfOk-weaker c.read.result _ _ (λ v made at fits has.
    applied_by c.args.numbers at c.args.place (expr_tree c.args.head.now) (exprs_of (map expr_tree c.args.arguments.now)) _ (callee_is at (expr_tree c.args.head.now) ∙ c.in-Value.ensures at fits) (made at fits has)) c.read.ensures.made

pub applied-returns-in-Record-clause-made : goal.applied-returns-in-Record-clause-made
applied-returns-in-Record-clause-made t c =
    IfOk-weaker c.record.result _ _ (λ v made at fits has.
    applied_by c.args.numbers at c.args.place (expr_tree c.args.head.now) (exprs_of (map expr_tree c.args.arguments.now)) _ (callee_is at (expr_tree c.args.head.now) ∙ c.in-Record.ensures at fits) (made at fits has)) c.record.ensures.made

pub applied-returns-in-Method-clause-made : goal.applied-returns-in-Method-clause-made
applied-returns-in-Method-clause-made t c =
    IfOk-weaker c.literal.result _ _ (λ v made at fits has.
    let found = method_found (head_meaning at (expr_tree c.args.head.now)) c.in-Method.field-0 (c.in-Method.ensures at fits) in
    applied_by c.args.numbers at c.args.place (expr_tree c.args.head.now) (exprs_of (map expr_tree c.args.arguments.now)) _ (callee_is at (expr_tree c.args.head.now) ∙ ap callee_meant found.means) made) c.literal.ensures

pub read-returns-clause-made : goal.read-returns-clause-made
read-returns-clause-made t c =
    let parts = c.in_ok-head.ensures.parts in
    IfOk-weaker c.read_at.result _ _ (λ v is at fits has.
    made_read c.args.numbers c.args.nodes.now _ c.args.place c.in_ok-node.node.0 c.in_ok-node.ensures.number c.in_ok-node.ensures.added _ _ _ _ _
    (value_of_tree at (expr_tree c.args.head.now)) (values_of_trees at (exprs_of (map expr_tree c.args.arguments.now)))
    (IfOk-at_ok _ parts.0 c.value_of.ensures.made at fits has)
    (IfOk-at_ok _ parts.1 c.values_of.ensures.made at (subst (λ s. Fits s at) (sym (on_ok parts.0 c.value_of.ensures.scope)) fits) has) is) c.read_at.ensures

pub record-returns-clause-made : goal.record-returns-clause-made
record-returns-clause-made t c = λ at fits has.
    made_listed c.args.numbers c.args.nodes.now _ c.args.place c.in_ok-node.node.0 c.in_ok-node.ensures.number c.in_ok-node.ensures.added _
    (record_of c.args.number) _ _ (values_of_trees at (exprs_of (map expr_tree c.args.fields.now))) (c.in_ok-fields.ensures.made at fits has)
    (typed_expr-Rec c.in_ok-node.node c.args.number c.in_ok-fields.fields)

pub sequence-returns-clause-made : goal.sequence-returns-clause-made
sequence-returns-clause-made t c = λ at fits has.
    let parts = c.in_ok-ty.ensures.parts in
    let trees = exprs_of (map expr_tree c.args.elements.now) in
    let element = type_of_elements (written_elements at (option_map type_tree c.args.ty.now)) (judged_each at in_program trees) in
    made_listed c.args.numbers c.args.nodes.now _ c.args.place c.in_ok-node.node.0 c.in_ok-node.ensures.number c.in_ok-node.ensures.added _
    (sequence_of element) _ _ (values_of_trees at trees)
    (IfOk-at_ok _ parts.1 c.values_of.ensures.made at (subst (λ s. Fits s at) (sym (on_ok parts.0 c.elements_ty.ensures.scope)) fits) has)
    (typed_expr-SeqLit c.in_ok-node.node c.in_ok-ty.ty c.in_ok-ty.elements
    ∙ ap (λ type. listed c.in_ok-node.node.0 (sequence_of type) (typed_exprs c.in_ok-ty.elements)) (IfOk-at_ok _ parts.0 c.elements_ty.ensures.known at fits))

pub values_of-loop-expr-preserved : goal.values_of-loop-expr-preserved
values_of-loop-expr-preserved t c =
    let i = c.loop-expr.expr-index in
    let exprs = c.args.exprs.now in
    let before = map expr_tree (take i exprs) in
    let more : map expr_tree (take (i + 1) exprs) ≡ before ++ expr_tree c.expr-item.result ∷ [] =
    map_more expr_tree exprs i c.expr-item.result c.loop-expr-test.true ∙ ap (λ x. before ++ expr_tree x ∷ []) (sym c.expr-item.is) in (
      λ at fits has.
          subst (λ values. IsMade c.args.nodes.now c.value_of.new.nodes (typed_exprs values) (values_in c.args.numbers at (exprs_of (map expr_tree (take (i + 1) exprs)))))
          (sym c.in_ok-push.ensures.ok)
          (values_more c.args.numbers at c.args.nodes.now c.loop-expr.nodes c.value_of.new.nodes c.loop-expr.values c.in_ok-value.value before (expr_tree c.expr-item.result)
          (map expr_tree (take (i + 1) exprs)) more (c.loop-expr.invariant.0 at fits has)
          (c.in_ok-value.ensures.made at (subst (λ s. Fits s at) (sym c.loop-expr.invariant.1) fits) has)),
      c.in_ok-value.ensures.scope ∙ c.loop-expr.invariant.1,
    )
