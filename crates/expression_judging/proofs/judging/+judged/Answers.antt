use Rattle.std.proofs.Common.{[], ◌∷◌, ◌++◌, ◌+◌, ◌≡◌, ◌∙◌, ap, map, subst, sym, take}
use Rattle.std.specs.Prelude.{IfOk}
use Rattle.std.specs.Option.{option_map}
use Rattle.std.proofs.lemmas.List.{map_more}
use Rattle.slang_values.specs.Value.{number_type, truth_type}
use Rattle.slang_tree.specs.TypeTree.{type_tree}
use Rattle.slang_tree.specs.ExprTree.{expr_tree, exprs_of}
use Rattle.slang_tree.proofs.Lines.{expr_tree-Apply, expr_tree-Binary, expr_tree-Field, expr_tree-In, expr_tree-Minus, expr_tree-Name, expr_tree-Not, expr_tree-Old, expr_tree-Quantified, expr_tree-QuantifiedIndices, expr_tree-Res, expr_tree-Sequence, expr_tree-Update}
use Rattle.program_trees.specs.Operators.{connective}
use Rattle.type_rules.specs.Meanings.{Scope, field_types, with_bound}
use Rattle.type_rules.specs.Expressions.{callee, judged, judged_application, judged_binary, judged_each, judged_elements, judged_field, judged_listed, judged_nested_call, judged_new, judged_prefix, judged_quantified, judged_quantified_indices, judged_read, judged_record, judged_update, written_elements}
use Rattle.text_types.specs.Found.{AreJudged, IsJudged, seen}
use Rattle.name_scopes.specs.Fits.{Fits, after_quantifier}
use Rattle.expression_forms.specs.Context.{context_seen}
use Rattle.expression_forms.specs.Forms.{front_seen}
use Rattle.expression_forms.proofs.Combining.{binary_parts, field_parts, indices_parts, prefix_parts, quantified_parts, update_parts}
use Rattle.expression_forms.proofs.Lists.{listed_alone, nested_call_parts, read_parts, record_parts}
use Rattle.expression_judging.proofs.Each.{each_more, listed_typed, method_found}
use Rattle.expression_judging.proofs.judging.+judged.Goals as goal

pub judged-returns-in-Name-clause-judged : goal.judged-returns-in-Name-clause-judged
judged-returns-in-Name-clause-judged t c =
    λ at fits.
    subst (λ tree. IsJudged c.args.told.now.found c.named.new.told.found c.named.result (judged at (context_seen c.args.context) tree))
    (sym (ap expr_tree c.in-Name.is ∙ expr_tree-Name c.in-Name.name))
    (c.named.ensures at fits)

pub judged-returns-in-Res-clause-judged : goal.judged-returns-in-Res-clause-judged
judged-returns-in-Res-clause-judged t c =
    λ at fits.
    subst (λ tree. IsJudged c.args.told.now.found c.result_found.new.told.found c.result_found.result (judged at (context_seen c.args.context) tree))
    (sym (ap expr_tree c.in-Res.is ∙ expr_tree-Res c.in-Res.place c.in-Res.ty))
    (c.result_found.ensures at fits)

pub judged-returns-in-In-clause-judged : goal.judged-returns-in-In-clause-judged
judged-returns-in-In-clause-judged t c =
    λ at fits.
    subst (λ tree. IsJudged c.args.told.now.found c.entry_value.new.told.found c.entry_value.result (judged at (context_seen c.args.context) tree))
    (sym (ap expr_tree c.in-In.is ∙ expr_tree-In c.in-In.place c.in-In.name))
    (c.entry_value.ensures at fits)

pub judged-returns-in-Old-clause-judged : goal.judged-returns-in-Old-clause-judged
judged-returns-in-Old-clause-judged t c =
    λ at fits.
    subst (λ tree. IsJudged c.args.told.now.found c.old_value.new.told.found c.old_value.result (judged at (context_seen c.args.context) tree))
    (sym (ap expr_tree c.in-Old.is ∙ expr_tree-Old c.in-Old.place c.in-Old.name))
    (c.old_value.ensures at fits)

pub judged-returns-in_ok-operand-in-Minus-clause-judged : goal.judged-returns-in_ok-operand-in-Minus-clause-judged
judged-returns-in_ok-operand-in-Minus-clause-judged t c =
    λ at fits.
    let context = context_seen c.args.context in
    subst (λ tree. IsJudged c.args.told.now.found c.prefix.new.told.found c.prefix.result (judged at context tree))
    (sym (ap expr_tree c.in-Minus.is ∙ expr_tree-Minus c.in-Minus.place c.in-Minus.operand))
    (prefix_parts c.in-Minus.place number_type (judged at context (expr_tree c.in-Minus.operand))
    (subst (λ e. IsJudged c.args.told.now.found c.judged.new.told.found c.in_ok-operand-in-Minus.operand (judged at context (expr_tree e)))
    c.get.ensures (c.in_ok-operand-in-Minus.ensures.judged at fits))
    c.prefix.ensures)

pub judged-returns-in_ok-operand-in-Not-clause-judged : goal.judged-returns-in_ok-operand-in-Not-clause-judged
judged-returns-in_ok-operand-in-Not-clause-judged t c =
    λ at fits.
    let context = context_seen c.args.context in
    subst (λ tree. IsJudged c.args.told.now.found c.prefix-in-Not.new.told.found c.prefix-in-Not.result (judged at context tree))
    (sym (ap expr_tree c.in-Not.is ∙ expr_tree-Not c.in-Not.place c.in-Not.operand))
    (prefix_parts c.in-Not.place truth_type (judged at context (expr_tree c.in-Not.operand))
    (subst (λ e. IsJudged c.args.told.now.found c.judged-in-Not.new.told.found c.in_ok-operand-in-Not.operand (judged at context (expr_tree e)))
    c.get-in-Not.ensures (c.in_ok-operand-in-Not.ensures.judged at fits))
    c.prefix-in-Not.ensures)

pub judged-returns-in_ok-head-in-Field-clause-judged : goal.judged-returns-in_ok-head-in-Field-clause-judged
judged-returns-in_ok-head-in-Field-clause-judged t c =
    λ at fits.
    let context = context_seen c.args.context in
    subst (λ tree. IsJudged c.args.told.now.found c.field.new.told.found c.field.result (judged at context tree))
    (sym (ap expr_tree c.in-Field.is ∙ expr_tree-Field c.in-Field.place c.in-Field.head c.in-Field.name))
    (field_parts at c.in-Field.place (judged at context (expr_tree c.in-Field.head)) c.in-Field.name
    (subst (λ e. IsJudged c.args.told.now.found c.judged-in-Field.new.told.found c.in_ok-head-in-Field.head (judged at context (expr_tree e)))
    c.get-in-Field.ensures (c.in_ok-head-in-Field.ensures.judged at fits))
    (c.field.ensures at (subst (λ s. Fits s at) (sym c.in_ok-head-in-Field.ensures.scope) fits)))

pub judged-returns-in-Binary-clause-judged : goal.judged-returns-in-Binary-clause-judged
judged-returns-in-Binary-clause-judged t c =
    let context = context_seen c.args.context in
    subst (λ tree. IfOk c.judged_binary.result (λ found. (at : Scope) → Fits c.args.scope.now at
    → IsJudged c.args.told.now.found c.judged_binary.new.told.found found (judged at context tree)))
    (sym (ap expr_tree c.in-Binary.is ∙ expr_tree-Binary c.in-Binary.place c.in-Binary.operator c.in-Binary.left c.in-Binary.right))
    (subst (λ e. IfOk c.judged_binary.result (λ found. (at : Scope) → Fits c.args.scope.now at
    → IsJudged c.args.told.now.found c.judged_binary.new.told.found found
    (judged_binary c.in-Binary.place (connective c.in-Binary.operator) (judged at context (expr_tree c.in-Binary.left)) (judged at context (expr_tree e)))))
    c.get-in-Binary-2.ensures (subst (λ e. IfOk c.judged_binary.result (λ found. (at : Scope) → Fits c.args.scope.now at
    → IsJudged c.args.told.now.found c.judged_binary.new.told.found found
    (judged_binary c.in-Binary.place (connective c.in-Binary.operator) (judged at context (expr_tree e)) (judged at context (expr_tree c.get-in-Binary-2.result.now)))))
    c.get-in-Binary.ensures c.judged_binary.ensures.judged))

pub judged-returns-in-Update-clause-judged : goal.judged-returns-in-Update-clause-judged
judged-returns-in-Update-clause-judged t c =
    let context = context_seen c.args.context in
    subst (λ tree. IfOk c.judged_update.result (λ found. (at : Scope) → Fits c.args.scope.now at
    → IsJudged c.args.told.now.found c.judged_update.new.told.found found (judged at context tree)))
    (sym (ap expr_tree c.in-Update.is ∙ expr_tree-Update c.in-Update.place c.in-Update.head c.in-Update.index c.in-Update.element))
    (subst (λ e. IfOk c.judged_update.result (λ found. (at : Scope) → Fits c.args.scope.now at
    → IsJudged c.args.told.now.found c.judged_update.new.told.found found
    (judged_update c.in-Update.place (judged at context (expr_tree c.in-Update.head)) (judged at context (expr_tree c.in-Update.index)) (judged at context (expr_tree e)))))
    c.get-in-Update-3.ensures (subst (λ e. IfOk c.judged_update.result (λ found. (at : Scope) → Fits c.args.scope.now at
    → IsJudged c.args.told.now.found c.judged_update.new.told.found found
    (judged_update c.in-Update.place (judged at context (expr_tree c.in-Update.head)) (judged at context (expr_tree e)) (judged at context (expr_tree c.get-in-Update-3.result.now)))))
    c.get-in-Update-2.ensures (subst (λ e. IfOk c.judged_update.result (λ found. (at : Scope) → Fits c.args.scope.now at
    → IsJudged c.args.told.now.found c.judged_update.new.told.found found
    (judged_update c.in-Update.place (judged at context (expr_tree e)) (judged at context (expr_tree c.get-in-Update-2.result.now)) (judged at context (expr_tree c.get-in-Update-3.result.now)))))
    c.get-in-Update.ensures c.judged_update.ensures.judged)))

pub judged-returns-in-Apply-clause-judged : goal.judged-returns-in-Apply-clause-judged
judged-returns-in-Apply-clause-judged t c =
    let context = context_seen c.args.context in
    subst (λ tree. IfOk c.judged_application.result (λ found. (at : Scope) → Fits c.args.scope.now at
    → IsJudged c.args.told.now.found c.judged_application.new.told.found found (judged at context tree)))
    (sym (ap expr_tree c.in-Apply.is ∙ expr_tree-Apply c.in-Apply.place c.in-Apply.head c.in-Apply.arguments))
    (subst (λ e. IfOk c.judged_application.result (λ found. (at : Scope) → Fits c.args.scope.now at
    → IsJudged c.args.told.now.found c.judged_application.new.told.found found
    (judged_application at context c.in-Apply.place (callee at (expr_tree c.in-Apply.head)) (judged at context (expr_tree c.in-Apply.head)) (judged_each at context (exprs_of (map expr_tree e))))))
    c.as_slice.ensures (subst (λ e. IfOk c.judged_application.result (λ found. (at : Scope) → Fits c.args.scope.now at
    → IsJudged c.args.told.now.found c.judged_application.new.told.found found
    (judged_application at context c.in-Apply.place (callee at (expr_tree e)) (judged at context (expr_tree e)) (judged_each at context (exprs_of (map expr_tree c.as_slice.result.now))))))
    c.get-in-Apply.ensures c.judged_application.ensures.judged))

pub judged-returns-in-Sequence-clause-judged : goal.judged-returns-in-Sequence-clause-judged
judged-returns-in-Sequence-clause-judged t c =
    let context = context_seen c.args.context in
    subst (λ tree. IfOk c.judged_sequence.result (λ found. (at : Scope) → Fits c.args.scope.now at
    → IsJudged c.args.told.now.found c.judged_sequence.new.told.found found (judged at context tree)))
    (sym (ap expr_tree c.in-Sequence.is ∙ expr_tree-Sequence c.in-Sequence.place c.in-Sequence.ty c.in-Sequence.elements))
    (subst (λ e. IfOk c.judged_sequence.result (λ found. (at : Scope) → Fits c.args.scope.now at
    → IsJudged c.args.told.now.found c.judged_sequence.new.told.found found
    (judged_listed c.in-Sequence.place (written_elements at (option_map type_tree c.in-Sequence.ty)) (judged_each at context (exprs_of (map expr_tree e))))))
    c.as_slice-in-Sequence.ensures c.judged_sequence.ensures.judged)

pub judged-returns-in-Quantified-clause-judged : goal.judged-returns-in-Quantified-clause-judged
judged-returns-in-Quantified-clause-judged t c =
    let context = context_seen c.args.context in
    subst (λ tree. IfOk c.judged_quantified.result (λ found. (at : Scope) → Fits c.args.scope.now at
    → IsJudged c.args.told.now.found c.judged_quantified.new.told.found found (judged at context tree)))
    (sym (ap expr_tree c.in-Quantified.is ∙ expr_tree-Quantified c.in-Quantified.place c.in-Quantified.field-1 c.in-Quantified.low c.in-Quantified.high c.in-Quantified.name c.in-Quantified.body))
    (subst (λ e. IfOk c.judged_quantified.result (λ found. (at : Scope) → Fits c.args.scope.now at
    → IsJudged c.args.told.now.found c.judged_quantified.new.told.found found
    (judged_quantified context c.in-Quantified.place (judged at context (expr_tree c.in-Quantified.low)) (judged at context (expr_tree c.in-Quantified.high)) (judged_new at c.in-Quantified.name) (judged (with_bound at c.in-Quantified.name.text) context (expr_tree e)))))
    c.get-in-Quantified-3.ensures (subst (λ e. IfOk c.judged_quantified.result (λ found. (at : Scope) → Fits c.args.scope.now at
    → IsJudged c.args.told.now.found c.judged_quantified.new.told.found found
    (judged_quantified context c.in-Quantified.place (judged at context (expr_tree c.in-Quantified.low)) (judged at context (expr_tree e)) (judged_new at c.in-Quantified.name) (judged (with_bound at c.in-Quantified.name.text) context (expr_tree c.get-in-Quantified-3.result.now)))))
    c.get-in-Quantified-2.ensures (subst (λ e. IfOk c.judged_quantified.result (λ found. (at : Scope) → Fits c.args.scope.now at
    → IsJudged c.args.told.now.found c.judged_quantified.new.told.found found
    (judged_quantified context c.in-Quantified.place (judged at context (expr_tree e)) (judged at context (expr_tree c.get-in-Quantified-2.result.now)) (judged_new at c.in-Quantified.name) (judged (with_bound at c.in-Quantified.name.text) context (expr_tree c.get-in-Quantified-3.result.now)))))
    c.get-in-Quantified.ensures c.judged_quantified.ensures.judged)))

pub judged-returns-in-QuantifiedIndices-clause-judged : goal.judged-returns-in-QuantifiedIndices-clause-judged
judged-returns-in-QuantifiedIndices-clause-judged t c =
    let context = context_seen c.args.context in
    subst (λ tree. IfOk c.judged_indices.result (λ found. (at : Scope) → Fits c.args.scope.now at
    → IsJudged c.args.told.now.found c.judged_indices.new.told.found found (judged at context tree)))
    (sym (ap expr_tree c.in-QuantifiedIndices.is ∙ expr_tree-QuantifiedIndices c.in-QuantifiedIndices.place c.in-QuantifiedIndices.field-1 c.in-QuantifiedIndices.head c.in-QuantifiedIndices.name c.in-QuantifiedIndices.body))
    (subst (λ e. IfOk c.judged_indices.result (λ found. (at : Scope) → Fits c.args.scope.now at
    → IsJudged c.args.told.now.found c.judged_indices.new.told.found found
    (judged_quantified_indices context c.in-QuantifiedIndices.place (judged at context (expr_tree c.in-QuantifiedIndices.head)) (judged_new at c.in-QuantifiedIndices.name) (judged (with_bound at c.in-QuantifiedIndices.name.text) context (expr_tree e)))))
    c.get-in-QuantifiedIndices-2.ensures (subst (λ e. IfOk c.judged_indices.result (λ found. (at : Scope) → Fits c.args.scope.now at
    → IsJudged c.args.told.now.found c.judged_indices.new.told.found found
    (judged_quantified_indices context c.in-QuantifiedIndices.place (judged at context (expr_tree e)) (judged_new at c.in-QuantifiedIndices.name) (judged (with_bound at c.in-QuantifiedIndices.name.text) context (expr_tree c.get-in-QuantifiedIndices-2.result.now)))))
    c.get-in-QuantifiedIndices.ensures c.judged_indices.ensures.judged))

pub judged_binary-returns-clause-judged : goal.judged_binary-returns-clause-judged
judged_binary-returns-clause-judged t c =
    λ at fits.
    let context = context_seen c.args.context in
    binary_parts c.args.place (connective c.args.operator) (judged at context (expr_tree c.args.left.now)) (judged at context (expr_tree c.args.right.now))
    (c.in_ok-left.ensures.judged at fits)
    (c.in_ok-right.ensures.judged at (subst (λ s. Fits s at) (sym (c.in_ok-left.ensures.scope)) fits))
    c.binary.ensures

pub judged_update-returns-clause-judged : goal.judged_update-returns-clause-judged
judged_update-returns-clause-judged t c =
    λ at fits.
    let context = context_seen c.args.context in
    update_parts c.args.place (judged at context (expr_tree c.args.head.now)) (judged at context (expr_tree c.args.index.now)) (judged at context (expr_tree c.args.element.now))
    (c.in_ok-head.ensures.judged at fits)
    (c.in_ok-index.ensures.judged at (subst (λ s. Fits s at) (sym (c.in_ok-head.ensures.scope)) fits))
    (c.in_ok-element.ensures.judged at (subst (λ s. Fits s at) (sym (c.in_ok-index.ensures.scope ∙ c.in_ok-head.ensures.scope)) fits))
    c.update.ensures

pub judged_quantified-returns-clause-judged : goal.judged_quantified-returns-clause-judged
judged_quantified-returns-clause-judged t c =
    λ at fits.
    let context = context_seen c.args.context in
    let later = subst (λ s. Fits s at) (sym (c.in_ok-high.ensures.scope ∙ c.in_ok-low.ensures.scope)) fits in
    quantified_parts context c.args.place (judged at context (expr_tree c.args.low.now)) (judged at context (expr_tree c.args.high.now)) (judged_new at c.args.name.now)
    (judged (with_bound at c.args.name.now.text) context (expr_tree c.args.body.now))
    (c.in_ok-low.ensures.judged at fits)
    (c.in_ok-high.ensures.judged at (subst (λ s. Fits s at) (sym (c.in_ok-low.ensures.scope)) fits))
    (c.new_number-declared.ensures at later)
    (c.in_ok-body.ensures.judged at later)
    c.quantified.ensures

pub judged_indices-returns-clause-judged : goal.judged_indices-returns-clause-judged
judged_indices-returns-clause-judged t c =
    λ at fits.
    let context = context_seen c.args.context in
    let later = subst (λ s. Fits s at) (sym c.in_ok-head.ensures.scope) fits in
    indices_parts context c.args.place (judged at context (expr_tree c.args.head.now)) (judged_new at c.args.name.now)
    (judged (with_bound at c.args.name.now.text) context (expr_tree c.args.body.now))
    (c.in_ok-head.ensures.judged at fits)
    (c.new_number-declared.ensures at later)
    (c.in_ok-body.ensures.judged at later)
    c.quantified_indices.ensures

pub judged_under-returns-clause-judged : goal.judged_under-returns-clause-judged
judged_under-returns-clause-judged t c =
    λ at fits.
    c.in_ok-found.ensures.judged (with_bound at c.args.name.now.text)
    (subst (λ text. Fits c.bind.new.self (with_bound at text)) c.as_str.ensures (c.in_ok-bind.ensures.fits at fits))

pub judged_under-returns-clause-scope : goal.judged_under-returns-clause-scope
judged_under-returns-clause-scope t c =
    c.unbind.ensures
    ∙ ap (after_quantifier c.len-names.result) c.in_ok-found.ensures.scope
    ∙ ap (λ n. after_quantifier n c.bind.new.self) c.len-names.ensures
    ∙ c.in_ok-bind.ensures.back

pub judged_each-loop-expr-preserved : goal.judged_each-loop-expr-preserved
judged_each-loop-expr-preserved t c =
    let i = c.loop-expr.expr-index in
    let exprs = c.args.exprs.now in
    let context = context_seen c.args.context in
    let before = map expr_tree (take i exprs) in
    let more : map expr_tree (take (i + 1) exprs) ≡ before ++ expr_tree c.expr-item.result ∷ [] =
    map_more expr_tree exprs i c.expr-item.result c.loop-expr-test.true ∙ ap (λ x. before ++ expr_tree x ∷ []) (sym c.expr-item.is) in (
      λ at fits.
          subst (λ founds. AreJudged c.args.told.now.found c.judged.new.told.found founds (judged_each at context (exprs_of (map expr_tree (take (i + 1) exprs)))))
          (sym c.in_ok-push.ensures.ok)
          (each_more at context before (map expr_tree (take (i + 1) exprs)) (expr_tree c.expr-item.result) more (c.loop-expr.invariant.0 at fits)
          (c.in_ok-found.ensures.judged at (subst (λ s. Fits s at) (sym c.loop-expr.invariant.1) fits))),
      c.in_ok-found.ensures.scope ∙ c.loop-expr.invariant.1,
    )

pub judged_application-returns-in_ok-founds-in-Value-clause-judged : goal.judged_application-returns-in_ok-founds-in-Value-clause-judged
judged_application-returns-in_ok-founds-in-Value-clause-judged t c =
    λ at fits.
    let context = context_seen c.args.context in
    let head = expr_tree c.args.head.now in
    let place = c.args.place in
    let parts = judged_each at context (exprs_of (map expr_tree c.args.arguments.now)) in
    subst (λ named. IsJudged c.args.told.now.found c.read.new.told.found c.read.result (judged_application at context place named (judged at context head) parts))
    (sym (c.in-Value.ensures at fits))
    (read_parts place (judged at context head) parts
    (c.in_ok-found-in-Value.ensures.judged at fits)
    (c.in_ok-founds-in-Value.ensures.judged at (subst (λ s. Fits s at) (sym (c.in_ok-found-in-Value.ensures.scope)) fits))
    (subst (λ founds. IsJudged c.judged_each.new.told.found c.read.new.told.found c.read.result (judged_read place (seen c.in_ok-found-in-Value.found) (map seen founds)))
    c.as_slice.ensures c.read.ensures))

pub judged_application-returns-in_ok-founds-in-Record-clause-judged : goal.judged_application-returns-in_ok-founds-in-Record-clause-judged
judged_application-returns-in_ok-founds-in-Record-clause-judged t c =
    λ at fits.
    let context = context_seen c.args.context in
    let head = expr_tree c.args.head.now in
    let place = c.args.place in
    let parts = judged_each at context (exprs_of (map expr_tree c.args.arguments.now)) in
    let number = c.in-Record.number in
    subst (λ named. IsJudged c.args.told.now.found c.record.new.told.found c.record.result (judged_application at context place named (judged at context head) parts))
    (sym (c.in-Record.ensures at fits))
    (record_parts place number (field_types at number) parts
    (c.in_ok-founds-in-Record.ensures.judged at fits)
    (subst (λ founds. IsJudged c.judged_each-in-Record.new.told.found c.record.new.told.found c.record.result (judged_record place number (field_types at number) (map seen founds)))
    c.as_slice-in-Record.ensures (c.record.ensures at (subst (λ s. Fits s at) (sym (c.in_ok-founds-in-Record.ensures.scope)) fits))))

pub judged_application-returns-in_ok-founds-in-Method-clause-judged : goal.judged_application-returns-in_ok-founds-in-Method-clause-judged
judged_application-returns-in_ok-founds-in-Method-clause-judged t c =
    λ at fits.
    let context = context_seen c.args.context in
    let head = expr_tree c.args.head.now in
    let place = c.args.place in
    let parts = judged_each at context (exprs_of (map expr_tree c.args.arguments.now)) in
    let known = method_found (callee at head) (c.in-Method.ensures at fits) in
    subst (λ named. IsJudged c.args.told.now.found c.nested.new.told.found c.nested.result (judged_application at context place named (judged at context head) parts))
    (sym known.1.1)
    (nested_call_parts at context place known.0 known.1.0 parts
    (c.in_ok-founds-in-Method.ensures.judged at fits)
    (subst (λ founds. IsJudged c.judged_each-in-Method.new.told.found c.nested.new.told.found c.nested.result
    (judged_nested_call at context place known.0 known.1.0 (map seen founds)))
    c.as_slice-in-Method.ensures (c.nested.ensures at known.0 known.1.0 (subst (λ s. Fits s at) (sym (c.in_ok-founds-in-Method.ensures.scope)) fits) known.1.1)))

pub judged_sequence-returns-in_ok-founds-in-None-clause-judged : goal.judged_sequence-returns-in_ok-founds-in-None-clause-judged
judged_sequence-returns-in_ok-founds-in-None-clause-judged t c =
    λ at fits.
    let parts = judged_each at (context_seen c.args.context) (exprs_of (map expr_tree c.args.parts.now)) in
    subst (λ ty. IsJudged c.args.told.now.found c.elements.new.told.found c.elements.result (judged_listed c.args.place (written_elements at (option_map type_tree ty)) parts))
    (sym c.in-None.is)
    (listed_alone c.args.place parts (c.in_ok-founds-in-None.ensures.judged at fits)
    (subst (λ founds. IsJudged c.judged_each.new.told.found c.elements.new.told.found c.elements.result (judged_elements c.args.place (map seen founds)))
    c.as_slice.ensures c.elements.ensures))

pub judged_sequence-returns-in_ok-founds-in-Some-clause-judged : goal.judged_sequence-returns-in_ok-founds-in-Some-clause-judged
judged_sequence-returns-in_ok-founds-in-Some-clause-judged t c =
    λ at fits.
    let parts = judged_each at (context_seen c.args.context) (exprs_of (map expr_tree c.args.parts.now)) in
    let front = c.element_of-front.result in
    subst (λ ty. IsJudged c.args.told.now.found c.listed.new.told.found c.listed.result (judged_listed c.args.place (written_elements at (option_map type_tree ty)) parts))
    (sym c.in-Some.is)
    (listed_typed c.args.scope.now at front c.args.place (type_tree c.in-Some.ty) parts fits c.element_of-front.ensures (c.in_ok-founds-in-Some.ensures.judged at fits)
    (λ F. subst (λ founds. IsJudged c.judged_each-in-Some.new.told.found c.listed.new.told.found c.listed.result (judged_listed c.args.place (front_seen F front ∷ []) (map seen founds)))
    c.as_slice-in-Some.ensures (c.listed.ensures F)))
