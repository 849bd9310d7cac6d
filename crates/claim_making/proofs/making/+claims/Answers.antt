use Rattle.std.specs.Int.{w128}
use Rattle.std.proofs.lemmas.Int.{to_z-of_z}
use Rattle.std.proofs.Common.{◌≡◌, ◌+◌, ◌++◌, ◌∷◌, [], SFits, rules, pos, Ok, map, refl, sym, ap, subst, take, ◌∙◌}
use Rattle.std.specs.Prelude.{IfOk, OnOk}
use Rattle.std.specs.Option.{option_map}
use Rattle.std.proofs.lemmas.List.{take_more}
use Rattle.std.proofs.lemmas.Result.{IfOk-weaker, on_ok_weaker}
use Rattle.slang_values.specs.Tree.{literal}
use Rattle.slang_values.specs.Tree as plain
use Rattle.slang_values.specs.declared.operators.Unary.{Unary}
use Rattle.slang_tree.specs.TypeTree.{type_tree}
use Rattle.slang_tree.specs.ExprTree.{expr_tree, exprs_of}
use Rattle.slang_tree.specs.ExprTree as e
use Rattle.slang_tree.proofs.Lines.{expr_tree-Apply, expr_tree-Binary, expr_tree-False, expr_tree-Field, expr_tree-In, expr_tree-Minus, expr_tree-Name, expr_tree-Not, expr_tree-Number, expr_tree-Old, expr_tree-Quantified, expr_tree-QuantifiedIndices, expr_tree-Res, expr_tree-Sequence, expr_tree-True, expr_tree-Update}
use Rattle.program_trees.specs.Claims.{variable_claim}
use Rattle.program_trees.specs.Operators.{connected}
use Rattle.program_trees.specs.Variables as v
use Rattle.lk_claims.specs.declared.claim.Claim.TheVariants.{Lit}
use Rattle.lk_claims.specs.Claim.{claim_tree, value_type}
use Rattle.lk_claims.proofs.Trees.{claim_tree-False, claim_tree-Lit, claim_tree-True}
use Rattle.type_rules.specs.Judged.{known_type}
use Rattle.type_rules.specs.Meanings.{Scope, meaning_of, with_bound}
use Rattle.type_rules.specs.Expressions.{judged, judged_each, written_elements}
use Rattle.typed_texts.specs.Claims.{claim_applied, claim_of_tree, claims_of_trees, claim_meant, entry_meant, old_meant, selector, type_of_elements}
use Rattle.name_scopes.specs.Fits.{Fits, after_quantifier}
use Rattle.typed_names.specs.Fields.{HasFields}
use Rattle.typed_parts.specs.Heads.{IsHead, head_meaning}
use Rattle.expression_forms.specs.Context.{context_seen}
use Rattle.claim_making.specs.Made.{AreClaims, IsClaim, numbered}
use Rattle.claim_making.proofs.Combined.{indices_made, indices_scope, under_made, NodeOne, NodeThree, NodeTwo, connected-numbered, of_tree, one_ok, one_scope, plain_ok, three_ok, three_scope, two_ok, two_scope}
use Rattle.claim_making.proofs.Each.{NodeApplied, NodeListed, NodeSelected, application_made, none_yet, one_more, selection_made, sequence_made}
use Rattle.claim_making.proofs.making.+claims.Goals as goal

pub made_claim-returns-in-Number-clause-claim : goal.made_claim-returns-in-Number-clause-claim
made_claim-returns-in-Number-clause-claim t c =
    let context = context_seen c.args.context in
    let z = c.in-Number.z in
    let within : SFits w128 z = search rules in
    record {
      is = λ at fits fields.
          ap (λ n. claim_tree (Lit n)) (to_z-of_z w128 z within) ∙ claim_tree-Lit z ∙ ap (λ tree. numbered c.args.numbers (claim_of_tree at context tree))
          (sym (ap expr_tree c.in-Number.is ∙ expr_tree-Number c.in-Number.field-0 c.in-Number.z));
    }

pub made_claim-returns-in-True-clause-claim : goal.made_claim-returns-in-True-clause-claim
made_claim-returns-in-True-clause-claim t c =
    let context = context_seen c.args.context in
    record {
      is = λ at fits fields.
          claim_tree-True ∙ ap (λ tree. numbered c.args.numbers (claim_of_tree at context tree)) (sym (ap expr_tree c.in-True.is ∙ expr_tree-True
          c.in-True.field-0));
    }

pub made_claim-returns-in-False-clause-claim : goal.made_claim-returns-in-False-clause-claim
made_claim-returns-in-False-clause-claim t c =
    let context = context_seen c.args.context in
    record {
      is = λ at fits fields.
          claim_tree-False ∙ ap (λ tree. numbered c.args.numbers (claim_of_tree at context tree)) (sym (ap expr_tree c.in-False.is ∙ expr_tree-False
          c.in-False.field-0));
    }

pub made_claim-returns-in-Name-clause-claim : goal.made_claim-returns-in-Name-clause-claim
made_claim-returns-in-Name-clause-claim t c =
    let context = context_seen c.args.context in
    let records = c.args.records.now in
    let numbers = c.args.numbers in
    let known = c.args.scope.now in
    of_tree records numbers known context c.named.result (expr_tree c.args.expr.now) (e.name c.in-Name.name.text c.in-Name.name.place)
    (ap expr_tree c.in-Name.is ∙ expr_tree-Name c.in-Name.name)
    (plain_ok records numbers known (λ at. claim_meant at.depth (meaning_of at c.in-Name.name.text)) c.named.result (subst (λ text. IfOk c.named.result (λ
    claim. (at : Scope) → Fits known at → claim_tree claim ≡ numbered numbers (claim_meant at.depth (meaning_of at text)))) c.as_str.ensures c.named.ensures))

pub made_claim-returns-in-In-clause-claim : goal.made_claim-returns-in-In-clause-claim
made_claim-returns-in-In-clause-claim t c =
    let context = context_seen c.args.context in
    let records = c.args.records.now in
    let numbers = c.args.numbers in
    let known = c.args.scope.now in
    of_tree records numbers known context c.entry_named.result (expr_tree c.args.expr.now) (e.entry_value c.in-In.field-0 c.in-In.name)
    (ap expr_tree c.in-In.is ∙ expr_tree-In c.in-In.field-0 c.in-In.name)
    (plain_ok records numbers known (λ at. entry_meant (meaning_of at c.in-In.name.text)) c.entry_named.result (subst (λ text. IfOk c.entry_named.result (λ
    claim. (at : Scope) → Fits known at → claim_tree claim ≡ numbered numbers (entry_meant (meaning_of at text)))) c.as_str-in-In.ensures
    c.entry_named.ensures))

pub made_claim-returns-in-Old-clause-claim : goal.made_claim-returns-in-Old-clause-claim
made_claim-returns-in-Old-clause-claim t c =
    let context = context_seen c.args.context in
    let records = c.args.records.now in
    let numbers = c.args.numbers in
    let known = c.args.scope.now in
    of_tree records numbers known context c.old_named.result (expr_tree c.args.expr.now) (e.old_value c.in-Old.field-0 c.in-Old.name)
    (ap expr_tree c.in-Old.is ∙ expr_tree-Old c.in-Old.field-0 c.in-Old.name)
    (plain_ok records numbers known (λ at. old_meant (meaning_of at c.in-Old.name.text)) c.old_named.result (subst (λ text. IfOk c.old_named.result (λ
    claim. (at : Scope) → Fits known at → claim_tree claim ≡ numbered numbers (old_meant (meaning_of at text)))) c.as_str-in-Old.ensures c.old_named.ensures))

pub made_claim-returns-in-Res-clause-claim : goal.made_claim-returns-in-Res-clause-claim
made_claim-returns-in-Res-clause-claim t c =
    let context = context_seen c.args.context in
    let records = c.args.records.now in
    let numbers = c.args.numbers in
    let known = c.args.scope.now in
    of_tree records numbers known context c.result_claim.result (expr_tree c.args.expr.now) (e.result c.in-Res.field-0 (option_map type_tree
    c.in-Res.field-1))
    (ap expr_tree c.in-Res.is ∙ expr_tree-Res c.in-Res.field-0 c.in-Res.field-1)
    (IfOk-weaker c.result_claim.result (λ claim. claim_tree claim ≡ numbered numbers (variable_claim v.result)) (IsClaim records numbers known (λ at.
    variable_claim v.result))
    (λ claim is. record { is = λ at fits fields. is }) c.result_claim.ensures)

pub made_claim-returns-in-Minus-clause-claim : goal.made_claim-returns-in-Minus-clause-claim
made_claim-returns-in-Minus-clause-claim t c =
    let context = context_seen c.args.context in
    let records = c.args.records.now in
    let numbers = c.args.numbers in
    let known = c.args.scope.now in
    let operand = c.get.result.now in
    of_tree records numbers known context c.prefixed.result (expr_tree c.args.expr.now) (e.minus c.in-Minus.field-0 (expr_tree operand))
    (ap expr_tree c.in-Minus.is ∙ expr_tree-Minus c.in-Minus.field-0 c.in-Minus.operand ∙ ap (λ o. e.minus c.in-Minus.field-0 (expr_tree o)) (sym
    c.get.ensures))
    (one_ok records numbers known c.made_claim-operand.result (plain.unary Unary.Neg) (λ at. claim_of_tree at context (expr_tree operand))
    (λ at. plain.unary Unary.Neg (claim_of_tree at context (expr_tree operand))) c.prefixed.result (λ at. refl) c.made_claim-operand.ensures.claim
    c.prefixed.ensures)

pub made_claim-returns-in-Minus-clause-scope : goal.made_claim-returns-in-Minus-clause-scope
made_claim-returns-in-Minus-clause-scope t c =
    one_scope (NodeOne (plain.unary Unary.Neg)) c.args.scope.now c.made_claim-operand.new.scope c.made_claim-operand.result c.prefixed.result
    c.made_claim-operand.ensures.scope c.prefixed.ensures

pub made_claim-returns-in-Not-clause-claim : goal.made_claim-returns-in-Not-clause-claim
made_claim-returns-in-Not-clause-claim t c =
    let context = context_seen c.args.context in
    let records = c.args.records.now in
    let numbers = c.args.numbers in
    let known = c.args.scope.now in
    let operand = c.get-in-Not.result.now in
    of_tree records numbers known context c.prefixed-in-Not.result (expr_tree c.args.expr.now) (e.negation c.in-Not.field-0 (expr_tree operand))
    (ap expr_tree c.in-Not.is ∙ expr_tree-Not c.in-Not.field-0 c.in-Not.operand ∙ ap (λ o. e.negation c.in-Not.field-0 (expr_tree o)) (sym
    c.get-in-Not.ensures))
    (one_ok records numbers known c.made_claim-operand-in-Not.result (plain.unary Unary.Not) (λ at. claim_of_tree at context (expr_tree operand))
    (λ at. plain.unary Unary.Not (claim_of_tree at context (expr_tree operand))) c.prefixed-in-Not.result (λ at. refl)
    c.made_claim-operand-in-Not.ensures.claim c.prefixed-in-Not.ensures)

pub made_claim-returns-in-Not-clause-scope : goal.made_claim-returns-in-Not-clause-scope
made_claim-returns-in-Not-clause-scope t c =
    one_scope (NodeOne (plain.unary Unary.Not)) c.args.scope.now c.made_claim-operand-in-Not.new.scope c.made_claim-operand-in-Not.result
    c.prefixed-in-Not.result c.made_claim-operand-in-Not.ensures.scope c.prefixed-in-Not.ensures

pub made_claim-returns-in-Binary-clause-claim : goal.made_claim-returns-in-Binary-clause-claim
made_claim-returns-in-Binary-clause-claim t c =
    let context = context_seen c.args.context in
    let records = c.args.records.now in
    let numbers = c.args.numbers in
    let known = c.args.scope.now in
    let operator = c.in-Binary.operator in
    let left = expr_tree c.get-in-Binary.result.now in
    let right = expr_tree c.get-in-Binary-2.result.now in
    of_tree records numbers known context c.connection.result (expr_tree c.args.expr.now) (e.binary c.in-Binary.field-0 operator left right)
    (ap expr_tree c.in-Binary.is ∙ expr_tree-Binary c.in-Binary.field-0 operator c.in-Binary.left c.in-Binary.right
    ∙ (λ i. e.binary c.in-Binary.field-0 operator (expr_tree (sym c.get-in-Binary.ensures i)) (expr_tree (sym c.get-in-Binary-2.ensures i))))
    (two_ok records numbers known c.made_claim-left.new.scope c.made_claim-left.result c.made_claim-right.result (connected operator)
    (λ at. claim_of_tree at context left) (λ at. claim_of_tree at context right) (λ at. connected operator (claim_of_tree at context left) (claim_of_tree
    at context right))
    c.connection.result (λ at. connected-numbered numbers operator (claim_of_tree at context left) (claim_of_tree at context right))
    c.made_claim-left.ensures.claim c.made_claim-left.ensures.scope c.made_claim-right.ensures.claim c.connection.ensures)

pub made_claim-returns-in-Binary-clause-scope : goal.made_claim-returns-in-Binary-clause-scope
made_claim-returns-in-Binary-clause-scope t c =
    two_scope (NodeTwo (connected c.in-Binary.operator)) c.args.scope.now c.made_claim-left.new.scope c.made_claim-right.new.scope c.made_claim-left.result
    c.made_claim-right.result
    c.connection.result c.made_claim-left.ensures.scope c.made_claim-right.ensures.scope c.connection.ensures

pub made_claim-returns-in-Apply-clause-claim : goal.made_claim-returns-in-Apply-clause-claim
made_claim-returns-in-Apply-clause-claim t c =
    let context = context_seen c.args.context in
    let records = c.args.records.now in
    let numbers = c.args.numbers in
    let known = c.args.scope.now in
    let head = expr_tree c.get-in-Apply-2.result.now in
    let parts = c.as_slice.result.now in
    let kind = c.head_of-kind.result in
    let same : c.get-in-Apply.result.now ≡ c.get-in-Apply-2.result.now = c.get-in-Apply.ensures ∙ sym c.get-in-Apply-2.ensures in
    of_tree records numbers known context c.application.result (expr_tree c.args.expr.now) (e.application c.in-Apply.field-0 head (exprs_of (map expr_tree
    parts)))
    (ap expr_tree c.in-Apply.is ∙ expr_tree-Apply c.in-Apply.field-0 c.in-Apply.head c.in-Apply.arguments
    ∙ (λ i. e.application c.in-Apply.field-0 (expr_tree (sym c.get-in-Apply-2.ensures i)) (exprs_of (map expr_tree (sym c.as_slice.ensures i)))))
    (application_made records numbers known c.made_claim-head.new.scope context kind head parts c.made_claim-head.result c.made_claims-arguments.result
    c.application.result
    (λ at fits. subst (λ h. IsHead kind (head_meaning at (expr_tree h))) same (c.head_of-kind.ensures at fits))
    c.made_claim-head.ensures.claim c.made_claim-head.ensures.scope c.made_claims-arguments.ensures.claims c.application.ensures)

pub made_claim-returns-in-Apply-clause-scope : goal.made_claim-returns-in-Apply-clause-scope
made_claim-returns-in-Apply-clause-scope t c =
    two_scope (NodeApplied c.head_of-kind.result) c.args.scope.now c.made_claim-head.new.scope c.made_claims-arguments.new.scope c.made_claim-head.result
    c.made_claims-arguments.result
    c.application.result c.made_claim-head.ensures.scope c.made_claims-arguments.ensures.scope c.application.ensures

pub made_claim-returns-in-Update-clause-claim : goal.made_claim-returns-in-Update-clause-claim
made_claim-returns-in-Update-clause-claim t c =
    let context = context_seen c.args.context in
    let records = c.args.records.now in
    let numbers = c.args.numbers in
    let known = c.args.scope.now in
    let head = expr_tree c.get-in-Update.result.now in
    let index = expr_tree c.get-in-Update-2.result.now in
    let element = expr_tree c.get-in-Update-3.result.now in
    of_tree records numbers known context c.updated.result (expr_tree c.args.expr.now) (e.update c.in-Update.field-0 head index element)
    (ap expr_tree c.in-Update.is ∙ expr_tree-Update c.in-Update.field-0 c.in-Update.head c.in-Update.index c.in-Update.element
    ∙ (λ i. e.update c.in-Update.field-0 (expr_tree (sym c.get-in-Update.ensures i)) (expr_tree (sym c.get-in-Update-2.ensures i)) (expr_tree (sym
    c.get-in-Update-3.ensures i))))
    (three_ok records numbers known c.made_claim-head-in-Update.new.scope c.made_claim-index.new.scope c.made_claim-head-in-Update.result
    c.made_claim-index.result c.made_claim-element.result plain.update
    (λ at. claim_of_tree at context head) (λ at. claim_of_tree at context index) (λ at. claim_of_tree at context element)
    (λ at. plain.update (claim_of_tree at context head) (claim_of_tree at context index) (claim_of_tree at context element)) c.updated.result (λ at. refl)
    c.made_claim-head-in-Update.ensures.claim c.made_claim-head-in-Update.ensures.scope c.made_claim-index.ensures.claim c.made_claim-index.ensures.scope
    c.made_claim-element.ensures.claim c.updated.ensures)

pub made_claim-returns-in-Update-clause-scope : goal.made_claim-returns-in-Update-clause-scope
made_claim-returns-in-Update-clause-scope t c =
    three_scope (NodeThree plain.update) c.args.scope.now c.made_claim-head-in-Update.new.scope c.made_claim-index.new.scope c.made_claim-element.new.scope
    c.made_claim-head-in-Update.result c.made_claim-index.result c.made_claim-element.result c.updated.result
    c.made_claim-head-in-Update.ensures.scope c.made_claim-index.ensures.scope c.made_claim-element.ensures.scope c.updated.ensures

pub made_claim-returns-in-Field-clause-claim : goal.made_claim-returns-in-Field-clause-claim
made_claim-returns-in-Field-clause-claim t c =
    let context = context_seen c.args.context in
    let records = c.args.records.now in
    let numbers = c.args.numbers in
    let known = c.args.scope.now in
    let head = expr_tree c.get-in-Field-2.result.now in
    let name = c.in-Field.name in
    let same : c.get-in-Field.result.now ≡ c.get-in-Field-2.result.now = c.get-in-Field.ensures ∙ sym c.get-in-Field-2.ensures in
    let chosen = λ (at : Scope). selector at (known_type (judged at context head)) name.text in
    of_tree records numbers known context c.selection.result (expr_tree c.args.expr.now) (e.field c.in-Field.field-0 head name)
    (ap expr_tree c.in-Field.is ∙ expr_tree-Field c.in-Field.field-0 c.in-Field.head name ∙ ap (λ h. e.field c.in-Field.field-0 (expr_tree h) name) (sym
    c.get-in-Field-2.ensures))
    (selection_made records numbers known c.selected-op.new.scope c.selected-op.result c.made_claim-head-in-Field.result chosen (λ at. claim_of_tree at
    context head) c.selection.result
    (subst (λ text. IfOk c.selected-op.result (λ o. (at : Scope) → Fits known at → HasFields records at → o ≡ selector at (known_type (judged at context
    head)) text))
    c.as_str-in-Field.ensures
    (subst (λ h. IfOk c.selected-op.result (λ o. (at : Scope) → Fits known at → HasFields records at → o ≡ selector at (known_type (judged at context
    (expr_tree h))) c.as_str-in-Field.result.now)) same
    c.selected-op.ensures.selected))
    c.selected-op.ensures.scope c.made_claim-head-in-Field.ensures.claim c.selection.ensures)

pub made_claim-returns-in-Field-clause-scope : goal.made_claim-returns-in-Field-clause-scope
made_claim-returns-in-Field-clause-scope t c =
    two_scope NodeSelected c.args.scope.now c.selected-op.new.scope c.made_claim-head-in-Field.new.scope c.selected-op.result
    c.made_claim-head-in-Field.result c.selection.result
    c.selected-op.ensures.scope c.made_claim-head-in-Field.ensures.scope c.selection.ensures

pub made_claim-returns-in-Sequence-clause-claim : goal.made_claim-returns-in-Sequence-clause-claim
made_claim-returns-in-Sequence-clause-claim t c =
    let context = context_seen c.args.context in
    let records = c.args.records.now in
    let numbers = c.args.numbers in
    let known = c.args.scope.now in
    let parts = c.as_slice-in-Sequence-2.result.now in
    let same : c.as_slice-in-Sequence.result.now ≡ parts = c.as_slice-in-Sequence.ensures ∙ sym c.as_slice-in-Sequence-2.ensures in
    let ty = option_map type_tree c.in-Sequence.ty in
    let front = λ (at : Scope). type_of_elements (written_elements at ty) (judged_each at context (exprs_of (map expr_tree parts))) in
    of_tree records numbers known context c.sequence.result (expr_tree c.args.expr.now) (e.sequence c.in-Sequence.field-0 ty (exprs_of (map expr_tree parts)))
    (ap expr_tree c.in-Sequence.is ∙ expr_tree-Sequence c.in-Sequence.field-0 c.in-Sequence.ty c.in-Sequence.elements
    ∙ ap (λ es. e.sequence c.in-Sequence.field-0 ty (exprs_of (map expr_tree es))) (sym c.as_slice-in-Sequence-2.ensures))
    (sequence_made records numbers known c.elements_ty-ty.new.scope context parts c.elements_ty-ty.result c.made_claims-elements.result front
    c.sequence.result
    (subst (λ es. IfOk c.elements_ty-ty.result (λ made. (at : Scope) → Fits known at → value_type made ≡ type_of_elements (written_elements at ty)
    (judged_each at context (exprs_of (map expr_tree es))))) same
    c.elements_ty-ty.ensures.known)
    c.elements_ty-ty.ensures.scope c.made_claims-elements.ensures.claims c.sequence.ensures)

pub made_claim-returns-in-Sequence-clause-scope : goal.made_claim-returns-in-Sequence-clause-scope
made_claim-returns-in-Sequence-clause-scope t c =
    two_scope NodeListed c.args.scope.now c.elements_ty-ty.new.scope c.made_claims-elements.new.scope c.elements_ty-ty.result c.made_claims-elements.result
    c.sequence.result
    c.elements_ty-ty.ensures.scope c.made_claims-elements.ensures.scope c.sequence.ensures

pub made_claim-returns-in-Quantified-clause-claim : goal.made_claim-returns-in-Quantified-clause-claim
made_claim-returns-in-Quantified-clause-claim t c =
    let context = context_seen c.args.context in
    let records = c.args.records.now in
    let numbers = c.args.numbers in
    let known = c.args.scope.now in
    let low = expr_tree c.get-in-Quantified.result.now in
    let high = expr_tree c.get-in-Quantified-2.result.now in
    let body = expr_tree c.get-in-Quantified-3.result.now in
    let name = c.in-Quantified.name in
    let q = c.in-Quantified.quantifier in
    of_tree records numbers known context c.quantification.result (expr_tree c.args.expr.now) (e.quantified c.in-Quantified.field-0 q low high name body)
    (ap expr_tree c.in-Quantified.is ∙ expr_tree-Quantified c.in-Quantified.field-0 q c.in-Quantified.low c.in-Quantified.high name c.in-Quantified.body
    ∙ (λ i. e.quantified c.in-Quantified.field-0 q (expr_tree (sym c.get-in-Quantified.ensures i)) (expr_tree (sym c.get-in-Quantified-2.ensures i)) name
    (expr_tree (sym c.get-in-Quantified-3.ensures i))))
    (three_ok records numbers known c.made_claim-low.new.scope c.made_claim-high.new.scope c.made_claim-low.result c.made_claim-high.result
    c.made_under-body.result (plain.quantified q)
    (λ at. claim_of_tree at context low) (λ at. claim_of_tree at context high) (λ at. claim_of_tree (with_bound at name.text) context body)
    (λ at. plain.quantified q (claim_of_tree at context low) (claim_of_tree at context high) (claim_of_tree (with_bound at name.text) context body))
    c.quantification.result (λ at. refl)
    c.made_claim-low.ensures.claim c.made_claim-low.ensures.scope c.made_claim-high.ensures.claim c.made_claim-high.ensures.scope
    c.made_under-body.ensures.claim c.quantification.ensures)

pub made_claim-returns-in-Quantified-clause-scope : goal.made_claim-returns-in-Quantified-clause-scope
made_claim-returns-in-Quantified-clause-scope t c =
    three_scope (NodeThree (plain.quantified c.in-Quantified.quantifier)) c.args.scope.now c.made_claim-low.new.scope c.made_claim-high.new.scope
    c.made_under-body.new.scope
    c.made_claim-low.result c.made_claim-high.result c.made_under-body.result c.quantification.result
    c.made_claim-low.ensures.scope c.made_claim-high.ensures.scope c.made_under-body.ensures.scope c.quantification.ensures

pub made_claim-returns-in-QuantifiedIndices-clause-claim : goal.made_claim-returns-in-QuantifiedIndices-clause-claim
made_claim-returns-in-QuantifiedIndices-clause-claim t c =
    let context = context_seen c.args.context in
    let records = c.args.records.now in
    let numbers = c.args.numbers in
    let known = c.args.scope.now in
    let head = expr_tree c.get-in-QuantifiedIndices.result.now in
    let body = expr_tree c.get-in-QuantifiedIndices-2.result.now in
    let name = c.in-QuantifiedIndices.name in
    let q = c.in-QuantifiedIndices.quantifier in
    of_tree records numbers known context c.quantification-in-QuantifiedIndices.result (expr_tree c.args.expr.now) (e.quantified_indices
    c.in-QuantifiedIndices.field-0 q head name body)
    (ap expr_tree c.in-QuantifiedIndices.is ∙ expr_tree-QuantifiedIndices c.in-QuantifiedIndices.field-0 q c.in-QuantifiedIndices.head name
    c.in-QuantifiedIndices.body
    ∙ (λ i. e.quantified_indices c.in-QuantifiedIndices.field-0 q (expr_tree (sym c.get-in-QuantifiedIndices.ensures i)) name (expr_tree (sym
    c.get-in-QuantifiedIndices-2.ensures i))))
    (indices_made records numbers known c.made_claim-head-in-QuantifiedIndices.new.scope q c.made_claim-head-in-QuantifiedIndices.result
    c.prefixed-size.result c.made_under-body-in-QuantifiedIndices.result
    (λ at. claim_of_tree at context head) (λ at. claim_of_tree (with_bound at name.text) context body) c.quantification-in-QuantifiedIndices.result
    c.made_claim-head-in-QuantifiedIndices.ensures.claim c.made_claim-head-in-QuantifiedIndices.ensures.scope c.prefixed-size.ensures
    c.made_under-body-in-QuantifiedIndices.ensures.claim c.quantification-in-QuantifiedIndices.ensures)

pub made_claim-returns-in-QuantifiedIndices-clause-scope : goal.made_claim-returns-in-QuantifiedIndices-clause-scope
made_claim-returns-in-QuantifiedIndices-clause-scope t c =
    indices_scope c.in-QuantifiedIndices.quantifier c.args.scope.now c.made_claim-head-in-QuantifiedIndices.new.scope
    c.made_under-body-in-QuantifiedIndices.new.scope c.made_claim-head-in-QuantifiedIndices.result c.prefixed-size.result
    c.made_under-body-in-QuantifiedIndices.result c.quantification-in-QuantifiedIndices.result
    c.made_claim-head-in-QuantifiedIndices.ensures.scope c.prefixed-size.ensures c.made_under-body-in-QuantifiedIndices.ensures.scope
    c.quantification-in-QuantifiedIndices.ensures

pub made_under-returns-clause-claim : goal.made_under-returns-clause-claim
made_under-returns-clause-claim t c =
    under_made c.args.records.now c.args.numbers c.args.scope.now c.bind.new.self (context_seen c.args.context) c.args.name.now.text (expr_tree
    c.args.body.now) c.made_claim-claim.result
    (λ at fits. subst (λ text. Fits c.bind.new.self (with_bound at text)) c.as_str.ensures (c.in_ok-bind.ensures.fits at fits))
    c.made_claim-claim.ensures.claim

pub made_under-returns-clause-scope : goal.made_under-returns-clause-scope
made_under-returns-clause-scope t c =
    on_ok_weaker c.made_claim-claim.result
    (λ same.
    c.unbind.ensures
    ∙ ap (after_quantifier c.len-names.result) same
    ∙ ap (λ n. after_quantifier n c.bind.new.self) c.len-names.ensures
    ∙ c.in_ok-bind.ensures.back)
    c.made_claim-claim.ensures.scope

pub made_claims-loop-expr-init : goal.made_claims-loop-expr-init
made_claims-loop-expr-init t c =
    (none_yet c.args.records.now c.args.numbers c.args.scope.now (context_seen c.args.context) c.new-claims.result c.new-claims.ensures, refl)

pub made_claims-loop-expr-preserved : goal.made_claims-loop-expr-preserved
made_claims-loop-expr-preserved t c =
    let i = c.loop-expr.expr-index in
    let exprs = c.args.exprs.now in
    let more : take (i + 1) exprs ≡ take i exprs ++ c.expr-item.result ∷ [] =
    take_more exprs i c.expr-item.result c.loop-expr-test.true ∙ ap (λ x. take i exprs ++ x ∷ []) (sym c.expr-item.is) in (
      subst (AreClaims c.args.records.now c.args.numbers c.args.scope.now (context_seen c.args.context) (take (i + 1) exprs)) (sym c.in_ok-push.ensures.ok)
          (one_more c.args.records.now c.args.numbers c.args.scope.now c.loop-expr.scope (context_seen c.args.context) (take i exprs) (take (i + 1) exprs)
          c.expr-item.result
          c.loop-expr.claims c.in_ok-made_claim.field-0 c.loop-expr.invariant.1 more c.loop-expr.invariant.0 c.in_ok-made_claim.ensures.claim),
      c.in_ok-made_claim.ensures.scope ∙ c.loop-expr.invariant.1,
    )
