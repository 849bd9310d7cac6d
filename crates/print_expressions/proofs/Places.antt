-- What is printed does not depend on places.
use Rattle.std.proofs.Common.{◌≡◌, Bool, Option, Some, None, refl, ap, ap₂, ◌∙◌}
use Rattle.std.specs.Option.{option_map}
use Rattle.slang_tree.specs.declared.expression.Name.{Name}
use Rattle.slang_tree.specs.TypeTree.{TypeTree, z_name, b_name, unit_name, sequence_name, record_name}
use Rattle.slang_tree.specs.ExprTree.{ExprTree, ExprTrees}
use Rattle.slang_tree.specs.ExprTree as e
use Rattle.slang_grammar.specs.declared.operator.Prefix.TheVariants as prefix
use Rattle.slang_grammar.specs.Parts.{sequence_type}
use Rattle.slang_grammar.specs.Expressions.{BoundText, result, sequence, quantified, quantified_indices, field, prefixed, last_expr, expr_then}
use Rattle.print_expressions.specs.Bare.{nowhere, bare_name, bare_type, bare_expr, bare_exprs}
use Rattle.print_expressions.specs.Operators.{row_of}
use Rattle.print_expressions.specs.Hefts.{one}
use Rattle.print_expressions.specs.Accounts.{type_account, element_account, word_of, as_prefixed, as_head, head_before, first_before, binary_account, application_account, update_account, expr_account, exprs_account}
use Rattle.print_expressions.specs.Laws.{PlacesAreNotPrinted}

pub type_bare : (tree : TypeTree) → type_account (bare_type tree) ≡ type_account tree
type_bare (z_name place) = refl
type_bare (b_name place) = refl
type_bare (unit_name place) = refl
type_bare (sequence_name place element) = ap (λ t. sequence_type nowhere nowhere t nowhere) (type_bare element)
type_bare (record_name written) = refl

element_bare : (ty : Option TypeTree) → option_map element_account (option_map bare_type ty) ≡ option_map element_account ty
element_bare None = refl
element_bare (Some ty) = ap (λ t. Some (record { left = nowhere; ty = t; right = nowhere })) (type_bare ty)

-- the variable of a quantifier
abbrev bound : Name → BoundText
bound written = record { left = nowhere; variable = bare_name written; arrow = nowhere; right = nowhere }

mutual
  expr_bare : (light : Bool) (tree : ExprTree) → expr_account light (bare_expr tree) ≡ expr_account light tree
  expr_bare light (e.number place z) = refl
  expr_bare light (e.truth place) = refl
  expr_bare light (e.falsity place) = refl
  expr_bare light (e.name text place) = refl
  expr_bare light (e.result place ty) = ap (result nowhere) (element_bare ty)
  expr_bare light (e.entry_value place written) = refl
  expr_bare light (e.old_value place written) = refl
  expr_bare light (e.minus place operand) = ap (λ t. prefixed prefix.Minus nowhere (as_prefixed t)) (expr_bare light operand)
  expr_bare light (e.negation place operand) = ap (λ t. prefixed prefix.Not nowhere (as_prefixed t)) (expr_bare light operand)
  expr_bare light (e.binary place operator left right) = ap₂ (binary_account light (row_of operator)) (expr_bare light left) (expr_bare light right)
  expr_bare light (e.application place head arguments) = ap₂ (application_account light) (expr_bare light head) (exprs_bare light arguments)
  expr_bare light (e.update place head index element) =
      ap₂ (λ t i. update_account light t i (expr_account light (bare_expr element))) (expr_bare light head) (expr_bare light index)
      ∙ ap (update_account light (expr_account light head) (expr_account light index)) (expr_bare light element)
  expr_bare light (e.field place head written) = ap (λ t. field (head_before light t one) nowhere (bare_name written)) (expr_bare light head)
  expr_bare light (e.sequence place ty elements) = ap₂ (λ t ts. sequence nowhere t nowhere ts nowhere) (element_bare ty) (exprs_bare light elements)
  expr_bare light (e.quantified place by low high named body) =
      ap₂ (λ l h. quantified (word_of by) nowhere nowhere (first_before light l h) nowhere h nowhere (bound named) (expr_account light (bare_expr body)))
      (expr_bare light low) (expr_bare light high)
      ∙ ap (λ b. quantified (word_of by) nowhere nowhere (first_before light (expr_account light low) (expr_account light high)) nowhere
      (expr_account light high) nowhere (bound named) b) (expr_bare light body)
  expr_bare light (e.quantified_indices place by head named body) =
      ap₂ (λ h b. quantified_indices (word_of by) nowhere nowhere (as_head h) nowhere nowhere nowhere (bound named) b) (expr_bare light head)
      (expr_bare light body)

  exprs_bare : (light : Bool) (trees : ExprTrees) → exprs_account light (bare_exprs trees) ≡ exprs_account light trees
  exprs_bare light e.no_exprs = refl
  exprs_bare light (e.expr_then tree e.no_exprs) = ap last_expr (expr_bare light tree)
  exprs_bare light (e.expr_then tree (e.expr_then next trees)) =
      ap₂ (λ t ts. expr_then t nowhere ts) (expr_bare light tree) (exprs_bare light (e.expr_then next trees))

pub places_are_not_printed : PlacesAreNotPrinted
places_are_not_printed = expr_bare

pub lists_without_places : (light : Bool) (trees : ExprTrees) → exprs_account light (bare_exprs trees) ≡ exprs_account light trees
lists_without_places = exprs_bare
