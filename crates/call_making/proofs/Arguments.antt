-- Arguments as a list of expressions.
use Rattle.std.proofs.Common.{◌≡◌, ◌+◌, ◌++◌, ◌∷◌, [], ℕ, List, length, map, refl, sym, ap, ◌∙◌}
use Rattle.slang_tree.specs.ExprTree.{ExprTrees, no_exprs, expr_then}
use Rattle.program_trees.specs.Programs.{TypedExpr, TypedExprs, renamed_expr}
use Rattle.program_trees.specs.Programs as p
use Rattle.lk_programs.specs.declared.expression.Expr.{Expr}
use Rattle.lk_programs.specs.Expr.{exprs_of, typed_expr, typed_exprs}
use Rattle.type_rules.specs.Meanings.{Scope}
use Rattle.typed_texts.specs.Numbered.{numbered_map}
use Rattle.typed_texts.specs.Code.{arguments_of}
use Rattle.typed_texts.specs.Values.{value_of_tree, values_of_trees}
use Rattle.typed_names.specs.declared.nodes.Nodes.{Nodes}
use Rattle.typed_names.specs.declared.variables.Numbering.{Numbering}
use Rattle.typed_names.specs.Nodes.{IsMade}
use Rattle.typed_names.specs.Nodes.{with_nodes}
use Rattle.typed_names.specs.Variables.{number_in}
use Rattle.value_making.specs.Values.{values_in}

abbrev expr_list : TypedExprs ℕ → List (TypedExpr ℕ)
expr_list p.no_exprs = []
expr_list (p.expr_then expr exprs) = expr ∷ expr_list exprs

list_of : (exprs : List (TypedExpr ℕ)) → expr_list (exprs_of exprs) ≡ exprs
list_of [] = refl
list_of (expr ∷ exprs) = ap (λ es. expr ∷ es) (list_of exprs)

same_places : (at : Scope) (trees : ExprTrees) → (values_of_trees at trees).places ≡ (arguments_of at trees).places
same_places at no_exprs = refl
same_places at (expr_then tree trees) = ap (λ ps. (value_of_tree at tree).places ++ ps) (same_places at trees)

same_from : (numbers : Numbering) (at : Scope) (trees : ExprTrees) (n : ℕ) →
    expr_list ((values_in numbers at trees).from n) ≡ map (renamed_expr (number_in numbers)) ((arguments_of at trees).from n)
same_from numbers at no_exprs n = refl
same_from numbers at (expr_then tree trees) n =
    ap (λ es. renamed_expr (number_in numbers) ((value_of_tree at tree).from n) ∷ es) (same_from numbers at trees (n + length (value_of_tree at tree).places))

pub arguments_made : (numbers : Numbering) (at : Scope) (before after : Nodes) (values : List Expr) (trees : ExprTrees) →
    IsMade before after (typed_exprs values) (values_in numbers at trees) →
    IsMade before after (map typed_expr values) (numbered_map (map (renamed_expr (number_in numbers))) (arguments_of at trees))
arguments_made numbers at before after values trees made = record {
  added = made.added ∙ ap (with_nodes before) (same_places at trees);
  is = sym (list_of (map typed_expr values)) ∙ ap expr_list made.is ∙ same_from numbers at trees (length before.places);
}
