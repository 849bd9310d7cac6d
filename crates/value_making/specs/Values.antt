-- Expressions with numbers for their variables.
use Rattle.std.specs.Prelude.{ℕ, pos}
use Rattle.slang_tree.specs.declared.place.Place.{Place}
use Rattle.slang_tree.specs.ExprTree.{ExprTree, ExprTrees}
use Rattle.program_trees.specs.Programs.{TypedExpr, number, TypedExprs, no_exprs, expr_then, renamed_expr, renamed_exprs}
use Rattle.program_trees.specs.Variables.{Variable}
use Rattle.type_rules.specs.Meanings.{Scope}
use Rattle.typed_texts.specs.Numbered.{Numbered, numbered_map}
use Rattle.typed_texts.specs.Values.{Value, Values, value_of_tree, values_of_trees}
use Rattle.typed_names.specs.declared.variables.Numbering.{Numbering}
use Rattle.typed_names.specs.Variables.{number_in}

abbrev pub numbered : Numbering → Value → Numbered Place (TypedExpr ℕ)
numbered numbers value = numbered_map (renamed_expr (number_in numbers)) value

abbrev pub all_numbered : Numbering → Values → Numbered Place (TypedExprs ℕ)
all_numbered numbers values = numbered_map (renamed_exprs (number_in numbers)) values

abbrev pub value_in : Numbering → Scope → ExprTree → Numbered Place (TypedExpr ℕ)
value_in numbers scope tree = numbered numbers (value_of_tree scope tree)

abbrev pub values_in : Numbering → Scope → ExprTrees → Numbered Place (TypedExprs ℕ)
values_in numbers scope trees = all_numbered numbers (values_of_trees scope trees)

-- the first of some expressions; where there is none it is no value
abbrev pub first_number : ℕ → TypedExprs ℕ → TypedExpr ℕ
first_number node no_exprs = number node (pos 0)
first_number node (expr_then expr exprs) = expr
