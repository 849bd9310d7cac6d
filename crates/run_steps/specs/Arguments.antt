-- The arguments of a call over the variables of an environment.
use Rattle.std.specs.Prelude.{List, map}
use Rattle.program_trees.specs.Programs.{TypedExpr, renamed_expr}
use Rattle.program_trees.specs.Variables.{Variable}
use Rattle.lk_programs.specs.declared.expression.Expr.{Expr}
use Rattle.lk_programs.specs.Expr.{typed_expr}
use Rattle.expression_values.specs.declared.environment.Env.{Env}
use Rattle.expression_values.specs.Environment.{variable_in}

abbrev pub arguments_in : Env → List Expr → List (TypedExpr Variable)
arguments_in env exprs = map (renamed_expr (variable_in env)) (map typed_expr exprs)
