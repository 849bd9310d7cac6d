-- The values that an environment gives to a method's variables, and an expression over them.
use Rattle.std.specs.Prelude.{ℕ, List, map, length, get_or}
use Rattle.slang_values.specs.Value.{unit}
use Rattle.slang_values.specs.Value as plain
use Rattle.program_trees.specs.Programs.{TypedExpr, TypedExprs, renamed_expr, renamed_exprs}
use Rattle.program_trees.specs.Variables.{Variable, local, global, entry, result, variable_of}
use Rattle.run_rules.specs.Values.{Values}
use Rattle.lk_programs.specs.declared.expression.Expr.{Expr}
use Rattle.lk_programs.specs.Expr.{typed_expr, typed_exprs}
use Rattle.run_values.specs.declared.value.Value.{Value}
use Rattle.run_values.specs.Value.{plain_value}
use Rattle.expression_values.specs.declared.environment.Env.{Env}

-- the value at that place; past the end, the value of type `Unit`
abbrev pub value_in : List Value → ℕ → plain.Value
value_in values n = get_or (map plain_value values) n unit

abbrev pub values_in : Env → Values
values_in env (local n) = value_in env.locals n
values_in env (global n) = value_in env.globals n
values_in env (entry n) = value_in env.entry n
values_in env result = plain_value env.result

-- which variable a number stands for
abbrev pub variable_in : Env → ℕ → Variable
variable_in env n = variable_of (length env.locals) (length env.globals) n

abbrev pub expression_in : Env → Expr → TypedExpr Variable
expression_in env expr = renamed_expr (variable_in env) (typed_expr expr)

abbrev pub expressions_in : Env → List Expr → TypedExprs Variable
expressions_in env exprs = renamed_exprs (variable_in env) (typed_exprs exprs)
