-- The values of arguments, and where their evaluation stops; and the values where the result has another one.
use Rattle.std.proofs.Common.{◌≡◌, ℕ, List, [], ◌∷◌, map, length, refl, sym, ap, ap₂, ◌∙◌}
use Rattle.std.proofs.lemmas.List.{length-map}
use Rattle.slang_values.specs.Value.{value_then, Values, values_of}
use Rattle.slang_values.specs.Value as plain
use Rattle.program_trees.specs.Programs.{ProgramTree, TypedExpr, claim_of, renamed_expr}
use Rattle.program_trees.specs.Variables.{Variable, local, global, entry, result}
use Rattle.lk_programs.specs.declared.expression.Expr.{Expr}
use Rattle.lk_programs.specs.Expr.{typed_expr}
use Rattle.run_rules.specs.Values.{claim_value, with_value}
use Rattle.run_rules.specs.Runs.{argument_values}
use Rattle.run_stops.specs.ExpressionStops.{first_stop, stopping, stopping_part}
use Rattle.run_values.specs.declared.value.Value.{Value}
use Rattle.run_values.specs.Value.{plain_value, plain_values}
use Rattle.expression_values.specs.declared.environment.Env.{Env}
use Rattle.expression_values.specs.Environment.{values_in, variable_in, expression_in, expressions_in}
use Rattle.expression_values.specs.Answers.{values_in_order}
use Rattle.stopped_runs.specs.Tests.{stopping_argument}
use Rattle.run_steps.specs.Arguments.{arguments_in}

first_same : {v w : plain.Value} {vs ws : Values} → value_then v vs ≡ value_then w ws → v ≡ w
first_same h = cc

others_same : {v w : plain.Value} {vs ws : Values} → value_then v vs ≡ value_then w ws → vs ≡ ws
others_same h = cc

values_differ : (vs ws : List plain.Value) → values_of vs ≡ values_of ws → vs ≡ ws
values_differ [] [] h = refl
values_differ [] (w ∷ ws) h = absurd (cc)
values_differ (v ∷ vs) [] h = absurd (cc)
values_differ (v ∷ vs) (w ∷ ws) h = ap₂ ◌∷◌ (first_same h) (values_differ vs ws (others_same h))

module _ (program : ProgramTree Variable) (env : Env) where
  pub stops_same : (exprs : List Expr) → stopping_argument program.records (values_in env) (arguments_in env exprs)
      ≡ stopping_part program.records (values_in env) (expressions_in env exprs)
  stops_same [] = refl
  stops_same (expr ∷ exprs) = ap (first_stop (stopping program.records (values_in env) (expression_in env expr))) (stops_same exprs)

  in_order : (exprs : List Expr) → values_of (argument_values program (values_in env) (arguments_in env exprs))
      ≡ values_in_order program.records (values_in env) (expressions_in env exprs)
  in_order [] = refl
  in_order (expr ∷ exprs) = ap (value_then (claim_value program.records (values_in env) (claim_of (expression_in env expr)))) (in_order exprs)

  pub values_same : (exprs : List Expr) (vs : List Value) → plain_values vs ≡ values_in_order program.records (values_in env) (expressions_in env exprs)
      → map plain_value vs ≡ argument_values program (values_in env) (arguments_in env exprs)
  values_same exprs vs h = values_differ (map plain_value vs) (argument_values program (values_in env) (arguments_in env exprs)) (h ∙ sym (in_order exprs))

  -- as many values as expressions
  pub arguments_count : (exprs : List Expr) → length (arguments_in env exprs) ≡ length exprs
  arguments_count exprs = length-map (map typed_expr exprs) (renamed_expr (variable_in env)) ∙ length-map exprs typed_expr

  pub values_count : (exprs : List Expr) (vs : List Value) → map plain_value vs ≡ argument_values program (values_in env) (arguments_in env exprs)
      → length vs ≡ length exprs
  values_count exprs vs h =
      sym (length-map vs plain_value) ∙ ap (λ (ws : List plain.Value). length ws) h
      ∙ length-map (arguments_in env exprs) (λ (expr : TypedExpr Variable). claim_value program.records (values_in env) (claim_of expr))
      ∙ arguments_count exprs

abbrev pub with_result : Env → Value → Env
with_result env v = record { locals = env.locals; globals = env.globals; entry = env.entry; result = v }

pub result_given : (env : Env) (v : Value) → values_in (with_result env v) ≡ with_value (values_in env) result (plain_value v)
result_given env v = λ i z. at z i
  where
    at : (z : Variable) → values_in (with_result env v) z ≡ with_value (values_in env) result (plain_value v) z
    at (local n) = refl
    at (global n) = refl
    at (entry n) = refl
    at result = refl
