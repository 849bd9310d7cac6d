-- What holds of the demands of an expression.
use Rattle.std.specs.Prelude.{◌≡◌, true, None}
use Rattle.std.specs.List.{AllByRecursion}
use Rattle.slang_values.specs.Value.{ValueType, AreWellFormed}
use Rattle.slang_values.specs.Typing.{FitNames}
use Rattle.program_trees.specs.Programs.{TypedExpr, MethodTree, ProgramTree}
use Rattle.program_trees.specs.Variables.{Variable, variable_types}
use Rattle.run_rules.specs.Values.{Values, is_true}
use Rattle.run_rules.specs.Evaluation.{failing}
use Rattle.leg_rules.specs.Checks.{demands}
use Rattle.leg_soundness.specs.Scopes.{Scope, IsExpr}

-- A typed expression does not fail where its demands hold, whatever values of their types the variables have.
abbrev pub MetDemandsSuffice : Type 0
MetDemandsSuffice =
    (program : ProgramTree Variable) (method : MethodTree Variable) (scope : Scope) (values : Values) (t : ValueType) (expr : TypedExpr Variable) →
    AreWellFormed program.records → FitNames program.records (variable_types program method) values → IsExpr program method scope t expr →
    AllByRecursion (λ d. is_true program.records values d.claim ≡ true) (demands expr) → failing program.records values expr ≡ None
