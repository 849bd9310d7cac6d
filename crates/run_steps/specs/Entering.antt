-- The methods of a program, and how one begins.
use Rattle.std.specs.Prelude.{◌≡◌, ℕ, length, List, Result}
use Rattle.slang_values.specs.Value as plain
use Rattle.program_trees.specs.Programs.{ProgramTree, renamed_method}
use Rattle.program_trees.specs.Variables.{Variable, variable_of}
use Rattle.program_trees.specs.declared.answer.Kind.TheVariants as kinds
use Rattle.lk_programs.specs.declared.program.Method.{Method}
use Rattle.lk_programs.specs.Program.{method_tree}
use Rattle.run_rules.specs.Runs.{method_at, entered, fails}
use Rattle.run_values.specs.declared.value.Value.{Value}
use Rattle.expression_values.specs.declared.environment.Env.{Env}
use Rattle.expression_values.specs.Environment.{value_in, values_in}
use Rattle.stopped_runs.specs.Runs.{reached, on_test}
use Rattle.stopped_runs.specs.Tests.{test}
use Rattle.run_steps.specs.declared.ending.RunEnd.{RunEnd}
use Rattle.run_steps.specs.Ends.{Gives}

-- the method of that number, over variables by their kinds
abbrev pub IsMethod : ProgramTree Variable → ℕ → Method → Type 0
IsMethod program number method =
    method_at program number ≡ renamed_method (variable_of (length (method_tree method).locals) (length program.globals)) (method_tree method)

-- The method begins with these arguments where the globals have these values, and its Requires hold.
abbrev pub Enters : (limit : ℕ) → ProgramTree Variable → (number : ℕ) → List plain.Value → List Value → (node : ℕ) → Result Env RunEnd → Type 0
Enters limit program number arguments globals node answer =
    Gives (λ env. values_in env ≡ entered program.records (method_at program number) arguments (value_in globals))
    (on_test (test limit program.records (entered program.records (method_at program number) arguments (value_in globals)) (method_at program number).requires_)
    (λ n. reached (fails kinds.Requires node))) answer
