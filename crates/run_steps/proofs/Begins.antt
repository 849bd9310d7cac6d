-- From the plain data of a statement to the statement.
use Rattle.std.proofs.Common.{◌≡◌, ℕ, sym, subst}
use Rattle.std.specs.Prelude.{Result}
use Rattle.program_trees.specs.Programs.{CodeTree, renamed_code, ProgramTree}
use Rattle.program_trees.specs.Variables.{Variable}
use Rattle.lk_programs.specs.declared.program.Code.{Code}
use Rattle.lk_programs.specs.Program.{code_tree}
use Rattle.expression_values.specs.declared.environment.Env.{Env}
use Rattle.expression_values.specs.Environment.{variable_in}
use Rattle.run_steps.specs.declared.ending.RunEnd.{RunEnd}
use Rattle.run_steps.specs.declared.ending.Next.{Next}
use Rattle.run_steps.specs.Steps.{Does, code_in}

pub over : (limit : ℕ) (program : ProgramTree Variable) (env new : Env) (code : Code) (tree : CodeTree ℕ) (answer : Result Next RunEnd) → code_tree code ≡ tree
    → Does limit program (renamed_code (variable_in env) tree) env new answer → Does limit program (code_in env code) env new answer
over limit program env new code tree answer is h =
    subst (λ (t : CodeTree ℕ). Does limit program (renamed_code (variable_in env) t) env new answer) (sym is) h
