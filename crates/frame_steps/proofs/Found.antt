-- The code at a place of a run, over the variables of its environment.
use Rattle.std.proofs.Common.{◌≡◌, ℕ, List, Option, Some, None, length, sym, ap, ◌∙◌}
use Rattle.std.specs.Borrow.{Bor}
use Rattle.program_trees.specs.Programs.{ProgramTree, MethodTree, CodeTree, CodeTrees, renamed_codes, renamed_method}
use Rattle.program_trees.specs.Variables.{Variable, variable_of}
use Rattle.lk_programs.specs.declared.program.Code.{Code}
use Rattle.lk_programs.specs.declared.program.Method.{Method}
use Rattle.lk_programs.specs.Program.{code_trees, method_tree}
use Rattle.run_rules.specs.Runs.{method_at}
use Rattle.expression_values.specs.declared.environment.Env.{Env}
use Rattle.expression_values.specs.Environment.{variable_in}
use Rattle.code_paths.specs.declared.inside.Inside.{Inside}
use Rattle.code_paths.specs.Places.{nth_statement, block_in}
use Rattle.code_paths.proofs.Paths.{renamed_option, renamed_statement, renamed_path}
use Rattle.code_places.specs.Statements.{IsStatement}
use Rattle.run_frames.specs.Frames.{block_of}
use Rattle.run_steps.specs.Steps.{IsOf}
use Rattle.run_steps.proofs.Methods.{variables_are}
use Rattle.frame_steps.specs.Places.{IsThere}

module _ (program : ProgramTree Variable) (number : ℕ) (method : Method) (env : Env) (fits : IsOf program number env)
    (is : method_at program number ≡ renamed_method (variable_of (length (method_tree method).locals) (length program.globals)) (method_tree method))
    (path : List Inside) (block : List Code) (at : code_trees block ≡ block_in (code_trees method.body) path) where
  block_is : block_of program number path ≡ renamed_codes (variable_in env) (code_trees block)
  block_is =
      ap (λ (m : MethodTree Variable). block_in m.body path) is
      ∙ renamed_path (variable_of (length (method_tree method).locals) (length program.globals)) (code_trees method.body) path
      ∙ ap (renamed_codes (variable_of (length (method_tree method).locals) (length program.globals))) (sym at)
      ∙ ap (λ (f : ℕ → Variable). renamed_codes f (code_trees block)) (sym (variables_are program number method env fits is))

  statement_is : (n : ℕ) → nth_statement (block_of program number path) n ≡ renamed_option (variable_in env) (nth_statement (code_trees block) n)
  statement_is n = ap (λ (codes : CodeTrees Variable). nth_statement codes n) block_is ∙ renamed_statement (variable_in env) (code_trees block) n

  pub found : (n : ℕ) (answer : Option (Bor Code)) → IsStatement (code_trees block) n answer → IsThere program number env path n answer
  found n None h = statement_is n ∙ ap (renamed_option (variable_in env)) h
  found n (Some code) h = statement_is n ∙ ap (renamed_option (variable_in env)) h
