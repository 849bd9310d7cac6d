-- How a method begins, by its parts.
use Rattle.std.proofs.Common.{◌≡◌, ℕ, ◌<◌, ◌≤◌, List, map, length, sym, ap, ap₂, ◌∙◌}
use Rattle.std.proofs.lemmas.List.{length-map}
use Rattle.slang_values.specs.Value.{ValueType}
use Rattle.program_trees.specs.Programs.{ProgramTree, MethodTree, renamed_method}
use Rattle.program_trees.specs.Variables.{Variable, variable_of}
use Rattle.lk_claims.specs.Claim.{value_type}
use Rattle.lk_programs.specs.declared.program.Method.{Method}
use Rattle.lk_programs.specs.Program.{method_tree}
use Rattle.run_rules.specs.Values.{Values}
use Rattle.run_rules.specs.Runs.{method_at}
use Rattle.expression_values.specs.declared.environment.Env.{Env}
use Rattle.expression_values.specs.Environment.{values_in}
use Rattle.run_entering.specs.Counts.{EnteredCounts}
use Rattle.stopped_runs.specs.Tests.{test}
use Rattle.claim_tests.specs.Tested.{noted_in}
use Rattle.run_steps.specs.Steps.{IsOf}
use Rattle.run_steps.proofs.Methods.{requires_are}

module _ (program : ProgramTree Variable) (number : ℕ) (method : Method) (env : Env)
    (is : method_at program number ≡ renamed_method (variable_of (length (method_tree method).locals) (length program.globals)) (method_tree method)) where
  pub locals_are : (method_at program number).locals ≡ map value_type method.locals
  locals_are = ap (λ (m : MethodTree Variable). m.locals) is

  -- as many locals
  pub count_is : length (method_at program number).locals ≡ length method.locals
  count_is = ap (λ (ts : List ValueType). length ts) locals_are ∙ length-map method.locals value_type

  pub result_is : (method_at program number).result ≡ value_type method.result
  result_is = ap (λ (m : MethodTree Variable). m.result) is

  pub is_of : (arguments globals : ℕ) → number < length program.methods → arguments ≤ length method.locals → globals ≡ length program.globals
      → EnteredCounts arguments (length method.locals) globals env → IsOf program number env
  is_of arguments globals there few same counts = record {
    there = there;
    locals = counts.locals few ∙ sym count_is;
    globals = counts.globals ∙ same;
    entry = counts.entry ∙ same;
  }

  pub test_is : (limit : ℕ) (values : Values) → IsOf program number env → values_in env ≡ values
      → test limit program.records (values_in env) (noted_in env method.requires_) ≡ test limit program.records values (method_at program number).requires_
  test_is limit values fits same = ap₂ (test limit program.records) same (requires_are program number method env fits is)
