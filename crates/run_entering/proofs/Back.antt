-- The values of a caller behind the end of the method that it called.
use Rattle.std.proofs.Common.{◌≡◌, ℕ, List, length, Option, Some, refl, sym, ap, ap₂, ◌∙◌}
use Rattle.std.specs.Option.{option_map}
use Rattle.program_trees.specs.Variables.{Variable, local, global, entry, result, variable_of}
use Rattle.run_rules.specs.Values.{Values, with_value}
use Rattle.run_rules.specs.Runs.{with_globals, returned}
use Rattle.run_values.specs.declared.value.Value.{Value}
use Rattle.run_values.specs.Value.{plain_value}
use Rattle.expression_values.specs.declared.environment.Env.{Env}
use Rattle.expression_values.specs.Environment.{value_in, values_in, variable_in}

abbrev pub with_these : Env → List Value → Env
with_these env globals = record { locals = env.locals; globals = globals; entry = env.entry; result = env.result }

pub globals_are : (env callee : Env) → values_in (with_these env callee.globals) ≡ with_globals (values_in env) (values_in callee)
globals_are env callee = λ i z. at z i
  where
    at : (z : Variable) → values_in (with_these env callee.globals) z ≡ with_globals (values_in env) (values_in callee) z
    at (local n) = refl
    at (global n) = refl
    at (entry n) = refl
    at result = refl

pub same_variables : (env : Env) (globals : List Value) (n : ℕ) → length globals ≡ length env.globals → variable_in (with_these env globals) n ≡ variable_in env n
same_variables env globals n same = ap (λ (k : ℕ). variable_of (length env.locals) k n) same

pub back_with : (env callee : Env) (target : Option ℕ) (n : ℕ) → length callee.globals ≡ length env.globals → target ≡ Some n
    → with_value (values_in (with_these env callee.globals)) (variable_in (with_these env callee.globals) n) (plain_value callee.result)
    ≡ returned (values_in env) (option_map (variable_in env) target) (values_in callee)
back_with env callee target n same is =
    ap₂ (λ (vs : Values) (x : Variable). with_value vs x (plain_value callee.result)) (globals_are env callee) (same_variables env callee.globals n same)
    ∙ sym (ap (λ (t : Option ℕ). returned (values_in env) (option_map (variable_in env) t) (values_in callee)) is)
