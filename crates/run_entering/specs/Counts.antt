-- How many variables a method has that has begun.
use Rattle.std.specs.Prelude.{◌≡◌, ℕ, ◌≤◌, length}
use Rattle.expression_values.specs.declared.environment.Env.{Env}

-- as many locals as it has, where there are not more arguments
pub record EnteredCounts (argument_count local_count global_count : ℕ) (env : Env) : Type 0 where
  pub locals : argument_count ≤ local_count → length env.locals ≡ local_count
  pub globals : length env.globals ≡ global_count
  pub entry : length env.entry ≡ global_count
