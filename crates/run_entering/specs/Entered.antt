-- The defaults of several types, and the values with which a method begins.
use Rattle.std.specs.Prelude.{◌≡◌, List, map}
use Rattle.slang_values.specs.Value.{Records, default}
use Rattle.slang_values.specs.Value as plain
use Rattle.lk_claims.specs.declared.ty.Ty.{Ty}
use Rattle.lk_claims.specs.Claim.{value_type}
use Rattle.run_values.specs.declared.value.Value.{Value}
use Rattle.run_values.specs.Value.{plain_value}
use Rattle.expression_values.specs.declared.environment.Env.{Env}

abbrev pub default_values : Records → List Ty → List plain.Value
default_values records types = map (λ t. default records (value_type t)) types

-- The environment has these locals, these globals, which are its entry values too, and this result.
pub record IsMadeOf (values these : List Value) (outcome : plain.Value) (env : Env) : Type 0 where
  pub locals : env.locals ≡ values
  pub globals : env.globals ≡ these
  pub entry : env.entry ≡ these
  pub outcome_is : plain_value env.result ≡ outcome
