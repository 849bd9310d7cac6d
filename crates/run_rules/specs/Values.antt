-- The values of a method's variables, and what claims say of them.
use Rattle.std.specs.Prelude.{Bool, if◌then◌else◌}
use Rattle.slang_values.specs.Value.{Records, Value, unit, truth_of}
use Rattle.slang_values.specs.Tree.{value}
use Rattle.validity.specs.Validity.{no_bounds}
use Rattle.program_trees.specs.Claims.{ClaimName, variable, old_variable, let_symbol, ClaimTree}
use Rattle.program_trees.specs.Variables.{Variable, same_variable}

abbrev pub Values : Type 0
Values = Variable → Value

-- Runs test no claims with old values or symbols of proofs.
abbrev pub name_value : Values → ClaimName Variable → Value
name_value values (variable x) = values x
name_value values (old_variable x) = unit
name_value values (let_symbol label) = unit

-- the value of a claim, where the variables have these values
abbrev pub claim_value : Records → Values → ClaimTree Variable → Value
claim_value records values claim = value records (name_value values) no_bounds claim

abbrev pub is_true : Records → Values → ClaimTree Variable → Bool
is_true records values claim = truth_of (claim_value records values claim)

-- the values, but that this variable has this one
abbrev pub with_value : Values → Variable → Value → Values
with_value values changed value x = if same_variable x changed then value else values x
