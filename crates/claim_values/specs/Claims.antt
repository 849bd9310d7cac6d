-- A claim over the variables of an environment, and the values of its bound variables.
use Rattle.std.specs.Prelude.{ℕ, ℤ, pos, List, reverse, get_or}
use Rattle.slang_values.specs.Value.{Records, Value}
use Rattle.slang_values.specs.Tree.{Trees, Bounds}
use Rattle.validity.specs.Bind.{bind_all}
use Rattle.slang_values.specs.Tree as trees
use Rattle.program_trees.specs.Claims.{ClaimName, ClaimTree, renamed_claim, renamed_name}
use Rattle.program_trees.specs.Variables.{Variable}
use Rattle.run_rules.specs.Values.{name_value}
use Rattle.lk_claims.specs.declared.claim.Claim.{Claim}
use Rattle.lk_claims.specs.Claim.{claim_tree, claim_trees}
use Rattle.run_stops.specs.ClaimStops.{Visited, visiting, visiting_all}
use Rattle.expression_values.specs.declared.environment.Env.{Env}
use Rattle.expression_values.specs.Environment.{values_in, variable_in}

-- The values of the bound variables by their numbers: the innermost stands last.
abbrev pub bounds_in : List ℤ → Bounds
bounds_in bound n = get_or (reverse bound) n (pos 0)

abbrev pub claim_in : Env → Claim → ClaimTree Variable
claim_in env claim = renamed_claim (variable_in env) (claim_tree claim)

abbrev pub claims_in : Env → List Claim → Trees (ClaimName Variable)
claims_in env claims = bind_all (λ a. trees.name (renamed_name (variable_in env) a)) (claim_trees claims)

abbrev pub names_in : Env → ClaimName Variable → Value
names_in env = name_value (values_in env)
