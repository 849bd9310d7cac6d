-- What operators make of the values of their operands.
use Rattle.std.proofs.Common.{◌≡◌, refl}
use Rattle.slang_values.specs.Value.{Records}
use Rattle.slang_tree.specs.declared.expression.Operator.{Operator}
use Rattle.slang_tree.specs.declared.expression.Operator.TheVariants as o
use Rattle.program_trees.specs.Operators.{connected}
use Rattle.program_trees.specs.Claims.{ClaimTree}
use Rattle.program_trees.specs.Variables.{Variable}
use Rattle.run_rules.specs.Values.{Values, claim_value}
use Rattle.expression_values.specs.Operations.{operator_value}

pub connected_is : (operator : Operator) (records : Records) (assigned : Values) (a b : ClaimTree Variable) → claim_value records assigned (connected operator a b)
    ≡ operator_value records operator (claim_value records assigned a) (claim_value records assigned b)
connected_is o.LooseImply records assigned a b = refl
connected_is o.LooseCondImply records assigned a b = refl
connected_is o.Or records assigned a b = refl
connected_is o.CondOr records assigned a b = refl
connected_is o.And records assigned a b = refl
connected_is o.CondAnd records assigned a b = refl
connected_is o.Eq records assigned a b = refl
connected_is o.Ne records assigned a b = refl
connected_is o.Lt records assigned a b = refl
connected_is o.Le records assigned a b = refl
connected_is o.Gt records assigned a b = refl
connected_is o.Ge records assigned a b = refl
connected_is o.Append records assigned a b = refl
connected_is o.Imply records assigned a b = refl
connected_is o.CondImply records assigned a b = refl
connected_is o.Add records assigned a b = refl
connected_is o.Sub records assigned a b = refl
connected_is o.Mul records assigned a b = refl
connected_is o.Div records assigned a b = refl
connected_is o.Rem records assigned a b = refl
