-- What operators make of two numbers and of two truth values.
use Rattle.std.specs.Prelude.{ℤ, pos, ◌+ℤ◌, ◌-ℤ◌, ◌*ℤ◌, int_lt, int_le, Bool, false, not, ◌&&◌, ◌||◌, if◌then◌else◌}
use Rattle.slang_values.specs.Value.{Records, Value, truth, truth_of}
use Rattle.slang_values.specs.Tree.{binary_value}
use Rattle.slang_tree.specs.declared.expression.Operator.{Operator}
use Rattle.program_trees.specs.Operators.{connective, exchanged, negated}
use Rattle.slang_values.specs.Number.{quotient, remainder}
use Rattle.slang_values.specs.declared.operators.Binary.{Binary}

-- the number of an operator that makes one, and else 0
abbrev pub number_from : Binary → ℤ → ℤ → ℤ
number_from Binary.Add a b = a +ℤ b
number_from Binary.Sub a b = a -ℤ b
number_from Binary.Mul a b = a *ℤ b
number_from Binary.Div a b = quotient a b
number_from Binary.Rem a b = remainder a b
number_from other a b = pos 0

-- whether the numbers are in the order that the operator asks for
abbrev pub order_from : Binary → ℤ → ℤ → Bool
order_from Binary.Lt a b = int_lt a b
order_from Binary.Le a b = int_le a b
order_from other a b = false

-- the truth value of an operator that makes one of two
abbrev pub truth_from : Binary → Bool → Bool → Bool
truth_from Binary.And a b = a && b
truth_from Binary.Or a b = a || b
truth_from Binary.Imply a b = not a || b
truth_from other a b = false

-- whether two numbers are in the order that the operator of the text asks for
abbrev pub order_of : Operator → ℤ → ℤ → Bool
order_of operator a b = if exchanged operator then order_from (connective operator) b a else order_from (connective operator) a b

-- what the operator makes of two values
abbrev pub operator_value : Records → Operator → Value → Value → Value
operator_value records operator v w =
    if exchanged operator then binary_value records (connective operator) w v
    else (if negated operator then truth (not (truth_of (binary_value records (connective operator) v w))) else binary_value records (connective operator) v w)
