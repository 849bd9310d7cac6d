-- What the operators of a text say.
use Rattle.std.specs.Prelude.{Bool, true, false, if◌then◌else◌}
use Rattle.slang_values.specs.Tree.{Tree, unary, binary}
use Rattle.slang_values.specs.declared.operators.Unary.{Unary}
use Rattle.slang_values.specs.declared.operators.Binary.{Binary}
use Rattle.slang_tree.specs.declared.expression.Operator.{Operator}
use Rattle.slang_tree.specs.declared.expression.Operator.TheVariants as o

-- The connective of claims that stands for an operator. The four arrows are one, `a > b` is `b < a`, and `!=` is not `==`.
abbrev pub connective : Operator → Binary
connective o.LooseImply = Binary.Imply
connective o.LooseCondImply = Binary.Imply
connective o.Or = Binary.Or
connective o.CondOr = Binary.Or
connective o.And = Binary.And
connective o.CondAnd = Binary.And
connective o.Eq = Binary.Eq
connective o.Ne = Binary.Eq
connective o.Lt = Binary.Lt
connective o.Le = Binary.Le
connective o.Gt = Binary.Lt
connective o.Ge = Binary.Le
connective o.Append = Binary.Append
connective o.Imply = Binary.Imply
connective o.CondImply = Binary.Imply
connective o.Add = Binary.Add
connective o.Sub = Binary.Sub
connective o.Mul = Binary.Mul
connective o.Div = Binary.Div
connective o.Rem = Binary.Rem

-- the operands change their sides
abbrev pub exchanged : Operator → Bool
exchanged o.Gt = true
exchanged o.Ge = true
exchanged other = false

abbrev pub negated : Operator → Bool
negated o.Ne = true
negated other = false

-- the claim that an operator makes of two
abbrev pub connected : {A : Type 0} → Operator → Tree A → Tree A → Tree A
connected operator left right =
    if exchanged operator then binary (connective operator) right left
    else (if negated operator then unary Unary.Not (binary (connective operator) left right) else binary (connective operator) left right)

-- the operator divides, so its right operand may not be 0
abbrev pub divides : Operator → Bool
divides o.Div = true
divides o.Rem = true
divides other = false

-- When a program evaluates the right operand.
pub data Evaluated : Type 0 where
  always : Evaluated
  -- where the left operand is true: of `&&` and of the conditional arrows
  where_true : Evaluated
  -- where the left operand is false: of `||`
  where_false : Evaluated

abbrev pub right_evaluated : Operator → Evaluated
right_evaluated o.CondAnd = where_true
right_evaluated o.CondImply = where_true
right_evaluated o.LooseCondImply = where_true
right_evaluated o.CondOr = where_false
right_evaluated other = always
