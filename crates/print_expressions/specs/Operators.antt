-- The row of an operator in the table of operators.
use Rattle.std.specs.Prelude.{Bool, if◌then◌else◌, List, [], ◌∷◌, Option, Some, None}
use Rattle.std.specs.Option.{unwrap_or}
use denote.Enum.Bare.{sameb}
use Rattle.slang_lexer.specs.declared.token.TokenKind.TheVariants as kind
use Rattle.slang_tree.specs.contracts.expression.Operator.{the_type}
use Rattle.slang_tree.specs.declared.expression.Operator.{Operator}
use Rattle.slang_grammar.specs.declared.operator.Side.TheVariants.{Left}
use Rattle.slang_grammar.specs.declared.operator.Infix.{Infix}
use Rattle.slang_grammar.specs.Operators.{entry, operators}

abbrev pub same_operator : Operator → Operator → Bool
same_operator a b = sameb the_type a b

abbrev pub row_in : List Infix → Operator → Option Infix
row_in [] operator = None
row_in (row ∷ rows) operator = if same_operator row.operator operator then Some row else row_in rows operator

-- each operator has a row
unfoldable pub row_of : Operator → Infix
row_of operator = unwrap_or (row_in operators operator) (entry kind.End operator 0 Left)
