-- The operators of expressions: how each is spelled, how tightly it binds, and to which side it joins.
use Rattle.std.specs.Prelude.{ℕ, if◌then◌else◌, List, [], ◌∷◌, Option, Some, None}
use Rattle.slang_lexer.specs.declared.token.TokenKind.{TokenKind}
use Rattle.slang_lexer.specs.declared.token.TokenKind.TheVariants as kind
use Rattle.slang_tree.specs.declared.expression.Operator.{Operator}
use Rattle.slang_tree.specs.declared.expression.Operator.TheVariants as o
use Rattle.slang_tokens.specs.Tok.{same_kind}
use Rattle.slang_grammar.specs.declared.operator.Side.{Side}
use Rattle.slang_grammar.specs.declared.operator.Side.TheVariants.{Left, Right}
use Rattle.slang_grammar.specs.declared.operator.Prefix.{Prefix}
use Rattle.slang_grammar.specs.declared.operator.Prefix.TheVariants as prefix
use Rattle.slang_grammar.specs.declared.operator.Infix.{Infix}

abbrev pub entry : TokenKind → Operator → ℕ → Side → Infix
entry sign operator level joins = record { sign = sign; operator = operator; level = level; joins = joins }

-- The operators between two operands, the loosest first: the sign of each, how tightly it binds, from 1 on, and the side to
-- which a chain of its level joins. Operators of one level that join to two sides make no chain.
unfoldable pub operators : List Infix
operators =
    entry kind.LowArrow o.LooseImply 1 Right ∷
    entry kind.LongLowArrow o.LooseCondImply 1 Right ∷
    entry kind.Bar o.Or 2 Left ∷
    entry kind.DoubleBar o.CondOr 2 Left ∷
    entry kind.Ampersand o.And 3 Left ∷
    entry kind.DoubleAmpersand o.CondAnd 3 Left ∷
    entry kind.DoubleEquals o.Eq 4 Left ∷
    entry kind.NotEquals o.Ne 4 Left ∷
    entry kind.Less o.Lt 5 Left ∷
    entry kind.LessOrEqual o.Le 5 Left ∷
    entry kind.Greater o.Gt 5 Left ∷
    entry kind.GreaterOrEqual o.Ge 5 Left ∷
    entry kind.ColonPlus o.Append 6 Left ∷
    entry kind.Plus o.Add 7 Left ∷
    entry kind.Minus o.Sub 7 Left ∷
    entry kind.DashArrow o.Imply 7 Right ∷
    entry kind.LongDashArrow o.CondImply 7 Right ∷
    entry kind.Star o.Mul 8 Left ∷
    entry kind.Slash o.Div 8 Left ∷
    entry kind.Percent o.Rem 8 Left ∷
    []

-- the operator of a table whose sign this is
abbrev pub infix_in : List Infix → TokenKind → Option Infix
infix_in [] sign = None
infix_in (row ∷ rows) sign = if same_kind row.sign sign then Some row else infix_in rows sign

-- the operator between two operands whose sign this is
abbrev pub infix_of : TokenKind → Option Infix
infix_of sign = infix_in operators sign

abbrev pub prefix_kind : Prefix → TokenKind
prefix_kind prefix.Not = kind.Bang
prefix_kind prefix.Minus = kind.Minus

-- a prefix binds more tightly than each operator between two operands
abbrev pub prefix_level : ℕ
prefix_level = 9

-- what needs no brackets anywhere binds most tightly
abbrev pub whole_level : ℕ
whole_level = 10
