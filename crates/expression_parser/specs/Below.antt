-- Where an expression ends.
use Rattle.std.specs.Prelude.{◌≡◌, ◌<◌, ◌≤◌, ℕ, Bool, true, not, ◌&&◌, List, [], ◌∷◌, Option, Some, None, ⊤}
use Rattle.slang_lexer.specs.declared.token.TokenKind.{TokenKind}
use Rattle.slang_lexer.specs.declared.token.TokenKind.TheVariants as kind
use Rattle.slang_tree.specs.declared.expression.Operator.{Operator}
use Rattle.slang_grammar.specs.declared.operator.Infix.{Infix}
use Rattle.slang_grammar.specs.declared.operator.Side.{Side}
use Rattle.slang_grammar.specs.declared.operator.Side.TheVariants.{Left}
use Rattle.slang_grammar.specs.Operators.{infix_of}
use Rattle.slang_tokens.specs.Tok.{Tok}
use Rattle.slang_machine.specs.Open.{pull}
use Rattle.slang_machine.specs.Expressions.{is}

-- a row of the code's table
abbrev pub row_infix : TokenKind × Operator × ℕ × Side → Infix
row_infix row = record { sign = row.0; operator = row.1; level = row.2; joins = row.3 }

-- the operator that comes next
abbrev pub operator_at : List Tok → Option Infix
operator_at [] = None
operator_at (token ∷ tokens) = infix_of token.kind

-- nothing comes next that goes on with an operand
abbrev pub ends_operand : List Tok → Bool
ends_operand [] = true
ends_operand (token ∷ tokens) = not (is kind.LeftParen token) && not (is kind.Dot token)

abbrev pub IsBelow : ℕ → Option Infix → Type 0
IsBelow n None = ⊤
IsBelow n (Some row) = pull Left row < n

-- no operator comes next that pulls more strongly than this
abbrev pub IsNoMore : ℕ → Option Infix → Type 0
IsNoMore n None = ⊤
IsNoMore n (Some row) = pull Left row ≤ n

abbrev pub StopsAt : ℕ → List Tok → Type 0
StopsAt n tokens = IsNoMore n (operator_at tokens)

-- neither an operator that pulls as strongly as this or more strongly
pub record StopsBefore (n : ℕ) (tokens : List Tok) : Type 0 where
  pub operand : ends_operand tokens ≡ true
  pub below : IsBelow n (operator_at tokens)
