-- What the grammar accounts for as an expression, the machine reads.
use Rattle.std.specs.Prelude.{◌≡◌, false, List, ◌∷◌, ◌++◌, None, option_and_then}
use Rattle.slang_lexer.specs.declared.token.TokenKind.TheVariants as kind
use Rattle.slang_tokens.specs.Tok.{Tok}
use Rattle.slang_grammar.specs.Operators.{infix_of}
use Rattle.slang_grammar.specs.Expressions.{ExprText, expr_tokens, expr_tree, IsGrouped}
use Rattle.slang_machine.specs.Open.{Purpose, alone}
use Rattle.slang_machine.specs.States.{want}
use Rattle.slang_machine.specs.Expressions.{is}
use Rattle.slang_machine.specs.Statements.{next_whole}
use Rattle.slang_machine.specs.Machine.{run}

-- no expression goes on with this token
pub record EndsExpr (token : Tok) : Type 0 where
  pub no_paren : is kind.LeftParen token ≡ false
  pub no_dot : is kind.Dot token ≡ false
  pub no_bracket : is kind.LeftBracket token ≡ false
  pub no_operator : infix_of token.kind ≡ None

-- what the grammar accounts for as an expression the machine reads, whatever it is read for, with its tree
abbrev pub ExpressionsAreRead : Type 0
ExpressionsAreRead = (text : ExprText) (at : Purpose) (token : Tok) (rest : List Tok) → IsGrouped text → EndsExpr token
    → run (want (alone at)) (expr_tokens text ++ token ∷ rest) ≡ option_and_then (λ state. run state rest) (next_whole (expr_tree text) at token)
