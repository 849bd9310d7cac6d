-- What the machine expects where a name with its type is read.
use Rattle.std.specs.Prelude.{List}
use Rattle.slang_lexer.specs.declared.token.TokenKind.TheVariants as kind
use Rattle.slang_tree.specs.declared.expression.Name.{Name}
use Rattle.slang_tokens.specs.Tok.{Tok}
use Rattle.slang_machine.specs.Open.{AroundType}
use Rattle.slang_machine.specs.States.{State, want_type}
use Rattle.token_cursor.specs.Gives.{Expects}

-- behind a name a colon is due, and then a type
pub record LeadsToType (to : Name → State) (inner : Name → AroundType) : Type 0 where
  pub colon : (written : Name) (tokens : List Tok) → Expects kind.Colon tokens (to written) (want_type (inner written))
