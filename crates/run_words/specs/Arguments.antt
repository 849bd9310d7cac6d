-- Words that are arguments of some type.
use Rattle.std.specs.Prelude.{ℕ, List, []}
use Rattle.slang_tokens.specs.Tok.{Tok}
use Rattle.slang_tokens.specs.Tokens.{weight_limit}
use Rattle.slang_tokens.specs.Weights.{AreLight}
use Rattle.slang_grammar.specs.Declarations.{ConstText}
use Rattle.argument_rules.specs.Arguments.{IsArgument}
use Rattle.argument_forms.specs.Constants.{AreConstant}

-- the word is an argument: a constant with blanks between its tokens, that does not nest too deep and whose numbers have 128 bits
pub record IsArgumentWord (word : List ℕ) : Type 0 where
  pub const : ConstText
  pub is_argument : IsArgument word const

-- the tokens are a constant that does not nest too deep
pub record AreArgumentTokens (tokens : List Tok) : Type 0 where
  pub constant : AreConstant tokens
  pub light : AreLight weight_limit [] tokens
