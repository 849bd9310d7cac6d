-- Tokens that are a constant.
use Rattle.std.specs.Prelude.{◌≡◌, List}
use Rattle.slang_tokens.specs.Tok.{Tok}
use Rattle.slang_grammar.specs.Declarations.{ConstText, const_tokens}
use Rattle.argument_rules.specs.Arguments.{IsConst}

-- the tokens are a constant, where the least number of 128 bits may stand in it
pub record AreConstant (tokens : List Tok) : Type 0 where
  pub const : ConstText
  pub well_formed : IsConst const
  pub spelled : const_tokens const ≡ tokens
