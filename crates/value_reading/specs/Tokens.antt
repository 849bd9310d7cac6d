-- Tokens that are a constant of a type.
use Rattle.std.specs.Prelude.{◌≡◌, ℕ, List, [], Some}
use Rattle.slang_values.specs.Value.{ValueType, Records, Value}
use Rattle.slang_tokens.specs.Tok.{Tok}
use Rattle.slang_tokens.specs.Tokens.{weight_limit}
use Rattle.slang_tokens.specs.Weights.{AreLight}
use Rattle.slang_grammar.specs.Declarations.{ConstText, const_tokens}
use Rattle.argument_rules.specs.Arguments.{IsConst}
use Rattle.argument_rules.specs.Values.{const_value}
use Rattle.argument_scalars.specs.Fronts.{ValueFront}

-- the tokens are a constant that does not nest too deep, and it has this value
pub record IsConstOf (names : List (List ℕ)) (records : Records) (t : ValueType) (tokens : List Tok) (value : Value) : Type 0 where
  pub const : ConstText
  pub well_formed : IsConst const
  pub spelled : const_tokens const ≡ tokens
  pub light : AreLight weight_limit [] tokens
  pub has_value : const_value names records const t ≡ Some value

-- nothing stands behind the value
abbrev pub IsAllOf : ValueFront → Value → Type 0
IsAllOf front value = (front.rest ≡ []) × (value ≡ front.value)
