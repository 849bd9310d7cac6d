-- A constant of a type at the front of tokens.
use Rattle.std.specs.Prelude.{◌≡◌, ℕ, List, ◌++◌, Some}
use Rattle.slang_values.specs.Value.{ValueType, Records, Value}
use Rattle.slang_tokens.specs.Tok.{Tok, toks}
use Rattle.slang_grammar.specs.Declarations.{ConstText, const_tokens}
use Rattle.run_values.specs.Value.{plain_value}
use Rattle.argument_rules.specs.Arguments.{IsConst}
use Rattle.argument_rules.specs.Values.{const_value}
use Rattle.argument_scalars.specs.declared.scalars.Read.{Read}

-- a value, and what stands behind its text
pub record ValueFront : Type 0 where
  pub value : Value
  pub rest : List Tok

abbrev pub value_front : Read → ValueFront
value_front read = record { value = plain_value read.value; rest = toks read.rest.now }

module _ (names : List (List ℕ)) (records : Records) where
  -- a constant of the type stands there, and has this value
  pub record IsValueFront (t : ValueType) (before : List Tok) (front : ValueFront) : Type 0 where
    pub const : ConstText
    pub well_formed : IsConst const
    pub spelled : before ≡ const_tokens const ++ front.rest
    pub has_value : const_value names records const t ≡ Some front.value
