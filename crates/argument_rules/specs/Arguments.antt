-- Which bytes are an argument: a constant with blanks between its tokens, that does not nest too deep and whose numbers have 128 bits.
use Rattle.std.specs.Prelude.{◌≡◌, ℕ, ◌^◌, ◌&&◌, Bool, nat_le, List, [], Some, IsTrue}
use Rattle.slang_lexer.specs.Spelling.{is_number}
use Rattle.slang_lexer.specs.Next.{value_of as number_value}
use Rattle.slang_values.specs.Value.{ValueType, Records, Value}
use Rattle.slang_tokens.specs.Tokens.{weight_limit}
use Rattle.slang_tokens.specs.Weights.{AreLight}
use Rattle.slang_grammar.specs.Parts.{is_numeral, IsPlain}
use Rattle.slang_grammar.specs.Declarations.{ConstText, const_number, const_minus, const_truth, const_falsity, const_sequence, const_record, ConstsText, no_consts, last_const, const_then, const_tokens, HasConst, HasElements}
use Rattle.argument_rules.specs.Words.{Word, AreWords, word_tokens}
use Rattle.argument_rules.specs.Values.{const_value}

-- the digits behind a minus, which may be those of the least number of 128 bits
abbrev pub is_below_zero : List ℕ → Bool
is_below_zero digits = is_number digits && nat_le (number_value digits) (2 ^ 127)

abbrev mutual
  -- a constant of the text, but that the least number of 128 bits may stand in it
  pub IsConst : ConstText → Type 0
  IsConst (const_number digits place) = IsTrue (is_numeral digits)
  IsConst (const_minus minus digits place) = IsTrue (is_below_zero digits)
  IsConst (const_truth place) = Unit {0}
  IsConst (const_falsity place) = Unit {0}
  IsConst (const_sequence word ty left elements right) = HasElements ty elements × AreConsts elements
  IsConst (const_record name left parts right) = IsPlain name × HasConst parts × AreConsts parts

  pub AreConsts : ConstsText → Type 0
  AreConsts no_consts = Unit {0}
  AreConsts (last_const c) = IsConst c
  AreConsts (const_then c comma more) = IsConst c × AreConsts more

-- the bytes are this constant
pub record IsArgument (bytes : List ℕ) (const : ConstText) : Type 0 where
  pub words : List Word
  pub are_words : AreWords bytes words
  pub well_formed : IsConst const
  pub spelled : const_tokens const ≡ word_tokens words
  pub light : AreLight weight_limit [] (word_tokens words)

-- the bytes are an argument of the type and have this value
pub record IsArgumentOf (names : List (List ℕ)) (records : Records) (bytes : List ℕ) (t : ValueType) (value : Value) : Type 0 where
  pub const : ConstText
  pub is_argument : IsArgument bytes const
  pub has_value : const_value names records const t ≡ Some value
