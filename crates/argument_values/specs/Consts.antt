-- A constant of a type at the front of tokens.
use Rattle.std.specs.Prelude.{◌≡◌, ℕ, Bool, true, false, not, ◌||◌, List, ◌∷◌, ◌++◌, Some}
use Rattle.std.specs.Borrow.{Bor}
use Rattle.slang_lexer.specs.declared.token.TokenKind.TheVariants as kind
use Rattle.slang_tokens.specs.declared.lexeme.Lexeme.{Lexeme}
use Rattle.slang_tree.specs.declared.place.Place.{Place}
use Rattle.slang_values.specs.Value.{ValueType, Records, sequence, record_value, Values, no_values, value_then}
use Rattle.slang_tokens.specs.Tok.{Tok, sign, toks}
use Rattle.slang_grammar.specs.Declarations.{ConstsText, consts_tokens}
use Rattle.run_values.specs.Value.{plain_values}
use Rattle.run_values.specs.declared.value.Value.{Value as RunValue}
use Rattle.argument_rules.specs.Arguments.{AreConsts}
use Rattle.argument_lists.specs.Parts.{PartTypes, part_values}
use Rattle.argument_scalars.specs.Fronts.{ValueFront}

-- values, and what stands behind the round bracket that closes their list
pub record ValuesFront : Type 0 where
  pub values : Values
  pub rest : List Tok

-- the rest behind values that were added
abbrev pub values_front : List RunValue → Bor (List Lexeme) → ValuesFront
values_front values rest = record { values = plain_values values; rest = toks rest.now }

-- the elements of a sequence are these, and there are some where their type is not written
abbrev pub is_empty : Values → Bool
is_empty no_values = true
is_empty (value_then v vs) = false

abbrev pub IsSequenceEnd : Bool → ValueType → Values → List Tok → ValueFront → Type 0
IsSequenceEnd is_written t vs after front = (is_written || not (is_empty vs) ≡ true) × (front ≡ record { value = sequence t vs; rest = after })

-- the fields of a record are these, and there are some
abbrev pub IsRecordEnd : ℕ → Values → List Tok → ValueFront → Type 0
IsRecordEnd number vs after front = (is_empty vs ≡ false) × (front ≡ record { value = record_value number vs; rest = after })

module _ (names : List (List ℕ)) (records : Records) where
  -- constants of these types stand there, and have these values
  pub record ArePartsFront (parts : PartTypes) (before : List Tok) (front : ValuesFront) : Type 0 where
    pub consts : ConstsText
    pub right : Place
    pub well_formed : AreConsts consts
    pub spelled : before ≡ consts_tokens consts ++ sign kind.RightParen right ∷ front.rest
    pub have_values : part_values names records consts parts ≡ Some front.values
