-- The front of a sequence up to its opening round bracket.
use Rattle.std.specs.Prelude.{◌≡◌, ℕ, Bool, true, false, List, ◌∷◌, ◌++◌, Option, is_some}
use Rattle.slang_lexer.specs.declared.token.TokenKind.TheVariants as kind
use Rattle.slang_tree.specs.declared.place.Place.{Place}
use Rattle.slang_values.specs.Value.{ValueType, Records}
use Rattle.slang_grammar.specs.Parts.{ElementText, element_tokens, IfWritten, IsElement, optional}
use Rattle.slang_tokens.specs.Tok.{Tok, sign, toks}
use Rattle.argument_rules.specs.Values.{is_element}
use Rattle.argument_fronts.specs.Cursor.{StandBehindSign}
use Rattle.argument_fronts.specs.Types.{StandBehindType}
use Rattle.argument_fronts.specs.Heads.{MarkedFront}
use Rattle.argument_lists.specs.declared.heads.Head.{Head}

abbrev pub head_front : Head → MarkedFront
head_front head = record { mark = head.written; rest = toks head.rest.now }

-- the word, the type of the elements, which may be left out, and the bracket
pub record IsHeadOf (names : List (List ℕ)) (records : Records) (element : ValueType) (before : List Tok) (front : MarkedFront) : Type 0 where
  pub word : Place
  pub ty : Option ElementText
  pub left : Place
  pub is_type : is_element names records ty element ≡ true
  pub well_formed : IfWritten IsElement ty
  pub is_written : front.mark ≡ is_some ty
  pub spelled : before ≡ sign kind.TypeIsz word ∷ (optional element_tokens ty ++ (sign kind.LeftParen left ∷ front.rest))

-- the same behind the word
pub record IsHeadBehind (names : List (List ℕ)) (records : Records) (element : ValueType) (before : List Tok) (front : MarkedFront) : Type 0 where
  pub ty : Option ElementText
  pub left : Place
  pub is_type : is_element names records ty element ≡ true
  pub well_formed : IfWritten IsElement ty
  pub is_written : front.mark ≡ is_some ty
  pub spelled : before ≡ optional element_tokens ty ++ (sign kind.LeftParen left ∷ front.rest)

-- the bracket alone
abbrev pub IsBareHead : List Tok → MarkedFront → Type 0
IsBareHead before front = (front.mark ≡ false) × StandBehindSign kind.LeftParen before front.rest

-- the bracket behind a type that is written, and the bracket in front of the elements
pub record IsWrittenHead (before : List Tok) (front : MarkedFront) : Type 0 where
  pub right : Place
  pub left : Place
  pub is_written : front.mark ≡ true
  pub spelled : before ≡ sign kind.RightBracket right ∷ sign kind.LeftParen left ∷ front.rest

-- the type, and what stands behind it
abbrev pub IsTypeHead : List (List ℕ) → Records → ValueType → List Tok → MarkedFront → Type 0
IsTypeHead names records element before front =
    (middle : List Tok) × StandBehindType names records element before middle × IsWrittenHead middle front
