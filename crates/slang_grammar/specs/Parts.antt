-- Lists, names, numbers and types of the text. Each part is accounted for with the place of each of its tokens, and an account
-- says both how the part is spelled and which tree it has.
use Rattle.std.specs.Prelude.{ℕ, ◌<◌, ◌^◌, Bool, not, ◌&&◌, nat_lt, List, [], ◌∷◌, ◌++◌, length, map, Option, Some, None, option_to_list, IsTrue, codes}
use Rattle.std.specs.Str.{bytes_eq}
use Rattle.slang_lexer.specs.declared.token.TokenKind.{TokenKind}
use Rattle.slang_lexer.specs.declared.token.TokenKind.TheVariants as kind
use Rattle.slang_lexer.specs.Spelling.{is_number}
use Rattle.slang_lexer.specs.Next.{value_of as number_value}
use Rattle.slang_tree.specs.declared.place.Place.{Place}
use Rattle.slang_tree.specs.declared.expression.Name.{Name}
use Rattle.slang_tree.specs.declared.statement.Label.{Label}
use Rattle.slang_tree.specs.TypeTree.{TypeTree, z_name, b_name, unit_name, sequence_name, record_name}
use Rattle.slang_tokens.specs.Tok.{Tok, sign}

-- Lists.

-- members with a separator behind each, but for the last, where it may be missing
pub record Listed (A : Type 0) : Type 0 where
  pub front : List (A × Place)
  pub last : Option A

abbrev pub members : {A : Type 0} → Listed A → List A
members list = map (λ member. member.0) list.front ++ option_to_list list.last

-- how the members are spelled, each with the separator behind it
abbrev pub separated : {A : Type 0} → TokenKind → (A → List Tok) → List (A × Place) → List Tok
separated separator tokens_of [] = []
separated separator tokens_of (member ∷ more) = tokens_of member.0 ++ sign separator member.1 ∷ separated separator tokens_of more

abbrev pub optional : {A : Type 0} → (A → List Tok) → Option A → List Tok
optional tokens_of None = []
optional tokens_of (Some part) = tokens_of part

abbrev pub listed : {A : Type 0} → TokenKind → (A → List Tok) → Listed A → List Tok
listed separator tokens_of list = separated separator tokens_of list.front ++ optional tokens_of list.last

-- a list has a member
abbrev pub HasMember : {A : Type 0} → Listed A → Type 0
HasMember list = 0 < length (members list)

-- Names.

-- only an import may hold the name `_`
abbrev pub is_plain : List ℕ → Bool
is_plain text = not (bytes_eq text (codes "_"))

abbrev pub name_token : Name → Tok
name_token written = record { kind = kind.Name; text = written.text; place = written.place }

abbrev pub IsPlain : Name → Type 0
IsPlain written = IsTrue (is_plain written.text)

-- names in round brackets, parted by commas
pub record NamesText : Type 0 where
  pub left : Place
  pub names : Listed Name
  pub right : Place

abbrev pub one_name : Name → List Tok
one_name written = name_token written ∷ []

abbrev pub names_tokens : NamesText → List Tok
names_tokens n = sign kind.LeftParen n.left ∷ listed kind.Comma one_name n.names ++ sign kind.RightParen n.right ∷ []

-- Numbers.

-- decimal digits whose value has at most 127 bits
abbrev pub is_numeral : List ℕ → Bool
is_numeral digits = is_number digits && nat_lt (number_value digits) (2 ^ 127)

abbrev pub number_token : List ℕ → Place → Tok
number_token digits place = record { kind = kind.Number; text = digits; place = place }

-- the label of a step
pub record LabelText : Type 0 where
  pub digits : List ℕ
  pub place : Place

abbrev pub label_token : LabelText → Tok
label_token l = number_token l.digits l.place

-- a label has at most 32 bits
abbrev pub is_label : List ℕ → Bool
is_label digits = is_numeral digits && nat_lt (number_value digits) (2 ^ 32)

abbrev pub IsLabel : LabelText → Type 0
IsLabel l = IsTrue (is_label l.digits)

abbrev pub label_tree : LabelText → Label
label_tree l = record { place = l.place; number = number_value l.digits }

-- Types.

pub data TypeText : Type 0 where
  z_type : Place → TypeText
  b_type : Place → TypeText
  unit_type : Place → TypeText
  -- `ISZ[element]`
  sequence_type : (word left : Place) → TypeText → (right : Place) → TypeText
  record_type : Name → TypeText

abbrev pub type_tokens : TypeText → List Tok
type_tokens (z_type place) = sign kind.TypeZ place ∷ []
type_tokens (b_type place) = sign kind.TypeB place ∷ []
type_tokens (unit_type place) = sign kind.TypeUnit place ∷ []
type_tokens (sequence_type word left element right) =
    sign kind.TypeIsz word ∷ sign kind.LeftBracket left ∷ type_tokens element ++ sign kind.RightBracket right ∷ []
type_tokens (record_type written) = name_token written ∷ []

abbrev pub IsType : TypeText → Type 0
IsType (z_type place) = Unit {0}
IsType (b_type place) = Unit {0}
IsType (unit_type place) = Unit {0}
IsType (sequence_type word left element right) = IsType element
IsType (record_type written) = IsPlain written

abbrev pub type_tree : TypeText → TypeTree
type_tree (z_type place) = z_name place
type_tree (b_type place) = b_name place
type_tree (unit_type place) = unit_name place
type_tree (sequence_type word left element right) = sequence_name word (type_tree element)
type_tree (record_type written) = record_name written

-- a fact of a part that may be left out
abbrev pub IfWritten : {A : Type 0} → (A → Type 0) → Option A → Type 0
IfWritten P None = Unit {0}
IfWritten P (Some part) = P part

-- `: type`
pub record TypedText : Type 0 where
  pub colon : Place
  pub ty : TypeText

abbrev pub typed_tokens : TypedText → List Tok
typed_tokens t = sign kind.Colon t.colon ∷ type_tokens t.ty

abbrev pub IsTyped : TypedText → Type 0
IsTyped t = IsType t.ty

abbrev pub typed_tree : TypedText → TypeTree
typed_tree t = type_tree t.ty

-- `[type]`
pub record ElementText : Type 0 where
  pub left : Place
  pub ty : TypeText
  pub right : Place

abbrev pub element_tokens : ElementText → List Tok
element_tokens t = sign kind.LeftBracket t.left ∷ type_tokens t.ty ++ sign kind.RightBracket t.right ∷ []

abbrev pub IsElement : ElementText → Type 0
IsElement t = IsType t.ty

abbrev pub element_tree : ElementText → TypeTree
element_tree t = type_tree t.ty
