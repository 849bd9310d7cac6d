-- The token that stands next in a text, or the fault in its place.
use Rattle.std.specs.Prelude.{◌≡◌, ◌≢◌, ℕ, ◌^◌, ◌<◌, ◌≤◌, ◌⊎◌, List, length, slice_range, None}
use Rattle.std.specs.Str.{IsCharBoundary}
use Rattle.std.specs.Str.Parse.{digits_value}
use Rattle.slang_lexer.specs.declared.token.Token.{Token}
use Rattle.slang_lexer.specs.declared.token.LexFault.{LexFault}
use Rattle.slang_lexer.specs.declared.token.TokenKind.TheVariants as kind
use Rattle.slang_lexer.specs.Spelling.{kind_of, Spells, IsName, IsNumber}
use Rattle.slang_lexer.specs.Comment.{Skips, Reaches, IsOpenComment}

-- the bytes of a token
abbrev pub bytes_of : List ℕ → Token → List ℕ
bytes_of text token = slice_range text token.start token.end

-- nothing that begins at start and ends behind end is one token
abbrev pub NoneEndsBehind : List ℕ → ℕ → ℕ → Type 0
NoneEndsBehind text start end = (longer : ℕ) → end < longer → longer ≤ length text → kind_of (slice_range text start longer) ≡ None

-- the token stands in the text, and no longer one begins where it does
pub record IsLongest (text : List ℕ) (token : Token) : Type 0 where
  pub nonempty : token.start < token.end
  pub fits : token.end ≤ length text
  pub spells : Spells token.kind (bytes_of text token)
  pub longest : NoneEndsBehind text token.start token.end

-- the token is the end of the text
pub record IsEnd (text : List ℕ) (token : Token) : Type 0 where
  pub kind : token.kind ≡ kind.End
  pub start : token.start ≡ length text
  pub end : token.end ≡ length text

-- the value of a number's digits, and the bound below which it stays
abbrev pub value_of : List ℕ → ℕ
value_of digits = digits_value 10 digits

abbrev pub IsWithinLimit : List ℕ → Type 0
IsWithinLimit digits = value_of digits < 2 ^ 127

-- behind blanks and comments from the place at on, this token stands
pub record IsNext (text : List ℕ) (at : ℕ) (token : Token) : Type 0 where
  pub reached : Reaches text at token.start
  pub read : IsEnd text token ⊎ IsLongest text token
  pub small : token.kind ≡ kind.Number → IsWithinLimit (bytes_of text token)

-- how a token lies in a text: between characters, and empty only at the end of the text
pub record IsTokenPlace (text : List ℕ) (at : ℕ) (token : Token) : Type 0 where
  pub begins : at ≤ token.start
  pub ordered : token.start ≤ token.end
  pub fits : token.end ≤ length text
  pub cuts_start : IsCharBoundary text token.start
  pub cuts_end : IsCharBoundary text token.end
  pub grows : token.kind ≢ kind.End → token.start < token.end
  pub ends : token.kind ≡ kind.End → IsEnd text token

-- how a fault lies in a text: at a character of it
pub record IsFaultPlace (text : List ℕ) (at : ℕ) (fault : LexFault) : Type 0 where
  pub begins : at ≤ fault.at
  pub fits : fault.at < length text
  pub cuts : IsCharBoundary text fault.at

-- no token begins at the place, but for the end of the text
pub record IsBadCharacter (text : List ℕ) (at : ℕ) : Type 0 where
  pub fits : at < length text
  pub nothing : NoneEndsBehind text at at

-- a number that begins at the place is too large
pub record IsTooLarge (text : List ℕ) (start : ℕ) : Type 0 where
  pub end : ℕ
  pub read : IsLongest text (record { kind = kind.Number; start = start; end = end })
  pub large : 2 ^ 127 ≤ value_of (slice_range text start end)

-- behind blanks and comments from the place at on, this fault stands
pub data IsLexFault (text : List ℕ) (at : ℕ) (fault : LexFault) : Type 0 where
  open_comment : fault.code ≡ 2 → Skips text at fault.at → IsOpenComment text fault.at → IsLexFault text at fault
  bad_character : fault.code ≡ 2 → Reaches text at fault.at → IsBadCharacter text fault.at → IsLexFault text at fault
  too_large : fault.code ≡ 3 → Reaches text at fault.at → IsTooLarge text fault.at → IsLexFault text at fault

-- what stands next is one thing
abbrev pub NextIsOne : Type 0
NextIsOne = (text : List ℕ) (at : ℕ) (a b : Token) → IsNext text at a → IsNext text at b → a ≡ b

abbrev pub FaultIsOne : Type 0
FaultIsOne = (text : List ℕ) (at : ℕ) (a b : LexFault) → IsLexFault text at a → IsLexFault text at b → a ≡ b

abbrev pub NextIsNoFault : Type 0
NextIsNoFault = (text : List ℕ) (at : ℕ) (token : Token) (fault : LexFault) → IsNext text at token → IsLexFault text at fault → ⊥

-- what stands next spells its kind
pub record IsSpelled (text : List ℕ) (token : Token) : Type 0 where
  pub spells : token.kind ≢ kind.End → Spells token.kind (bytes_of text token)
  pub name : token.kind ≡ kind.Name → IsName (bytes_of text token)
  pub number : token.kind ≡ kind.Number → IsNumber (bytes_of text token)

abbrev pub NextIsSpelled : Type 0
NextIsSpelled = (text : List ℕ) (at : ℕ) (token : Token) → IsNext text at token → IsSpelled text token
