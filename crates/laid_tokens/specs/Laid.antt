-- Tokens that are laid out as they may stand beside each other.
use Rattle.std.specs.Prelude.{◌≡◌, Bool, true, false, ◌&&◌, List, [], ◌∷◌, Some, IsTrue}
use Rattle.slang_lexer.specs.declared.token.TokenKind.{TokenKind}
use Rattle.slang_lexer.specs.declared.token.TokenKind.TheVariants as kind
use Rattle.slang_lexer.specs.Spelling.{kind_of}
use Rattle.slang_lexer.specs.Statement.{ends_statement}
use Rattle.slang_tree.specs.declared.place.Place.{Place}
use Rattle.slang_tokens.specs.Tok.{Tok}
use Rattle.slang_tokens.specs.Kinds.{groups, opens, closes}
use Rattle.slang_grammar.specs.Parts.{is_numeral}
use Rattle.slang_grammar.specs.Declarations.{datatype_token}
use Rattle.print_layout.specs.Pieces.{Gap, none, blank, Piece, piece, mark}
use Rattle.laid_tokens.specs.Kinds.{is_sign, is_word, may_break, fits, is_plain}

-- the text of a name is one, the text of a number is one of at most 127 bits, and any other token has none
pub data IsSpelled (token : Tok) : Type 0 where
  name : token.kind ≡ kind.Name → kind_of token.text ≡ Some kind.Name → IsSpelled token
  number : token.kind ≡ kind.Number → IsTrue (is_numeral token.text) → IsSpelled token
  word : is_word token.kind ≡ true → token.text ≡ [] → IsSpelled token
  sign : is_sign token.kind ≡ true → token.text ≡ [] → IsSpelled token

-- inside round or square brackets, by the brackets that are open, the innermost first: true where it is round or square
abbrev pub inside : List Bool → Bool
inside [] = false
inside (groups ∷ around) = groups

-- Pieces that stand behind a token of this kind inside these brackets, and lead to that token inside those. A newline that is a token
-- ends a statement, and what follows it begins one.
pub data Laid : List Bool → TokenKind → List Piece → List Bool → TokenKind → Type 0 where
  done : {around : List Bool} {last : TokenKind} → Laid around last [] around last
  plain : {around around' : List Bool} {last last' : TokenKind} {p : Piece} {pieces : List Piece} → is_plain p.token.kind ≡ true → IsSpelled p.token
      → fits (inside around) last p.gap p.token.kind ≡ true → Laid around p.token.kind pieces around' last' → Laid around last (p ∷ pieces) around' last'
  opening : {around around' : List Bool} {last last' : TokenKind} {p : Piece} {pieces : List Piece} → opens p.token.kind ≡ true → IsSpelled p.token
      → fits (inside around) last p.gap p.token.kind ≡ true → Laid (groups p.token.kind ∷ around) p.token.kind pieces around' last'
      → Laid around last (p ∷ pieces) around' last'
  closing : {group : Bool} {around around' : List Bool} {last last' : TokenKind} {p : Piece} {pieces : List Piece} → closes p.token.kind ≡ true
      → IsSpelled p.token
      → fits group last p.gap p.token.kind ≡ true → Laid around p.token.kind pieces around' last' → Laid (group ∷ around) last (p ∷ pieces) around' last'
  newline : {around around' : List Bool} {last last' : TokenKind} {place : Place} {pieces : List Piece} → inside around ≡ false
      → (may_break last && ends_statement last) ≡ true → Laid around kind.Newline pieces around' last'
      → Laid around last (mark none kind.Newline place ∷ pieces) around' last'
  -- `@datatype class`
  annotation : {around around' : List Bool} {last last' : TokenKind} {gap : Gap} {at datatype class : Place} {pieces : List Piece}
      → fits (inside around) last gap kind.At ≡ true → Laid around kind.Class pieces around' last'
      → Laid around last (mark gap kind.At at ∷ piece none (datatype_token datatype) ∷ mark blank kind.Class class ∷ pieces) around' last'
