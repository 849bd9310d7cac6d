-- The front of a record up to its opening bracket, and what stands behind a member.
use Rattle.std.specs.Prelude.{◌≡◌, ℕ, Bool, true, List, ◌∷◌, if◌then◌else◌, IsTrue}
use Rattle.slang_lexer.specs.declared.token.TokenKind.{TokenKind}
use Rattle.slang_lexer.specs.declared.token.TokenKind.TheVariants as kind
use Rattle.slang_tree.specs.declared.place.Place.{Place}
use Rattle.slang_values.specs.Value.{Records}
use Rattle.slang_grammar.specs.Parts.{is_plain}
use Rattle.slang_tokens.specs.Tok.{Tok, sign, toks}
use Rattle.argument_rules.specs.Values.{is_named}
use Rattle.argument_fronts.specs.declared.members.MemberEnd.{MemberEnd}

-- one of two cases, and what stands behind
pub record MarkedFront : Type 0 where
  pub mark : Bool
  pub rest : List Tok

abbrev pub end_front : MemberEnd → MarkedFront
end_front end = record { mark = end.over; rest = toks end.rest.now }

-- the list is over behind a round bracket, and goes on behind a comma
abbrev pub end_kind : Bool → TokenKind
end_kind over = if over then kind.RightParen else kind.Comma

abbrev pub IsEndOfMember : List Tok → MarkedFront → Type 0
IsEndOfMember before front = (place : Place) × (before ≡ sign (end_kind front.mark) place ∷ front.rest)

-- the name of the record, and the bracket
pub record IsHeadOfRecord (names : List (List ℕ)) (records : Records) (number : ℕ) (before : List Tok) (after : List Tok) : Type 0 where
  pub text : List ℕ
  pub at : Place
  pub left : Place
  pub plain : IsTrue (is_plain text)
  pub named : is_named names records number text ≡ true
  pub spelled : before ≡ record { kind = kind.Name; text = text; place = at } ∷ sign kind.LeftParen left ∷ after
