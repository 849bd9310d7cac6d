-- A token with its place, as the grammar sees it.
use Rattle.std.specs.Prelude.{ℕ, Bool, List, [], map}
use denote.Enum.Bare.{sameb}
use Rattle.slang_tree.specs.declared.place.Place.{Place}
use Rattle.slang_lexer.specs.contracts.token.TokenKind.{the_type}
use Rattle.slang_lexer.specs.declared.token.TokenKind.{TokenKind}
use Rattle.slang_tokens.specs.declared.lexeme.Lexeme.{Lexeme}

-- the text is that of a name or a number, and empty for any other token
pub record Tok : Type 0 where
  pub kind : TokenKind
  pub text : List ℕ
  pub place : Place

-- two kinds are one
abbrev pub same_kind : TokenKind → TokenKind → Bool
same_kind a b = sameb the_type a b

-- a token other than a name or a number
abbrev pub sign : TokenKind → Place → Tok
sign kind place = record { kind = kind; text = []; place = place }

-- a lexeme of the code, without where its text lies
abbrev pub tok : Lexeme → Tok
tok lexeme = record { kind = lexeme.kind; text = lexeme.text.now; place = lexeme.place }

abbrev pub toks : List Lexeme → List Tok
toks lexemes = map tok lexemes
