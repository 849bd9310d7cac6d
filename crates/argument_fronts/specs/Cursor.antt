-- What stands at the front of tokens.
use Rattle.std.specs.Prelude.{◌≡◌, ℕ, List, ◌∷◌}
use Rattle.std.specs.Borrow.{Bor}
use Rattle.slang_lexer.specs.declared.token.TokenKind.{TokenKind}
use Rattle.slang_tree.specs.declared.place.Place.{Place}
use Rattle.slang_tokens.specs.Tok.{Tok, sign, toks}
use Rattle.slang_tokens.specs.declared.lexeme.Lexeme.{Lexeme}
use Rattle.argument_fronts.specs.declared.cursor.Written.{Written}

abbrev pub tokens_in : Bor (List Lexeme) → List Tok
tokens_in tokens = toks tokens.now

-- behind a sign of this kind stand these tokens
abbrev pub StandBehindSign : TokenKind → List Tok → List Tok → Type 0
StandBehindSign k before after = (place : Place) × (before ≡ sign k place ∷ after)

-- the text of a token, and what stands behind it
pub record Front : Type 0 where
  pub text : List ℕ
  pub rest : List Tok

abbrev pub front_of : Written → Front
front_of written = record { text = written.text.now; rest = toks written.rest.now }

abbrev pub IsFrontOf : TokenKind → List Tok → Front → Type 0
IsFrontOf k before front = (place : Place) × (before ≡ record { kind = k; text = front.text; place = place } ∷ front.rest)
