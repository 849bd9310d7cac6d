-- What holds of tokens that are laid out, as one statement.
use Rattle.std.specs.Prelude.{List, []}
use Rattle.std.specs.Str.{IsUtf8}
use Rattle.slang_lexer.specs.declared.token.TokenKind.{TokenKind}
use Rattle.slang_lexer.specs.declared.token.TokenKind.TheVariants as kind
use Rattle.slang_tree.specs.declared.place.Place.{Place}
use Rattle.slang_tokens.specs.declared.read.TokensEnd.TheVariants.{End}
use Rattle.slang_tokens.specs.Tok.{Tok}
use Rattle.slang_tokens.specs.Tokens.{AreStanding}
use Rattle.print_layout.specs.Pieces.{Piece, tokens_of, bytes_of}
use Rattle.moved_texts.specs.Moved.{Alike}
use Rattle.laid_tokens.specs.Laid.{Laid}

-- the bytes of these pieces are text, and their tokens are those of the pieces but for their places, up to the end
pub record HaveTheirTokens (pieces : List Piece) : Type 0 where
  pub utf8 : IsUtf8 (bytes_of pieces)
  pub tokens : List Tok
  pub end : Place
  pub standing : AreStanding (bytes_of pieces) tokens (End end)
  pub same : Alike (tokens_of pieces) tokens

abbrev pub LaidPiecesHaveTheirTokens : Type 0
LaidPiecesHaveTheirTokens = (pieces : List Piece) (last : TokenKind) → Laid [] kind.End pieces [] last → HaveTheirTokens pieces
