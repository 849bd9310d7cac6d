-- The tokens of an argument: the longest ones from its front on, with blanks between them and around. It holds no newline and no comment.
use Rattle.std.specs.Prelude.{◌≡◌, ◌≢◌, ℕ, Bool, ◌||◌, ◌==◌, List, [], ◌∷◌, ◌++◌, length, map, IsTrue}
use Rattle.std.specs.List.{list_all}
use Rattle.slang_lexer.specs.declared.token.TokenKind.{TokenKind}
use Rattle.slang_lexer.specs.declared.token.TokenKind.TheVariants as kind
use Rattle.slang_lexer.specs.Scan.{IsLongestFront}
use Rattle.slang_tree.specs.declared.place.Place.{Place}
use Rattle.slang_tokens.specs.Tok.{Tok}
use Rattle.slang_tokens.specs.Tokens.{token_of}

-- a space, a tab or a carriage return
abbrev pub is_blank : ℕ → Bool
is_blank byte = byte == 32 || (byte == 9 || byte == 13)

abbrev pub AreBlanks : List ℕ → Type 0
AreBlanks bytes = IsTrue (list_all is_blank bytes)

-- a token with the blanks in front of it
pub record Word : Type 0 where
  pub blanks : List ℕ
  pub kind : TokenKind
  pub bytes : List ℕ

-- The bytes are this word and what comes behind it. No longer front of them, behind the blanks, is a token.
pub record IsFront (bytes : List ℕ) (word : Word) (rest : List ℕ) : Type 0 where
  pub spelled : bytes ≡ word.blanks ++ (word.bytes ++ rest)
  pub blanks : AreBlanks word.blanks
  pub longest : IsLongestFront (word.bytes ++ rest) word.kind (length word.bytes)
  pub no_newline : word.kind ≢ kind.Newline

-- the bytes are these words, and blanks behind them
abbrev pub AreWords : List ℕ → List Word → Type 0
AreWords bytes [] = AreBlanks bytes
AreWords bytes (word ∷ words) = (rest : List ℕ) × IsFront bytes word rest × AreWords rest words

-- An argument has no lines: all its tokens count as at one place.
abbrev pub nowhere : Place
nowhere = record { line = 1; col = 1 }

abbrev pub word_token : Word → Tok
word_token word = token_of word.kind word.bytes nowhere

abbrev pub word_tokens : List Word → List Tok
word_tokens words = map word_token words
