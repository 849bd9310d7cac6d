-- The tokens of an argument, and how they are read from its front on.
use Rattle.std.specs.Prelude.{◌≡◌, ◌≢◌, ℕ, ◌<◌, ⊤, false, List, [], ◌∷◌, ◌++◌, length, slice_index}
use Rattle.std.specs.Global.{Vec}
use Rattle.slang_lexer.specs.declared.token.TokenKind.TheVariants as kind
use Rattle.slang_tokens.specs.declared.lexeme.Lexeme.{Lexeme}
use Rattle.slang_tokens.specs.Tok.{Tok, tok, toks}
use Rattle.argument_rules.specs.Words.{Word, is_blank, AreBlanks, AreWords, word_tokens}
use Rattle.argument_words.specs.declared.words.Found.{Found}
use Rattle.argument_words.specs.declared.words.Found.TheVariants as f

abbrev pub tokens_in : Vec Lexeme → List Tok
tokens_in tokens = toks tokens.items

-- No word is a `/`. No constant holds one, and comments begin with it.
abbrev pub HaveNoSlash : List Word → Type 0
HaveNoSlash [] = ⊤
HaveNoSlash (word ∷ words) = (word.kind ≢ kind.Slash) × HaveNoSlash words

-- the bytes are words, and these are their tokens
pub record AreTokensOf (bytes : List ℕ) (tokens : List Tok) : Type 0 where
  pub words : List Word
  pub are_words : AreWords bytes words
  pub no_slash : HaveNoSlash words
  pub are : tokens ≡ word_tokens words

-- only blanks were left out, and all of them
pub record IsBehindBlanks (bytes rest : List ℕ) : Type 0 where
  pub blanks : List ℕ
  pub are_blanks : AreBlanks blanks
  pub spelled : bytes ≡ blanks ++ rest
  pub stops : is_blank (slice_index rest 0) ≡ false

-- The tokens are one in front and those of the rest.
pub record IsWordAnd (bytes : List ℕ) (token : Tok) (rest : List ℕ) : Type 0 where
  pub joins : (more : List Tok) → AreTokensOf rest more → AreTokensOf bytes (token ∷ more)
  pub splits : (all : List Tok) → AreTokensOf bytes all → (more : List Tok) × AreTokensOf rest more × (all ≡ token ∷ more)

abbrev pub IsFound : List ℕ → Found → Type 0
IsFound bytes f.Nothing = (all : List Tok) → AreTokensOf bytes all → ⊥
IsFound bytes f.Over = AreTokensOf bytes [] × ((all : List Tok) → AreTokensOf bytes all → all ≡ [])
IsFound bytes (f.Word token rest) = IsWordAnd bytes (tok token) rest.now

abbrev pub IsShorter : List ℕ → Found → Type 0
IsShorter bytes f.Nothing = ⊤
IsShorter bytes f.Over = ⊤
IsShorter bytes (f.Word token rest) = length rest.now < length bytes
