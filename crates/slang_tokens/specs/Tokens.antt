-- The tokens of a text: the longest ones from its front on, each at its place, without the newlines that end nothing, up to
-- the first that no text holds: a character that begins none, a comment that never ends, a number of more than 127 bits, or
-- a token that nests too deep.
use Rattle.std.specs.Prelude.{◌≡◌, ◌≢◌, ℕ, ◌<◌, ◌||◌, if◌then◌else◌, List, [], ◌∷◌, ◌++◌, map, slice_range}
use Rattle.slang_lexer.specs.declared.token.Token.{Token}
use Rattle.slang_lexer.specs.declared.token.LexFault.{LexFault}
use Rattle.slang_lexer.specs.declared.token.TokenKind.{TokenKind}
use Rattle.slang_lexer.specs.declared.token.TokenKind.TheVariants as kind
use Rattle.slang_tree.specs.declared.place.Place.{Place}
use Rattle.slang_lexer.specs.Next.{IsNext, IsLexFault}
use Rattle.slang_tokens.specs.declared.read.TokensEnd.{TokensEnd}
use Rattle.slang_tokens.specs.declared.read.TokensEnd.TheVariants.{End, Fault}
use Rattle.slang_tokens.specs.Tok.{Tok, same_kind}
use Rattle.slang_tokens.specs.Places.{place_at}
use Rattle.slang_tokens.specs.Newlines.{standing}
use Rattle.slang_tokens.specs.Weights.{weight, AreLight}

abbrev pub fault : ℕ → Place → TokensEnd
fault code place = Fault (record { code = code; place = place })

-- no more tokens stand from this byte on: the text ends, or what stands next is no token
pub data IsEnd (text : List ℕ) (at : ℕ) (end : TokensEnd) : Type 0 where
  over : (token : Token) → IsNext text at token → token.kind ≡ kind.End → end ≡ End (place_at text token.start) → IsEnd text at end
  faulty : (bad : LexFault) → IsLexFault text at bad → end ≡ fault bad.code (place_at text bad.at) → IsEnd text at end

-- the tokens that follow one another from this byte on, and where they end
abbrev pub Follow : List ℕ → ℕ → List Token → TokensEnd → Type 0
Follow text at [] end = IsEnd text at end
Follow text at (token ∷ tokens) end = IsNext text at token × (token.kind ≢ kind.End) × Follow text token.end tokens end

-- a token of this kind and these bytes, which it keeps where it is a name or a number
abbrev pub token_of : TokenKind → List ℕ → Place → Tok
token_of k bytes place = record {
  kind = k;
  text = if same_kind k kind.Name || same_kind k kind.Number then bytes else [];
  place = place;
}

-- a token with its place
abbrev pub placed : List ℕ → Token → Tok
placed text token = token_of token.kind (slice_range text token.start token.end) (place_at text token.start)

-- the tokens that stand in the text, and where they end, however deep they nest
pub record AreStanding (text : List ℕ) (tokens : List Tok) (end : TokensEnd) : Type 0 where
  pub read : List Token
  pub follow : Follow text 0 read end
  pub stand : tokens ≡ standing [] (map (placed text) read)

-- how deep a text may nest
abbrev pub weight_limit : ℕ
weight_limit = 200

-- of all tokens and where these end, those before the first that nests too deep
pub data AreThoseBefore (all : List Tok) (all_end : TokensEnd) (tokens : List Tok) (end : TokensEnd) : Type 0 where
  whole : tokens ≡ all → end ≡ all_end → AreLight weight_limit [] tokens → AreThoseBefore all all_end tokens end
  heavy : (token : Tok) (more : List Tok) → all ≡ tokens ++ token ∷ more → AreLight weight_limit [] tokens
      → weight_limit < weight (tokens ++ token ∷ []) → end ≡ fault 5 token.place → AreThoseBefore all all_end tokens end

-- the tokens of the text, and where they end
pub record AreTokens (text : List ℕ) (tokens : List Tok) (end : TokensEnd) : Type 0 where
  pub all : List Tok
  pub all_end : TokensEnd
  pub stand : AreStanding text all all_end
  pub light : AreThoseBefore all all_end tokens end
