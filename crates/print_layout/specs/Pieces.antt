-- Tokens that are laid out: what stands before each, and how it is spelled.
use Rattle.std.specs.Prelude.{ℕ, ◌*◌, ◌||◌, if◌then◌else◌, List, [], ◌∷◌, ◌++◌, map, replicate, flat_map, Option, Some, None}
use Rattle.slang_lexer.specs.declared.token.TokenKind.{TokenKind}
use Rattle.slang_lexer.specs.declared.token.TokenKind.TheVariants as kind
use Rattle.slang_lexer.specs.Spelling.{Table, signs, words}
use Rattle.slang_tree.specs.declared.place.Place.{Place}
use Rattle.slang_tokens.specs.Tok.{Tok, same_kind, sign}

-- what stands before a token: nothing, a blank, or at the beginning of a line two blanks for each level
pub data Gap : Type 0 where
  none : Gap
  blank : Gap
  -- behind a token that is a newline
  indent : (depth : ℕ) → Gap
  -- behind a newline that is no token, since it ends nothing or stands behind another
  line : (depth : ℕ) → Gap

pub record Piece : Type 0 where
  pub gap : Gap
  pub token : Tok

abbrev pub piece : Gap → Tok → Piece
piece gap token = record { gap = gap; token = token }

-- a token other than a name or a number
abbrev pub mark : Gap → TokenKind → Place → Piece
mark gap k place = piece gap (sign k place)

abbrev pub tokens_of : List Piece → List Tok
tokens_of pieces = map (λ it. it.token) pieces

-- ---- lists

-- Members with a separator behind each, but for the last, where it may be missing. How a member is laid out may hang on the one before it.
abbrev pub listed_pieces : {A : Type 0} → TokenKind → (Option A → A → List Piece) → Option A → List (A × Place) → Option A → List Piece
listed_pieces separator pieces_of before [] None = []
listed_pieces separator pieces_of before [] (Some last) = pieces_of before last
listed_pieces separator pieces_of before (member ∷ more) last =
    pieces_of before member.0 ++ mark none separator member.1 ∷ listed_pieces separator pieces_of (Some member.0) more last

-- the gap before a member: one before the first, and another before each that follows
abbrev pub gap_before : {A : Type 0} → Gap → Gap → Option A → Gap
gap_before first next None = first
gap_before first next (Some before) = next

-- ---- bytes

abbrev pub gap_bytes : Gap → List ℕ
gap_bytes none = []
gap_bytes blank = 32 ∷ []
gap_bytes (indent depth) = replicate (2 * depth) 32
gap_bytes (line depth) = 10 ∷ replicate (2 * depth) 32

abbrev pub spelled_in : Table → TokenKind → List ℕ
spelled_in [] k = []
spelled_in (entry ∷ table) k = if same_kind entry.1 k then entry.0 else spelled_in table k

-- a name and a number are spelled as their text, and any other token has one spelling
abbrev pub spelling : Tok → List ℕ
spelling token = if same_kind token.kind kind.Name || same_kind token.kind kind.Number then token.text else spelled_in (signs ++ words) token.kind

abbrev pub bytes_of : List Piece → List ℕ
bytes_of pieces = flat_map (λ it. gap_bytes it.gap ++ spelling it.token) pieces
