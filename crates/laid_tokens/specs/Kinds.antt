-- Which tokens may stand beside each other, with which gaps between them, so that their bytes are read as those tokens.
use Rattle.std.specs.Prelude.{Bool, not, ◌&&◌, ◌||◌, List, [], ◌∷◌}
use Rattle.std.specs.List.{list_any}
use Rattle.slang_lexer.specs.declared.token.TokenKind.{TokenKind}
use Rattle.slang_lexer.specs.declared.token.TokenKind.TheVariants as kind
use Rattle.slang_lexer.specs.Spelling.{words}
use Rattle.slang_lexer.specs.Statement.{ends_statement, begins_statement}
use Rattle.slang_tokens.specs.Tok.{same_kind}
use Rattle.slang_tokens.specs.Kinds.{opens, closes, is_line_end}
use Rattle.print_layout.specs.Pieces.{Gap, none, blank, indent, line}

abbrev pub has : List TokenKind → TokenKind → Bool
has kinds k = list_any (λ it. same_kind it k) kinds

-- the signs with which no longer token begins
abbrev pub closed_kinds : List TokenKind
closed_kinds =
    kind.LeftParen ∷ kind.RightParen ∷ kind.Comma ∷ kind.Dot ∷ kind.LeftBrace ∷ kind.RightBrace ∷ kind.LeftBracket ∷ kind.RightBracket ∷
    kind.At ∷ kind.Newline ∷ kind.SubstLess ∷ kind.SubstGreater ∷ []

-- the signs behind which a blank stands
abbrev pub spaced_kinds : List TokenKind
spaced_kinds =
    kind.Colon ∷ kind.Equals ∷ kind.FatArrow ∷ kind.TildeArrow ∷ kind.LowArrow ∷ kind.LongLowArrow ∷ kind.Bar ∷ kind.DoubleBar ∷
    kind.Ampersand ∷ kind.DoubleAmpersand ∷ kind.DoubleEquals ∷ kind.NotEquals ∷ kind.Less ∷ kind.LessOrEqual ∷ kind.Greater ∷
    kind.GreaterOrEqual ∷ kind.ColonPlus ∷ kind.Plus ∷ kind.DashArrow ∷ kind.LongDashArrow ∷ kind.Star ∷ kind.Slash ∷ kind.Percent ∷ []

-- the signs that may be prefixes
abbrev pub prefix_kinds : List TokenKind
prefix_kinds = kind.Bang ∷ kind.Minus ∷ []

abbrev pub is_sign : TokenKind → Bool
is_sign k = has closed_kinds k || (has spaced_kinds k || has prefix_kinds k)

abbrev pub is_word : TokenKind → Bool
is_word k = list_any (λ row. same_kind row.1 k) words

-- names, numbers and words
abbrev pub is_textual : TokenKind → Bool
is_textual k = same_kind k kind.Name || (same_kind k kind.Number || is_word k)

-- the signs with which a name, a number or a word ends
abbrev pub stop_kinds : List TokenKind
stop_kinds =
    kind.LeftParen ∷ kind.RightParen ∷ kind.Comma ∷ kind.Dot ∷ kind.Colon ∷ kind.LeftBracket ∷ kind.RightBracket ∷ kind.Newline ∷ []

-- the tokens that may begin an operand
abbrev pub starter_kinds : List TokenKind
starter_kinds =
    kind.Name ∷ kind.Number ∷ kind.True ∷ kind.False ∷ kind.Res ∷ kind.In ∷ kind.Old ∷ kind.TypeIsz ∷ kind.All ∷ kind.Exists ∷
    kind.LeftParen ∷ kind.Bang ∷ kind.Minus ∷ []

-- nothing needs to stand between two tokens of these kinds: the beginning of a text goes as a token of the kind of its end
abbrev pub may_touch : TokenKind → TokenKind → Bool
may_touch last k =
    same_kind last kind.End || (has closed_kinds last || ((is_textual last && has stop_kinds k) || (has prefix_kinds last && has starter_kinds k)))

-- a line may end behind such a token
abbrev pub may_break : TokenKind → Bool
may_break last = has closed_kinds last || is_textual last

-- a line that is a token of its own may begin with such a token
abbrev pub may_begin_line : TokenKind → Bool
may_begin_line k = begins_statement k && not (same_kind k kind.LeftBrace)

-- What follows the last token lets the gap stand before a token of this kind. The newline of a line is no token: it stands inside round
-- or square brackets, or ends nothing, or begins nothing, or stands behind a newline that is one.
abbrev pub fits : Bool → TokenKind → Gap → TokenKind → Bool
fits inside last none k = may_touch last k && (not (same_kind last kind.Newline) || may_begin_line k)
fits inside last blank k = not (same_kind last kind.Newline)
fits inside last (indent depth) k = same_kind last kind.Newline && may_begin_line k
fits inside last (line depth) k =
    may_break last && ((same_kind last kind.Newline && may_begin_line k) || (not (same_kind last kind.Newline)
    && (inside || (not (ends_statement last) || not (begins_statement k)))))

-- neither a bracket nor the end of a line, nor the `@` behind which another rule for newlines holds
abbrev pub is_plain : TokenKind → Bool
is_plain k = not (opens k) && (not (closes k) && (not (is_line_end k) && not (same_kind k kind.At)))
