-- Which tokens end lines, open and close brackets, and count for the weight.
use Rattle.std.specs.Prelude.{Bool, ◌||◌, List, [], ◌∷◌}
use Rattle.std.specs.List.{list_any}
use Rattle.slang_lexer.specs.declared.token.TokenKind.{TokenKind}
use Rattle.slang_lexer.specs.declared.token.TokenKind.TheVariants as kind
use Rattle.slang_tokens.specs.Tok.{same_kind}

abbrev pub is_line_end : TokenKind → Bool
is_line_end k = same_kind k kind.Newline || same_kind k kind.Semicolon

abbrev pub groups : TokenKind → Bool
groups k = same_kind k kind.LeftParen || same_kind k kind.LeftBracket

abbrev pub opens : TokenKind → Bool
opens k = groups k || same_kind k kind.LeftBrace

abbrev pub closes : TokenKind → Bool
closes k = same_kind k kind.RightParen || (same_kind k kind.RightBracket || same_kind k kind.RightBrace)

-- a test stands in round brackets behind such a token
abbrev pub heads_test : TokenKind → Bool
heads_test k = same_kind k kind.If || same_kind k kind.While

-- the operators, `.` and `else`
unfoldable pub counted_kinds : List TokenKind
counted_kinds =
    kind.DoubleEquals ∷ kind.NotEquals ∷ kind.Less ∷ kind.LessOrEqual ∷ kind.Greater ∷ kind.GreaterOrEqual ∷
    kind.Plus ∷ kind.Minus ∷ kind.Star ∷ kind.Slash ∷ kind.Percent ∷ kind.Ampersand ∷ kind.DoubleAmpersand ∷
    kind.Bar ∷ kind.DoubleBar ∷ kind.Bang ∷ kind.DashArrow ∷ kind.LongDashArrow ∷ kind.LowArrow ∷
    kind.LongLowArrow ∷ kind.ColonPlus ∷ kind.Dot ∷ kind.Else ∷ []

abbrev pub is_counted : TokenKind → Bool
is_counted k = list_any (λ it. same_kind it k) counted_kinds

-- a token of this kind counts for the weight
abbrev pub counts : TokenKind → Bool
counts k = opens k || is_counted k

-- at the level of such a token the count begins again
abbrev pub begins_count : TokenKind → Bool
begins_count k = same_kind k kind.Comma || same_kind k kind.Newline
