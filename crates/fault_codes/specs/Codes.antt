-- The fault of a token that is refused, by the tokens before it and by what may come in its place.
use Rattle.std.specs.Prelude.{ℕ, Bool, true, false, not, ◌&&◌, ◌||◌, if◌then◌else◌, nat_le, List, [], ◌∷◌}
use denote.Enum.Bare.{sameb}
use Rattle.slang_lexer.specs.declared.token.TokenKind.{TokenKind}
use Rattle.slang_lexer.specs.declared.token.TokenKind.TheVariants as kind
use Rattle.slang_lexer.specs.Statement.{is_left_out}
use Rattle.slang_tree.specs.declared.place.Place.{Place}
use Rattle.slang_tree.specs.declared.place.Fault.{Fault}
use Rattle.slang_tokens.specs.declared.read.TokensEnd.{TokensEnd}
use Rattle.slang_tokens.specs.declared.read.TokensEnd.TheVariants as tokens_end
use Rattle.slang_tokens.specs.Tok.{Tok, same_kind}
use Rattle.slang_grammar.specs.Faults.{is_word, ends_with_at, last_place, open_braces, told_bad}
use Rattle.token_cursor.specs.contracts.stop.Due.{the_type}
use Rattle.token_cursor.specs.declared.stop.Due.{Due}
use Rattle.token_cursor.specs.declared.stop.Due.TheVariants as due

abbrev pub same_due : Due → Due → Bool
same_due a b = sameb the_type a b

-- a form that the language leaves out, behind those tokens, where this may come
abbrev pub is_left_out_where : Due → List Tok → TokenKind → Bool
is_left_out_where may front k =
    is_left_out k || (same_kind k kind.Class || (ends_with_at front || ((same_kind k kind.If && same_due may due.Operand)
    || (same_kind k kind.Return && nat_le 2 (open_braces front)))))

abbrev pub code_where : Due → List Tok → TokenKind → ℕ
code_where may front k =
    if same_kind k kind.Number && same_due may due.Label then 3
    else (if same_due may due.Invariant then 13 else (if is_left_out_where may front k then 14 else 4))

-- the fault of a token of this kind there, which is at an `@` that no word follows
abbrev pub fault_where : Due → List Tok → TokenKind → Place → Fault
fault_where may front k place =
    if ends_with_at front && not (is_word k) then record { code = 4; place = last_place front place }
    else record { code = code_where may front k; place = place }

-- the fault behind those tokens, where these are left, which end so
abbrev pub fault_left : List Tok → List Tok → TokensEnd → Due → Fault
fault_left front (token ∷ rest) end may = fault_where may front token.kind token.place
fault_left front [] (tokens_end.End place) may = fault_where may front kind.End place
fault_left front [] (tokens_end.Fault bad) may = told_bad front bad

-- such a token is a number, a newline, the end, or a sign that is no operator
unfoldable pub is_mark : TokenKind → Bool
is_mark kind.End = true
is_mark kind.Number = true
is_mark kind.Newline = true
is_mark kind.LeftParen = true
is_mark kind.RightParen = true
is_mark kind.LeftBracket = true
is_mark kind.RightBracket = true
is_mark kind.LeftBrace = true
is_mark kind.RightBrace = true
is_mark kind.Comma = true
is_mark kind.Semicolon = true
is_mark kind.Colon = true
is_mark kind.Dot = true
is_mark kind.Equals = true
is_mark kind.FatArrow = true
is_mark kind.At = true
is_mark kind.TildeArrow = true
is_mark kind.Turnstile = true
is_mark kind.ForAllSign = true
is_mark kind.ExistsSign = true
is_mark kind.SubstLess = true
is_mark kind.SubstGreater = true
is_mark _ = false

-- such a token is an operator, but for those that are words
unfoldable pub is_operator : TokenKind → Bool
is_operator kind.DoubleEquals = true
is_operator kind.NotEquals = true
is_operator kind.Less = true
is_operator kind.LessOrEqual = true
is_operator kind.Greater = true
is_operator kind.GreaterOrEqual = true
is_operator kind.Plus = true
is_operator kind.Minus = true
is_operator kind.Star = true
is_operator kind.Slash = true
is_operator kind.Percent = true
is_operator kind.Ampersand = true
is_operator kind.DoubleAmpersand = true
is_operator kind.Bar = true
is_operator kind.DoubleBar = true
is_operator kind.Bang = true
is_operator kind.DashArrow = true
is_operator kind.LongDashArrow = true
is_operator kind.LowArrow = true
is_operator kind.LongLowArrow = true
is_operator kind.ColonPlus = true
is_operator _ = false
