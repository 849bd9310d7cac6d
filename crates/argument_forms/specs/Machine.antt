-- A constant read token by token: what may stand next, and what then may stand behind it.
use Rattle.std.specs.Prelude.{◌≤◌, ◌==◌, ℕ, zero, suc, Bool, true, false, ◌&&◌, if◌then◌else◌, List, [], ◌∷◌, length, Option, Some, None}
use Rattle.slang_lexer.specs.declared.token.TokenKind.{TokenKind}
use Rattle.slang_lexer.specs.declared.token.TokenKind.TheVariants as kind
use Rattle.slang_tokens.specs.Tok.{Tok, same_kind}
use Rattle.slang_grammar.specs.Parts.{is_numeral, is_plain}
use Rattle.argument_rules.specs.Arguments.{is_below_zero}
use Rattle.argument_forms.specs.declared.states.Due.{Due}
use Rattle.argument_forms.specs.declared.states.Due.TheVariants as due
use Rattle.argument_forms.specs.declared.states.State.{State}

-- Tokens.

abbrev pub is_sign : TokenKind → Tok → Bool
is_sign k token = same_kind token.kind k && (length token.text == 0)

abbrev pub is_name : Tok → Bool
is_name token = same_kind token.kind kind.Name && is_plain token.text

abbrev pub is_digits : Tok → Bool
is_digits token = same_kind token.kind kind.Number && is_numeral token.text

abbrev pub is_digits_below_zero : Tok → Bool
is_digits_below_zero token = same_kind token.kind kind.Number && is_below_zero token.text

-- What may stand next, within so many lists.

abbrev pub at : Due → ℕ → State
at d lists = record { due = d; lists = lists; squares = 0 }

-- The same in a type, within so many square brackets of types inside it.
abbrev pub in_type : Due → ℕ → ℕ → State
in_type d lists squares = record { due = d; lists = lists; squares = squares }

abbrev pub on : Bool → State → Option State
on test state = if test then Some state else None

-- one less, where there is one
abbrev pub below : ℕ → Option ℕ
below zero = None
below (suc n) = Some n

-- behind the end of a list
abbrev pub close : Option ℕ → Option State
close None = None
close (Some n) = Some (at due.Behind n)

-- behind a comma of a list
abbrev pub next_member : Option ℕ → ℕ → Option State
next_member None lists = None
next_member (Some n) lists = Some (at due.Member lists)

-- behind the square bracket that closes a type
abbrev pub close_type : Option ℕ → ℕ → State
close_type None lists = at due.Listed lists
close_type (Some n) lists = in_type due.BehindType lists n

-- behind the first token of a constant
abbrev pub begin : ℕ → Tok → Option State
begin lists token =
    if is_digits token then Some (at due.Behind lists)
    else (if is_sign kind.Minus token then Some (at due.Digits lists)
    else (if is_sign kind.True token then Some (at due.Behind lists)
    else (if is_sign kind.False token then Some (at due.Behind lists)
    else (if is_sign kind.TypeIsz token then Some (at due.Elements lists)
    else on (is_name token) (at due.Fields lists)))))

-- behind the first token of a type
abbrev pub begin_type : ℕ → ℕ → Tok → Option State
begin_type lists squares token =
    if is_sign kind.TypeZ token then Some (in_type due.BehindType lists squares)
    else (if is_sign kind.TypeB token then Some (in_type due.BehindType lists squares)
    else (if is_sign kind.TypeUnit token then Some (in_type due.BehindType lists squares)
    else (if is_sign kind.TypeIsz token then Some (in_type due.Square lists squares)
    else on (is_name token) (in_type due.BehindType lists squares))))

-- behind the end of a list or the first token of a constant
abbrev pub member : ℕ → Tok → Option State
member lists token = if is_sign kind.RightParen token then close (below lists) else begin lists token

-- behind the bracket of the elements, or of the type of them
abbrev pub elements : ℕ → Tok → Option State
elements lists token =
    if is_sign kind.LeftParen token then Some (at due.Constant (suc lists))
    else on (is_sign kind.LeftBracket token) (at due.Written lists)

-- behind the comma or the bracket that stands behind a constant
abbrev pub behind : ℕ → Tok → Option State
behind lists token =
    if is_sign kind.Comma token then next_member (below lists) lists
    else (if is_sign kind.RightParen token then close (below lists) else None)

-- what may stand behind a token
abbrev pub next : Due → ℕ → ℕ → Tok → Option State
next due.Constant lists squares token = begin lists token
next due.Member lists squares token = member lists token
next due.Digits lists squares token = on (is_digits_below_zero token) (at due.Behind lists)
next due.Fields lists squares token = on (is_sign kind.LeftParen token) (at due.Constant (suc lists))
next due.Elements lists squares token = elements lists token
next due.Written lists squares token = begin_type lists squares token
next due.Square lists squares token = on (is_sign kind.LeftBracket token) (in_type due.Written lists (suc squares))
next due.BehindType lists squares token = on (is_sign kind.RightBracket token) (close_type (below squares) lists)
next due.Listed lists squares token = on (is_sign kind.LeftParen token) (at due.Member (suc lists))
next due.Behind lists squares token = behind lists token

abbrev pub step : Option State → Tok → Option State
step None token = None
step (Some state) token = next state.due state.lists state.squares token

-- what may stand behind these tokens
abbrev pub walk : Option State → List Tok → Option State
walk state [] = state
walk state (token ∷ tokens) = walk (step state token) tokens

-- a constant is due
abbrev pub begins : Option State
begins = Some (at due.Constant 0)

-- a constant stands there whole
abbrev pub is_behind : Due → Bool
is_behind due.Behind = true
is_behind d = false

abbrev pub is_whole : Option State → Bool
is_whole None = false
is_whole (Some state) = is_behind state.due && (state.lists == 0)

-- Its lists and its square brackets are at most one more than those of the other.
pub record IsNear (before after : State) : Type 0 where
  pub lists : after.lists ≤ suc before.lists
  pub squares : after.squares ≤ suc before.squares
