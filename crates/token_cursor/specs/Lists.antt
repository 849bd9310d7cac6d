-- How a list goes on between its brackets.
use Rattle.std.specs.Prelude.{Bool, true, false, if◌then◌else◌, List, [], ◌∷◌, Option, Some, None}
use Rattle.slang_lexer.specs.declared.token.TokenKind.{TokenKind}
use Rattle.slang_tokens.specs.Tok.{Tok}
use Rattle.slang_machine.specs.States.{State}
use Rattle.slang_machine.specs.Expressions.{is}
use Rattle.token_cursor.specs.declared.stop.Due.TheVariants as due
use Rattle.token_cursor.specs.Outcome.{Outcome, outcome, stuck}

-- a token of this kind comes next
abbrev pub begins : TokenKind → List Tok → Bool
begins k [] = false
begins k (token ∷ tokens) = is k token

-- the tokens behind the next one
abbrev pub behind : List Tok → List Tok
behind [] = []
behind (token ∷ tokens) = tokens

abbrev pub first : List Tok → Option Tok
first [] = None
first (token ∷ tokens) = Some token

-- where a member or the end may come, what comes of the tokens from the member on, or behind the closing bracket
abbrev pub member_or_end : TokenKind → State → State → List Tok → Outcome
member_or_end closing member over tokens = if begins closing tokens then outcome over (behind tokens) else outcome member tokens

-- the same behind a member
abbrev pub member_end : TokenKind → TokenKind → State → State → List Tok → Outcome
member_end separator closing member over tokens =
    if begins separator tokens then member_or_end closing member over (behind tokens)
    else (if begins closing tokens then outcome over (behind tokens) else stuck tokens due.Other)
