-- Where a newline may end a statement: by the kinds of the tokens before it and behind it.
use Rattle.std.specs.Prelude.{Bool, true, false}
use Rattle.slang_lexer.specs.declared.token.TokenKind.{TokenKind}
use Rattle.slang_lexer.specs.declared.token.TokenKind.TheVariants as kind

-- a statement can end with such a token: a name, a number, `T F Z B Unit ISZ Res`, `)`, `]` or `}`
unfoldable pub ends_statement : TokenKind → Bool
ends_statement kind.Name = true
ends_statement kind.Number = true
ends_statement kind.True = true
ends_statement kind.False = true
ends_statement kind.TypeZ = true
ends_statement kind.TypeB = true
ends_statement kind.TypeUnit = true
ends_statement kind.TypeIsz = true
ends_statement kind.Res = true
ends_statement kind.RightParen = true
ends_statement kind.RightBracket = true
ends_statement kind.RightBrace = true
ends_statement _ = false

-- a statement can begin with such a token: none of `else by , . ; : = => [ ) ] }`
unfoldable pub begins_statement : TokenKind → Bool
begins_statement kind.Else = false
begins_statement kind.By = false
begins_statement kind.Comma = false
begins_statement kind.Dot = false
begins_statement kind.Semicolon = false
begins_statement kind.Colon = false
begins_statement kind.Equals = false
begins_statement kind.FatArrow = false
begins_statement kind.LeftBracket = false
begins_statement kind.RightParen = false
begins_statement kind.RightBracket = false
begins_statement kind.RightBrace = false
begins_statement _ = true

-- such a token is a word that the language leaves out
unfoldable pub is_left_out : TokenKind → Bool
is_left_out kind.LeftOutMatch = true
is_left_out kind.LeftOutFor = true
is_left_out kind.LeftOutObject = true
is_left_out kind.LeftOutTrait = true
is_left_out kind.LeftOutAbstract = true
is_left_out kind.LeftOutSealed = true
is_left_out kind.LeftOutCase = true
is_left_out kind.LeftOutType = true
is_left_out kind.LeftOutLazy = true
is_left_out kind.LeftOutDo = true
is_left_out kind.LeftOutTry = true
is_left_out kind.LeftOutThrow = true
is_left_out kind.LeftOutNew = true
is_left_out kind.LeftOutThis = true
is_left_out kind.LeftOutSuper = true
is_left_out kind.LeftOutAssume = true
is_left_out kind.LeftOutHalt = true
is_left_out kind.LeftOutYield = true
is_left_out kind.LeftOutOverride = true
is_left_out kind.LeftOutExtends = true
is_left_out kind.LeftOutPackage = true
is_left_out kind.LeftOutEnum = true
is_left_out _ = false
