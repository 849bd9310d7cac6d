-- What a token begins where a statement is due.
use Rattle.std.specs.Prelude.{true, false, if◌then◌else◌, Option, Some, None}
use Rattle.slang_lexer.specs.declared.token.TokenKind.TheVariants as kind
use Rattle.slang_tokens.specs.Tok.{Tok}
use Rattle.slang_machine.specs.Open.{Within, in_block}
use Rattle.slang_machine.specs.States.{State, value_name, name_seen, if_left, loop_left, assert_left, steps_left}
use Rattle.slang_machine.specs.Expressions.{is, is_name, name_of, on}
use Rattle.statement_parser.specs.declared.statements.StmtHead.{StmtHead}
use Rattle.statement_parser.specs.declared.statements.StmtHead.TheVariants as head

abbrev pub stmt_head_of : Tok → Option StmtHead
stmt_head_of token =
    if is kind.Val token then Some (head.Value true)
    else (if is kind.Var token then Some (head.Value false)
    else (if is_name token then Some head.Name
    else (if is kind.If token then Some head.If
    else (if is kind.While token then Some head.While
    else (if is kind.Assert token then Some head.Assert
    else on (is kind.Deduce token) head.Deduce)))))

-- the state behind the token
abbrev pub behind_stmt_head : Within → Tok → StmtHead → State
behind_stmt_head at token (head.Value fixed) = value_name fixed token.place at
behind_stmt_head at token head.Name = name_seen (name_of token) at
behind_stmt_head at token head.If = if_left token.place (in_block at.stmts at.block)
behind_stmt_head at token head.While = loop_left token.place at
behind_stmt_head at token head.Assert = assert_left token.place at
behind_stmt_head at token head.Deduce = steps_left token.place at
