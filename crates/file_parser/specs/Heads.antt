-- What a token begins where a declaration is due.
use Rattle.std.specs.Prelude.{true, false, if◌then◌else◌, List, [], Option, Some}
use Rattle.slang_lexer.specs.declared.token.TokenKind.TheVariants as kind
use Rattle.slang_tree.specs.DeclTree.{DeclTree}
use Rattle.slang_tokens.specs.Tok.{Tok}
use Rattle.slang_machine.specs.States.{State, path_due, global_name, at_due, naming}
use Rattle.slang_machine.specs.Expressions.{is, on}
use Rattle.file_parser.specs.declared.declarations.DeclHead.{DeclHead}
use Rattle.file_parser.specs.declared.declarations.DeclHead.TheVariants as head

abbrev pub decl_head_of : Tok → Option DeclHead
decl_head_of token =
    if is kind.Import token then Some head.Import
    else (if is kind.Val token then Some (head.Value true)
    else (if is kind.Var token then Some (head.Value false)
    else (if is kind.At token then Some head.At
    else on (is kind.Def token) head.Def)))

-- the state behind the token
abbrev pub behind_decl_head : List DeclTree → Tok → DeclHead → State
behind_decl_head done token head.Import = path_due token.place [] done
behind_decl_head done token (head.Value fixed) = global_name fixed token.place done
behind_decl_head done token head.At = at_due token.place done
behind_decl_head done token head.Def = naming done
