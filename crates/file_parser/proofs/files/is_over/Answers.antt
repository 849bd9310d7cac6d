use Rattle.slang_tokens.specs.Tok.{tok}
use Rattle.token_cursor.specs.Gives.{ahead}
use Rattle.token_cursor.specs.Lists.{behind}
use Rattle.file_parser.proofs.ReadDecls.{has_one}
use Rattle.file_parser.proofs.files.is_over.Goals as goal

pub returns-in-Some : goal.returns-in-Some
returns-in-Some c = has_one (tok c.in-Some.field-0.now) (behind (ahead c.args.tokens.now)) (ahead c.args.tokens.now) c.in-Some.ensures
