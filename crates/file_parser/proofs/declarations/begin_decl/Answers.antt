use Rattle.std.proofs.Common.{ap, ◌∙◌, sym}
use Rattle.std.specs.Option.{option_map}
use Rattle.slang_tokens.specs.Tok.{tok}
use Rattle.slang_machine.specs.States.{top}
use Rattle.token_cursor.specs.Outcome.{outcome}
use Rattle.token_cursor.specs.Gives.{ahead}
use Rattle.token_cursor.specs.Lists.{behind}
use Rattle.token_cursor.proofs.Steps.{goes}
use Rattle.file_parser.specs.Heads.{behind_decl_head}
use Rattle.file_parser.proofs.ReadDecls.{decl_begins}
use Rattle.file_parser.proofs.declarations.begin_decl.Goals as goal

pub returns-clause-reads : goal.returns-clause-reads
returns-clause-reads c = λ done.
    let all = ahead c.args.tokens.now in
    let token = tok c.in-Some.token.now in
    let to = behind_decl_head done token c.in-Some-decl_head_of.head in
    goes (top done) to token (behind all) all c.in-Some.ensures
    (decl_begins done token ∙ ap (λ o. option_map (behind_decl_head done token) o) (sym c.in-Some-decl_head_of.ensures))
    ∙ ap (outcome to) (sym c.advance.ensures)
