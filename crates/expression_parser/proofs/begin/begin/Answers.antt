use Rattle.std.proofs.Common.{ap, ◌∙◌, sym}
use Rattle.std.specs.Option.{option_map}
use Rattle.slang_tokens.specs.Tok.{tok}
use Rattle.slang_machine.specs.States.{want}
use Rattle.token_cursor.specs.Outcome.{outcome}
use Rattle.token_cursor.specs.Gives.{ahead}
use Rattle.token_cursor.specs.Lists.{behind}
use Rattle.expression_parser.specs.Begins.{behind_begin}
use Rattle.token_cursor.proofs.Steps.{goes}
use Rattle.expression_parser.proofs.Beginnings.{want_begin}
use Rattle.expression_parser.proofs.begin.begin.Goals as goal

pub returns-clause-reads : goal.returns-clause-reads
returns-clause-reads c = λ around.
    let all = ahead c.args.tokens.now in
    let token = tok c.in-Some.token.now in
    let to = behind_begin around token c.in-Some-begin_of.begin in
    goes (want around) to token (behind all) all c.in-Some.ensures
    (want_begin around token ∙ ap (option_map (behind_begin around token)) (sym c.in-Some-begin_of.ensures))
    ∙ ap (outcome to) (sym c.advance.ensures)
