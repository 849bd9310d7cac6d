use Rattle.std.proofs.Common.{ap, ◌∙◌, sym}
use Rattle.std.specs.Option.{option_map}
use Rattle.slang_tokens.specs.Tok.{tok}
use Rattle.slang_machine.specs.States.{want_const}
use Rattle.token_cursor.specs.Outcome.{outcome}
use Rattle.token_cursor.specs.Gives.{ahead}
use Rattle.token_cursor.specs.Lists.{behind}
use Rattle.token_cursor.proofs.Steps.{goes}
use Rattle.constant_parser.specs.Constants.{behind_const_head}
use Rattle.constant_parser.proofs.Turns.{want_const_begin}
use Rattle.constant_parser.proofs.constants.begin_constant.Goals as goal

pub returns-clause-reads : goal.returns-clause-reads
returns-clause-reads c = λ around.
    let all = ahead c.args.tokens.now in
    let token = tok c.in-Some.token.now in
    let to = behind_const_head around token c.in-Some-const_head_of.head in
    goes (want_const around) to token (behind all) all c.in-Some.ensures
    (want_const_begin around token ∙ ap (option_map (behind_const_head around token)) (sym c.in-Some-const_head_of.ensures))
    ∙ ap (outcome to) (sym c.advance.ensures)
