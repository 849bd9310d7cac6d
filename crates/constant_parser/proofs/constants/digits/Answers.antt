use Rattle.std.proofs.Common.{Some, ap, ◌∙◌, sym, rules}
use mir.Syntax.{w128}
use mir.Val.{SFits}
use Rattle.std.proofs.lemmas.Int.{to_z-of_z}
use Rattle.slang_tree.specs.DeclTree as d
use Rattle.slang_tokens.specs.Tok.{tok}
use Rattle.slang_machine.specs.Declarations.{end_const}
use Rattle.token_cursor.specs.Outcome.{outcome}
use Rattle.token_cursor.specs.Gives.{ahead}
use Rattle.token_cursor.specs.Lists.{behind}
use Rattle.constant_parser.proofs.ReadConstants.{digits_read}
use Rattle.constant_parser.proofs.constants.digits.Goals as goal

pub returns-clause-reads : goal.returns-clause-reads
returns-clause-reads c = λ place around.
    let all = ahead c.args.tokens.now in
    let token = tok c.in-Some.token.now in
    let value = c.in-Some-number_of.value in
    let fits : SFits w128 value = search rules in
    digits_read place around value token (behind all) all c.in-Some.ensures c.in-Some-number_of.ensures
    ∙ ap (outcome (end_const (d.const_minus place token.place value) around)) (sym c.advance.ensures)
    ∙ ap (λ z. outcome (end_const (d.const_minus place token.place z) around) (ahead c.advance.new.self)) (sym (to_z-of_z w128 value fits))
