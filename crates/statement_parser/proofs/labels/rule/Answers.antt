use Rattle.std.proofs.Common.{Some, map, ap, ◌∙◌, sym}
use Rattle.std.specs.Option.{option_map}
use Rattle.slang_tree.specs.StmtTree as s
use Rattle.slang_tokens.specs.Tok.{tok}
use Rattle.slang_machine.specs.States.{rule_due, cites_or_end}
use Rattle.token_cursor.specs.Outcome.{outcome}
use Rattle.token_cursor.specs.Gives.{ahead}
use Rattle.token_cursor.specs.Lists.{behind}
use Rattle.token_cursor.proofs.Steps.{goes}
use Rattle.statement_parser.proofs.labels.rule.Goals as goal

pub returns-clause-reads : goal.returns-clause-reads
returns-clause-reads c = λ claim at.
    let all = ahead c.args.tokens.now in
    let token = tok c.in-Some.token.now in
    let to = cites_or_end claim c.in-Some-found.rule at in
    goes (rule_due claim at) to token (behind all) all c.in-Some.ensures
    (ap (λ o. option_map (λ r. cites_or_end claim r at) o) (sym c.in_ok-found.ensures ∙ c.in-Some-found.is))
    ∙ ap (outcome to) (sym c.advance.ensures)
