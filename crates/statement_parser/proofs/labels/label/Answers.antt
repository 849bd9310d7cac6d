use Rattle.std.proofs.Common.{Some, ap, ◌∙◌, sym}
use Rattle.slang_tree.specs.StmtTree as s
use Rattle.slang_tokens.specs.Tok.{tok}
use Rattle.slang_machine.specs.Statements.{label_of}
use Rattle.token_cursor.specs.Outcome.{outcome}
use Rattle.token_cursor.specs.Gives.{ahead}
use Rattle.token_cursor.specs.Lists.{behind}
use Rattle.statement_parser.proofs.Reading.{label_leads}
use Rattle.statement_parser.proofs.labels.label.Goals as goal

pub returns-clause-reads : goal.returns-clause-reads
returns-clause-reads c = λ from to x.
    let all = ahead c.args.tokens.now in
    label_leads from to c.in-Some-label_of.label (tok c.in-Some.token.now) (behind all) all x c.in-Some.ensures c.in-Some-label_of.ensures
    ∙ ap (outcome (to c.in-Some-label_of.label)) (sym c.advance.ensures)
