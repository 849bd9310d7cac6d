use Rattle.std.proofs.Common.{ap, ◌∙◌, sym}
use Rattle.std.proofs.lemmas.Result.{IfOk-weaker}
use Rattle.slang_tree.specs.StmtTree as s
use Rattle.slang_tokens.specs.Tok.{tok}
use Rattle.slang_machine.specs.States.{name_seen}
use Rattle.token_cursor.specs.Outcome.{outcome}
use Rattle.token_cursor.specs.Gives.{ahead}
use Rattle.token_cursor.proofs.Exits.{refused_as}
use Rattle.statement_parser.proofs.statements.named_by.Goals as goal

pub returns-clause-reads : goal.returns-clause-reads
returns-clause-reads c =
    IfOk-weaker c.named.result _ _ (λ made reads at.
    ap (λ n. outcome (name_seen n at) (ahead c.args.tokens.now)) (sym c.in_ok-name.ensures)
    ∙ reads at) c.named.ensures.reads

pub returns-clause-refused : goal.returns-clause-refused
returns-clause-refused c =
    refused_as c.named.result _ _ (λ due none at.
    ap (λ n. outcome (name_seen n at) (ahead c.args.tokens.now)) (sym c.in_ok-name.ensures)
    ∙ none at) c.named.ensures.refused
