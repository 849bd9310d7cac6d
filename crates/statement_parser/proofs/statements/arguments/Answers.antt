use Rattle.std.proofs.Common.{[], ◌∙◌}
use Rattle.std.proofs.lemmas.Result.{IfOk-weaker}
use Rattle.slang_tree.specs.StmtTree as s
use Rattle.slang_machine.specs.States.{name_seen, call_or_end}
use Rattle.token_cursor.proofs.Exits.{passed_on, refused_as}
use Rattle.statement_parser.proofs.Lists.{call_list, reads_call}
use Rattle.statement_parser.proofs.ReadStmts.{call_due}
use Rattle.statement_parser.proofs.statements.arguments.Goals as goal

pub returns-in_err-expect-clause-refused : goal.returns-in_err-expect-clause-refused
returns-in_err-expect-clause-refused c =
    passed_on c.from_residual.result _ _ _ c.from_residual.ensures.1 c.in_err-expect.ensures.refused (λ due none written at x. none (name_seen written at) (call_or_end written [] at) (call_due written at _ x))

pub returns-clause-reads : goal.returns-clause-reads
returns-clause-reads c =
    IfOk-weaker c.exprs.result _ _ (λ made reads written at x.
    c.in_ok-expect.ensures.reads (name_seen written at) (call_or_end written [] at) (call_due written at _ x)
    ∙ reads (call_list written at) (reads_call written at)) c.exprs.ensures.reads

pub returns-clause-refused : goal.returns-clause-refused
returns-clause-refused c =
    refused_as c.exprs.result _ _ (λ due none written at x.
    c.in_ok-expect.ensures.reads (name_seen written at) (call_or_end written [] at) (call_due written at _ x)
    ∙ none (call_list written at) (reads_call written at)) c.exprs.ensures.refused
