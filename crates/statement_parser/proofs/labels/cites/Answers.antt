use Rattle.std.proofs.Common.{[], not, List, ap, ◌∙◌, sym}
use Rattle.slang_tree.specs.declared.statement.Label.{Label}
use Rattle.slang_tree.specs.StmtTree as s
use Rattle.slang_tokens.specs.Tok.{tok}
use Rattle.slang_machine.specs.States.{cite_due, step_end}
use Rattle.slang_machine.specs.Statements.{with_line}
use Rattle.token_cursor.specs.Outcome.{outcome}
use Rattle.token_cursor.specs.Gives.{ahead}
use Rattle.token_cursor.proofs.Exits.{kept_with, kept_refused}
use Rattle.statement_parser.proofs.Lists.{cites_absent, cites_open}
use Rattle.statement_parser.proofs.labels.cites.Goals as goal

pub returns-then-not-take-clause-reads : goal.returns-then-not-take-clause-reads
returns-then-not-take-clause-reads c = λ claim rule at.
    cites_absent claim rule at (ahead c.args.tokens.now) (sym c.take.ensures.found ∙ c.if-not-take.true)
    ∙ ap (outcome (step_end (with_line claim rule [] at) at.around)) (sym c.if-not-take.ensures.moved)
    ∙ ap (λ (l : List Label). outcome (step_end (with_line claim rule l at) at.around) (ahead c.take.new.self)) (sym c.new-list.ensures)

pub returns-clause-reads : goal.returns-clause-reads
returns-clause-reads c =
    kept_with c.kept.result c.add_labels-end.new.list c.add_labels-end.result _ _ c.kept.ensures c.add_labels-end.ensures.reads (λ reads claim rule at.
    cites_open claim rule at (ahead c.args.tokens.now) (sym c.take.ensures.found ∙ c.if-not-take.false)
    ∙ ap (outcome (cite_due claim rule at)) (sym c.if-not-take.ensures.moved)
    ∙ reads claim rule at)

pub returns-clause-refused : goal.returns-clause-refused
returns-clause-refused c =
    kept_refused c.kept.result c.add_labels-end.new.list c.add_labels-end.result _ _ c.kept.ensures c.add_labels-end.ensures.refused (λ due none claim rule at.
    cites_open claim rule at (ahead c.args.tokens.now) (sym c.take.ensures.found ∙ c.if-not-take.false)
    ∙ ap (outcome (cite_due claim rule at)) (sym c.if-not-take.ensures.moved)
    ∙ none claim rule at)
