use Rattle.std.proofs.Common.{[], true, List, map, ap, ◌∙◌, sym, subst}
use Rattle.slang_tree.specs.declared.statement.Step.{Step}
use Rattle.slang_tree.specs.StmtTree as s
use Rattle.slang_tree.specs.StmtTree.{step_tree}
use Rattle.slang_machine.specs.States.{step_due}
use Rattle.token_cursor.specs.Gives.{ahead}
use Rattle.token_cursor.proofs.Exits.{passed_on, kept_with, kept_refused}
use Rattle.statement_parser.specs.Expects.{StepsGoOn}
use Rattle.statement_parser.proofs.ReadSteps.{first_expected}
use Rattle.statement_parser.proofs.steps.steps.Goals as goal

pub returns-in_err-expect-clause-refused : goal.returns-in_err-expect-clause-refused
returns-in_err-expect-clause-refused c =
    passed_on c.from_residual.result _ _ _ c.from_residual.ensures.1 c.in_err-expect.ensures.refused (λ due none from around x. none from (step_due [] around) x)

pub returns-clause-reads : goal.returns-clause-reads
returns-clause-reads c =
    kept_with c.kept.result c.add_steps-end.new.list c.add_steps-end.result _ _ c.kept.ensures c.add_steps-end.ensures.reads (λ reads from around x.
    c.in_ok-expect.ensures.reads from (step_due [] around) x
    ∙ reads (step_due [] around) around
    (subst (λ (l : List Step). StepsGoOn true (ahead c.expect.new.self) (step_due [] around) (map step_tree l) around) (sym c.new-list.ensures)
    (first_expected around (ahead c.expect.new.self))))

pub returns-clause-refused : goal.returns-clause-refused
returns-clause-refused c =
    kept_refused c.kept.result c.add_steps-end.new.list c.add_steps-end.result _ _ c.kept.ensures c.add_steps-end.ensures.refused (λ due none from around x.
    c.in_ok-expect.ensures.reads from (step_due [] around) x
    ∙ none (step_due [] around) around
    (subst (λ (l : List Step). StepsGoOn true (ahead c.expect.new.self) (step_due [] around) (map step_tree l) around) (sym c.new-list.ensures)
    (first_expected around (ahead c.expect.new.self))))
