use Rattle.std.proofs.Common.{refl, ◌∙◌}
use Rattle.slang_lexer.specs.declared.token.TokenKind.TheVariants as kind
use Rattle.slang_tree.specs.StmtTree as s
use Rattle.slang_tokens.specs.Tok.{tok}
use Rattle.slang_machine.specs.Open.{alone, assumed_in}
use Rattle.slang_machine.specs.States.{want, sub_left, assumed_due, assume_due, assume_left}
use Rattle.token_cursor.proofs.Steps.{expects}
use Rattle.token_cursor.proofs.Exits.{passed_on}
use Rattle.statement_parser.proofs.ReadSteps.{assumed_expected}
use Rattle.statement_parser.proofs.steps.assumed_label.Goals as goal

pub returns-in_err-expect-clause-refused : goal.returns-in_err-expect-clause-refused
returns-in_err-expect-clause-refused c =
    passed_on c.from_residual.result _ _ _ c.from_residual.ensures.1 c.in_err-expect.ensures.refused (λ due none variable at. none (sub_left variable at) (assumed_due variable at) (expects kind.LeftParen _ _ refl refl (λ token. refl)))

pub returns-in_err-assumed-clause-refused : goal.returns-in_err-assumed-clause-refused
returns-in_err-assumed-clause-refused c =
    passed_on c.from_residual-in_err-assumed.result _ _ _ c.from_residual-in_err-assumed.ensures.1 c.in_err-assumed.ensures.refused (λ due none variable at.
    c.in_ok-expect.ensures.reads (sub_left variable at) (assumed_due variable at) (expects kind.LeftParen _ _ refl refl (λ token. refl))
    ∙ none (assumed_due variable at) (λ l. assume_due variable l at) (assumed_expected variable at _))

pub returns-in_err-expect-2-clause-refused : goal.returns-in_err-expect-2-clause-refused
returns-in_err-expect-2-clause-refused c =
    passed_on c.from_residual-in_err-expect-2.result _ _ _ c.from_residual-in_err-expect-2.ensures.1 c.in_err-expect-2.ensures.refused (λ due none variable at.
    c.in_ok-expect.ensures.reads (sub_left variable at) (assumed_due variable at) (expects kind.LeftParen _ _ refl refl (λ token. refl))
    ∙ c.in_ok-assumed.ensures.reads (assumed_due variable at) (λ l. assume_due variable l at) (assumed_expected variable at _)
    ∙ none (assume_due variable c.in_ok-assumed.assumed at) (assume_left variable c.in_ok-assumed.assumed at) (expects kind.Assume _ _ refl refl (λ token. refl)))

pub returns-in_err-expect-3-clause-refused : goal.returns-in_err-expect-3-clause-refused
returns-in_err-expect-3-clause-refused c =
    passed_on c.from_residual-in_err-expect-3.result _ _ _ c.from_residual-in_err-expect-3.ensures.1 c.in_err-expect-3.ensures.refused (λ due none variable at.
    c.in_ok-expect.ensures.reads (sub_left variable at) (assumed_due variable at) (expects kind.LeftParen _ _ refl refl (λ token. refl))
    ∙ c.in_ok-assumed.ensures.reads (assumed_due variable at) (λ l. assume_due variable l at) (assumed_expected variable at _)
    ∙ c.in_ok-expect-2.ensures.reads (assume_due variable c.in_ok-assumed.assumed at) (assume_left variable c.in_ok-assumed.assumed at) (expects kind.Assume _ _ refl refl (λ token. refl))
    ∙ none (assume_left variable c.in_ok-assumed.assumed at) (want (alone (assumed_in variable c.in_ok-assumed.assumed at))) (expects kind.LeftParen _ _ refl refl (λ token. refl)))

pub returns-clause-reads : goal.returns-clause-reads
returns-clause-reads c = λ variable at.
    c.in_ok-expect.ensures.reads (sub_left variable at) (assumed_due variable at) (expects kind.LeftParen _ _ refl refl (λ token. refl))
    ∙ c.in_ok-assumed.ensures.reads (assumed_due variable at) (λ l. assume_due variable l at) (assumed_expected variable at _)
    ∙ c.in_ok-expect-2.ensures.reads (assume_due variable c.in_ok-assumed.assumed at) (assume_left variable c.in_ok-assumed.assumed at) (expects kind.Assume _ _ refl refl (λ token. refl))
    ∙ c.in_ok-expect-3.ensures.reads (assume_left variable c.in_ok-assumed.assumed at) (want (alone (assumed_in variable c.in_ok-assumed.assumed at))) (expects kind.LeftParen _ _ refl refl (λ token. refl))
