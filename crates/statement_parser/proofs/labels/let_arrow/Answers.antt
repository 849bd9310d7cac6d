use Rattle.std.proofs.Common.{Some, refl, ◌∙◌}
use Rattle.std.proofs.lemmas.Result.{on_ok_weaker}
use Rattle.slang_lexer.specs.declared.token.TokenKind.TheVariants as kind
use Rattle.slang_tree.specs.StmtTree as s
use Rattle.slang_tokens.specs.Tok.{tok}
use Rattle.slang_machine.specs.States.{sub_left, let_colon, let_type, let_right, let_arrow, let_sub}
use Rattle.token_cursor.proofs.Steps.{expects}
use Rattle.token_cursor.proofs.Exits.{passed_on, refused_as}
use Rattle.statement_parser.specs.declared.steps.SubProof.{SubProof}
use Rattle.statement_parser.proofs.labels.let_arrow.Goals as goal

pub returns-in_err-expect-clause-refused : goal.returns-in_err-expect-clause-refused
returns-in_err-expect-clause-refused c =
    passed_on c.from_residual.result _ _ _ c.from_residual.ensures.1 c.in_err-expect.ensures.refused (λ due none variable at.
    none (let_colon variable at) (let_type variable at) (expects kind.Colon _ _ refl refl (λ token. refl)))

pub returns-in_err-expect-2-clause-refused : goal.returns-in_err-expect-2-clause-refused
returns-in_err-expect-2-clause-refused c =
    passed_on c.from_residual-in_err-expect-2.result _ _ _ c.from_residual-in_err-expect-2.ensures.1 c.in_err-expect-2.ensures.refused (λ due none variable at.
    c.in_ok-expect.ensures.reads (let_colon variable at) (let_type variable at) (expects kind.Colon _ _ refl refl (λ token. refl))
    ∙ none (let_type variable at) (let_right variable at) (expects kind.TypeZ _ _ refl refl (λ token. refl)))

pub returns-in_err-expect-3-clause-refused : goal.returns-in_err-expect-3-clause-refused
returns-in_err-expect-3-clause-refused c =
    passed_on c.from_residual-in_err-expect-3.result _ _ _ c.from_residual-in_err-expect-3.ensures.1 c.in_err-expect-3.ensures.refused (λ due none variable at.
    c.in_ok-expect.ensures.reads (let_colon variable at) (let_type variable at) (expects kind.Colon _ _ refl refl (λ token. refl))
    ∙ c.in_ok-expect-2.ensures.reads (let_type variable at) (let_right variable at) (expects kind.TypeZ _ _ refl refl (λ token. refl))
    ∙ none (let_right variable at) (let_arrow variable at) (expects kind.RightParen _ _ refl refl (λ token. refl)))

pub returns-in_err-expect-4-clause-refused : goal.returns-in_err-expect-4-clause-refused
returns-in_err-expect-4-clause-refused c =
    passed_on c.from_residual-in_err-expect-4.result _ _ _ c.from_residual-in_err-expect-4.ensures.1 c.in_err-expect-4.ensures.refused (λ due none variable at.
    c.in_ok-expect.ensures.reads (let_colon variable at) (let_type variable at) (expects kind.Colon _ _ refl refl (λ token. refl))
    ∙ c.in_ok-expect-2.ensures.reads (let_type variable at) (let_right variable at) (expects kind.TypeZ _ _ refl refl (λ token. refl))
    ∙ c.in_ok-expect-3.ensures.reads (let_right variable at) (let_arrow variable at) (expects kind.RightParen _ _ refl refl (λ token. refl))
    ∙ none (let_arrow variable at) (let_sub variable at) (expects kind.FatArrow _ _ refl refl (λ token. refl)))

pub returns-clause-reads : goal.returns-clause-reads
returns-clause-reads c =
    on_ok_weaker c.expect-5.result (λ reads variable at.
    c.in_ok-expect.ensures.reads (let_colon variable at) (let_type variable at) (expects kind.Colon _ _ refl refl (λ token. refl))
    ∙ c.in_ok-expect-2.ensures.reads (let_type variable at) (let_right variable at) (expects kind.TypeZ _ _ refl refl (λ token. refl))
    ∙ c.in_ok-expect-3.ensures.reads (let_right variable at) (let_arrow variable at) (expects kind.RightParen _ _ refl refl (λ token. refl))
    ∙ c.in_ok-expect-4.ensures.reads (let_arrow variable at) (let_sub variable at) (expects kind.FatArrow _ _ refl refl (λ token. refl))
    ∙ reads (let_sub variable at) (sub_left (Some variable) at) (expects kind.SubProof _ _ refl refl (λ token. refl))) c.expect-5.ensures.reads

pub returns-clause-refused : goal.returns-clause-refused
returns-clause-refused c =
    refused_as c.expect-5.result _ _ (λ due none variable at.
    c.in_ok-expect.ensures.reads (let_colon variable at) (let_type variable at) (expects kind.Colon _ _ refl refl (λ token. refl))
    ∙ c.in_ok-expect-2.ensures.reads (let_type variable at) (let_right variable at) (expects kind.TypeZ _ _ refl refl (λ token. refl))
    ∙ c.in_ok-expect-3.ensures.reads (let_right variable at) (let_arrow variable at) (expects kind.RightParen _ _ refl refl (λ token. refl))
    ∙ c.in_ok-expect-4.ensures.reads (let_arrow variable at) (let_sub variable at) (expects kind.FatArrow _ _ refl refl (λ token. refl))
    ∙ none (let_sub variable at) (sub_left (Some variable) at) (expects kind.SubProof _ _ refl refl (λ token. refl))) c.expect-5.ensures.refused
