use Rattle.std.proofs.Common.{[], refl, ◌∙◌}
use Rattle.std.proofs.lemmas.Result.{IfOk-weaker}
use Rattle.slang_lexer.specs.declared.token.TokenKind.TheVariants as kind
use Rattle.slang_tree.specs.StmtTree as s
use Rattle.slang_tokens.specs.Tok.{tok}
use Rattle.slang_machine.specs.Open.{alone, clause_claim}
use Rattle.slang_machine.specs.States.{want, claims_due}
use Rattle.token_cursor.proofs.Steps.{expects}
use Rattle.token_cursor.proofs.Exits.{passed_on, refused_as}
use Rattle.statement_parser.proofs.Lists.{claim_list, reads_claims}
use Rattle.statement_parser.proofs.clauses.claims.Goals as goal

pub returns-in_err-expect-clause-refused : goal.returns-in_err-expect-clause-refused
returns-in_err-expect-clause-refused c =
    passed_on c.from_residual.result _ _ _ c.from_residual.ensures.1 c.in_err-expect.ensures.refused (λ due none word draft. none (claims_due word draft) (want (alone (clause_claim word [] draft))) (expects kind.LeftParen _ _ refl refl (λ token. refl)))

pub returns-clause-reads : goal.returns-clause-reads
returns-clause-reads c =
    IfOk-weaker c.exprs.result _ _ (λ made reads word draft.
    c.in_ok-expect.ensures.reads (claims_due word draft) (want (alone (clause_claim word [] draft))) (expects kind.LeftParen _ _ refl refl (λ token. refl))
    ∙ reads (claim_list word draft) (reads_claims word draft)) c.exprs.ensures.reads

pub returns-clause-refused : goal.returns-clause-refused
returns-clause-refused c =
    refused_as c.exprs.result _ _ (λ due none word draft.
    c.in_ok-expect.ensures.reads (claims_due word draft) (want (alone (clause_claim word [] draft))) (expects kind.LeftParen _ _ refl refl (λ token. refl))
    ∙ none (claim_list word draft) (reads_claims word draft)) c.exprs.ensures.refused
