use Rattle.std.proofs.Common.{refl, ◌∙◌}
use Rattle.std.proofs.lemmas.Result.{on_ok_weaker}
use Rattle.slang_lexer.specs.declared.token.TokenKind.TheVariants as kind
use Rattle.slang_machine.specs.States.{clauses_due, clause_or_end}
use Rattle.token_cursor.proofs.Steps.{expects}
use Rattle.token_cursor.proofs.Exits.{passed_on, refused_as}
use Rattle.method_parser.specs.Bodies.{draft_of}
use Rattle.method_parser.proofs.bodies.contract.Goals as goal

pub returns-in_err-expect-clause-refused : goal.returns-in_err-expect-clause-refused
returns-in_err-expect-clause-refused c =
    passed_on c.from_residual.result _ _ _ c.from_residual.ensures.1 c.in_err-expect.ensures.refused (λ due none done. none (clauses_due (draft_of done c.args.method.now)) (clause_or_end 0 (draft_of done c.args.method.now)) (expects kind.LeftParen _ _ refl refl (λ token. refl)))

pub returns-clause-reads : goal.returns-clause-reads
returns-clause-reads c =
    on_ok_weaker c.clauses.result (λ reads done.
    c.in_ok-expect.ensures.reads (clauses_due (draft_of done c.args.method.now)) (clause_or_end 0 (draft_of done c.args.method.now)) (expects kind.LeftParen _ _ refl refl (λ token. refl))
    ∙ reads done) c.clauses.ensures.reads

pub returns-clause-refused : goal.returns-clause-refused
returns-clause-refused c =
    refused_as c.clauses.result _ _ (λ due none done.
    c.in_ok-expect.ensures.reads (clauses_due (draft_of done c.args.method.now)) (clause_or_end 0 (draft_of done c.args.method.now)) (expects kind.LeftParen _ _ refl refl (λ token. refl))
    ∙ none done) c.clauses.ensures.refused
