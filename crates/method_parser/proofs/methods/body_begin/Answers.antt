use Rattle.std.proofs.Common.{refl, ◌∙◌}
use Rattle.std.proofs.lemmas.Result.{on_ok_weaker}
use Rattle.slang_lexer.specs.declared.token.TokenKind.TheVariants as kind
use Rattle.slang_machine.specs.States.{part_or_end, equals_due, begin_due}
use Rattle.token_cursor.proofs.Steps.{expects}
use Rattle.token_cursor.proofs.Exits.{passed_on, refused_as}
use Rattle.method_parser.proofs.methods.body_begin.Goals as goal

pub returns-in_err-expect-clause-refused : goal.returns-in_err-expect-clause-refused
returns-in_err-expect-clause-refused c =
    passed_on c.from_residual.result _ _ _ c.from_residual.ensures.1 c.in_err-expect.ensures.refused (λ due none draft. none (equals_due draft) (begin_due draft) (expects kind.Equals _ _ refl refl (λ token. refl)))

pub returns-clause-reads : goal.returns-clause-reads
returns-clause-reads c =
    on_ok_weaker c.expect-2.result (λ reads draft.
    c.in_ok-expect.ensures.reads (equals_due draft) (begin_due draft) (expects kind.Equals _ _ refl refl (λ token. refl))
    ∙ reads (begin_due draft) (part_or_end 0 draft) (expects kind.LeftBrace _ _ refl refl (λ token. refl))) c.expect-2.ensures.reads

pub returns-clause-refused : goal.returns-clause-refused
returns-clause-refused c =
    refused_as c.expect-2.result _ _ (λ due none draft.
    c.in_ok-expect.ensures.reads (equals_due draft) (begin_due draft) (expects kind.Equals _ _ refl refl (λ token. refl))
    ∙ none (begin_due draft) (part_or_end 0 draft) (expects kind.LeftBrace _ _ refl refl (λ token. refl))) c.expect-2.ensures.refused
