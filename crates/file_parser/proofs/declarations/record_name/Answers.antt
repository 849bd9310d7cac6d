use Rattle.std.proofs.Common.{refl, ◌∙◌}
use Rattle.std.proofs.lemmas.Result.{IfOk-weaker}
use Rattle.slang_lexer.specs.declared.token.TokenKind.TheVariants as kind
use Rattle.slang_machine.specs.States.{class_due, record_name_due, fields_due}
use Rattle.token_cursor.proofs.Steps.{expects, expects_name}
use Rattle.token_cursor.proofs.Exits.{passed_on, refused_as}
use Rattle.file_parser.proofs.declarations.record_name.Goals as goal

pub returns-in_err-datatype-clause-refused : goal.returns-in_err-datatype-clause-refused
returns-in_err-datatype-clause-refused c =
    passed_on c.from_residual.result _ _ _ c.from_residual.ensures.1 c.in_err-datatype.ensures.refused (λ due none place done. none place done)

pub returns-in_err-expect-clause-refused : goal.returns-in_err-expect-clause-refused
returns-in_err-expect-clause-refused c =
    passed_on c.from_residual-in_err-expect.result _ _ _ c.from_residual-in_err-expect.ensures.1 c.in_err-expect.ensures.refused (λ due none place done.
    c.in_ok-datatype.ensures.reads place done
    ∙ none (class_due place done) (record_name_due place done) (expects kind.Class _ _ refl refl (λ token. refl)))

pub returns-clause-reads : goal.returns-clause-reads
returns-clause-reads c =
    IfOk-weaker c.name.result _ _ (λ made reads place done.
    c.in_ok-datatype.ensures.reads place done
    ∙ c.in_ok-expect.ensures.reads (class_due place done) (record_name_due place done) (expects kind.Class _ _ refl refl (λ token. refl))
    ∙ reads (record_name_due place done) (λ n. fields_due place n done) (expects_name _ _ refl refl (λ token. refl))) c.name.ensures.reads

pub returns-clause-refused : goal.returns-clause-refused
returns-clause-refused c =
    refused_as c.name.result _ _ (λ due none place done.
    c.in_ok-datatype.ensures.reads place done
    ∙ c.in_ok-expect.ensures.reads (class_due place done) (record_name_due place done) (expects kind.Class _ _ refl refl (λ token. refl))
    ∙ none (record_name_due place done) (λ n. fields_due place n done) (expects_name _ _ refl refl (λ token. refl))) c.name.ensures.refused
