use Rattle.std.proofs.Common.{[], refl, ◌∙◌}
use Rattle.slang_lexer.specs.declared.token.TokenKind.TheVariants as kind
use Rattle.slang_machine.specs.States.{fields_due, field_name}
use Rattle.token_cursor.proofs.Steps.{expects}
use Rattle.token_cursor.proofs.Exits.{passed_on, kept_with, kept_refused}
use Rattle.file_parser.proofs.lists.fields.Goals as goal

pub returns-in_err-expect-clause-refused : goal.returns-in_err-expect-clause-refused
returns-in_err-expect-clause-refused c =
    passed_on c.from_residual.result _ _ _ c.from_residual.ensures.1 c.in_err-expect.ensures.refused (λ due none place written done. none (fields_due place written done) (field_name place written [] done) (expects kind.LeftParen _ _ refl refl (λ token. refl)))

pub returns-clause-reads : goal.returns-clause-reads
returns-clause-reads c =
    kept_with c.kept.result c.add_fields-end.new.list c.add_fields-end.result _ _ c.kept.ensures c.add_fields-end.ensures.reads (λ reads place written done.
    c.in_ok-expect.ensures.reads (fields_due place written done) (field_name place written [] done) (expects kind.LeftParen _ _ refl refl (λ token. refl))
    ∙ reads place written done)

pub returns-clause-refused : goal.returns-clause-refused
returns-clause-refused c =
    kept_refused c.kept.result c.add_fields-end.new.list c.add_fields-end.result _ _ c.kept.ensures c.add_fields-end.ensures.refused (λ due none place written done.
    c.in_ok-expect.ensures.reads (fields_due place written done) (field_name place written [] done) (expects kind.LeftParen _ _ refl refl (λ token. refl))
    ∙ none place written done)
