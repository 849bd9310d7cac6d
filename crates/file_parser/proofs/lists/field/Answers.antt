use Rattle.std.proofs.Common.{◌∙◌}
use Rattle.slang_machine.specs.Open.{of_field, whole_type}
use Rattle.slang_machine.specs.States.{field_colon}
use Rattle.token_cursor.specs.Gives.{ahead}
use Rattle.token_cursor.proofs.Exits.{passed_on}
use Rattle.file_parser.proofs.ReadDecls.{field_type, field_from, field_opens, field_named}
use Rattle.file_parser.proofs.lists.field.Goals as goal

pub returns-in_err-name-clause-refused : goal.returns-in_err-name-clause-refused
returns-in_err-name-clause-refused c =
    passed_on c.from_residual.result _ _ _ c.from_residual.ensures.1 c.in_err-name.ensures.refused (λ due none place written fields done n.
    field_opens place written fields done (ahead c.args.tokens.now) (ahead c.take.new.self) c.take.result n c.take.ensures.found c.take.ensures.moved
    ∙ none (field_from c.take.result place written fields done) (λ x. field_colon place written fields x done) (λ x. whole_type (of_field place written fields x done))
    (field_named place written fields done (ahead c.args.tokens.now) (ahead c.take.new.self) c.take.result n c.take.ensures.found c.take.ensures.moved) (field_type place written fields done))

pub returns-clause-reads : goal.returns-clause-reads
returns-clause-reads c = λ place written fields done n.
    field_opens place written fields done (ahead c.args.tokens.now) (ahead c.take.new.self) c.take.result n c.take.ensures.found c.take.ensures.moved
    ∙ c.in_ok-name.ensures.reads (field_from c.take.result place written fields done) (λ x. field_colon place written fields x done) (λ x. whole_type (of_field place written fields x done))
    (field_named place written fields done (ahead c.args.tokens.now) (ahead c.take.new.self) c.take.result n c.take.ensures.found c.take.ensures.moved) (field_type place written fields done)
