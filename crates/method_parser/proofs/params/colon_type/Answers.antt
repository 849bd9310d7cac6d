use Rattle.std.proofs.Common.{◌∙◌}
use Rattle.std.proofs.lemmas.Result.{IfOk-weaker}
use Rattle.token_cursor.proofs.Exits.{passed_on, refused_as}
use Rattle.slang_machine.specs.States.{want_type}
use Rattle.method_parser.proofs.params.colon_type.Goals as goal

pub returns-in_err-expect-clause-refused : goal.returns-in_err-expect-clause-refused
returns-in_err-expect-clause-refused c =
    passed_on c.from_residual.result _ _ _ c.from_residual.ensures.1 c.in_err-expect.ensures.refused (λ due none from inner x. none from (want_type inner) x)

pub returns-clause-reads : goal.returns-clause-reads
returns-clause-reads c =
    IfOk-weaker c.type_name.result _ _ (λ made reads from inner x.
    c.in_ok-expect.ensures.reads from (want_type inner) x ∙ reads inner) c.type_name.ensures.reads

pub returns-clause-refused : goal.returns-clause-refused
returns-clause-refused c =
    refused_as c.type_name.result _ _ (λ due none from inner x.
    c.in_ok-expect.ensures.reads from (want_type inner) x ∙ none inner) c.type_name.ensures.refused
