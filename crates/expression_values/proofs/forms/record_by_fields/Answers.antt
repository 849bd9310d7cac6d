use Rattle.std.proofs.Common.{List, Result, None, ap, ◌∙◌, subst}
use Rattle.slang_values.specs.Value as plain
use Rattle.run_values.specs.declared.value.Value.{Value}
use Rattle.run_values.proofs.Values.{plain_value-Rec}
use Rattle.expression_values.specs.declared.ending.EvalEnd.{EvalEnd}
use Rattle.expression_values.specs.Answers.{AnswersValues}
use Rattle.expression_values.proofs.Stops.{goes_on}
use Rattle.expression_values.proofs.forms.record_by_fields.Goals as goal

pub returns-in-Ok : goal.returns-in-Ok
returns-in-Ok c records assigned parts found =
    let fields = subst (λ (answer : Result (List Value) EvalEnd). AnswersValues records assigned parts answer) c.in-Ok.is found in
    (goes_on _ None fields.0, plain_value-Rec c.args.number c.in-Ok.fields ∙ ap (plain.record_value c.args.number) fields.1)
