use Rattle.std.proofs.Common.{List, Result, None, ap, ap₂, ◌∙◌, subst}
use Rattle.slang_values.specs.Value as plain
use Rattle.lk_claims.specs.Claim.{value_type}
use Rattle.run_values.specs.declared.value.Value.{Value}
use Rattle.run_values.proofs.Values.{plain_value-Seq}
use Rattle.expression_values.specs.declared.ending.EvalEnd.{EvalEnd}
use Rattle.expression_values.specs.Answers.{AnswersValues}
use Rattle.expression_values.proofs.Stops.{goes_on}
use Rattle.expression_values.proofs.forms.sequence.Goals as goal

pub returns-in-Ok-copy : goal.returns-in-Ok-copy
returns-in-Ok-copy c records assigned parts found =
    let elements = subst (λ (answer : Result (List Value) EvalEnd). AnswersValues records assigned parts answer) c.in-Ok.is found in
    (goes_on _ None elements.0, plain_value-Seq c.in-Ok-copy.ty c.in-Ok.elements ∙ ap₂ plain.sequence (ap value_type c.in-Ok-copy.ensures) elements.1)
