use Rattle.std.proofs.Common.{List, Result, ap, ◌∙◌, subst}
use Rattle.slang_values.specs.Value.{record_value}
use Rattle.run_values.specs.declared.value.Value.{Value}
use Rattle.run_values.proofs.Values.{plain_value-Rec}
use Rattle.claim_values.specs.declared.ending.ClaimEnd.{ClaimEnd}
use Rattle.claim_values.specs.Answers.{AreValues}
use Rattle.claim_values.proofs.forms.record_by_fields.Goals as goal

pub returns-in-Ok : goal.returns-in-Ok
returns-in-Ok c visited rest vs found =
    let fields = subst (λ (answer : Result (List Value) ClaimEnd). AreValues visited rest vs answer) c.in-Ok.is found in
    (fields.0, plain_value-Rec c.args.number c.in-Ok.fields ∙ ap (record_value c.args.number) fields.1)
