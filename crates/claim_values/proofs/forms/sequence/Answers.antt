use Rattle.std.proofs.Common.{List, Result, ap, ap₂, ◌∙◌, subst}
use Rattle.slang_values.specs.Value as plain
use Rattle.lk_claims.specs.Claim.{value_type}
use Rattle.run_values.specs.declared.value.Value.{Value}
use Rattle.run_values.proofs.Values.{plain_value-Seq}
use Rattle.claim_values.specs.declared.ending.ClaimEnd.{ClaimEnd}
use Rattle.claim_values.specs.Answers.{AreValues}
use Rattle.claim_values.proofs.forms.sequence.Goals as goal

pub returns-in-Ok-copy : goal.returns-in-Ok-copy
returns-in-Ok-copy c visited rest vs found =
    let elements = subst (λ (answer : Result (List Value) ClaimEnd). AreValues visited rest vs answer) c.in-Ok.is found in
    (elements.0, plain_value-Seq c.in-Ok-copy.ty c.in-Ok.elements ∙ ap₂ plain.sequence (ap value_type c.in-Ok-copy.ensures) elements.1)
