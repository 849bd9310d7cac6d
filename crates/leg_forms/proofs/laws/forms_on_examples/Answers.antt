use Rattle.leg_forms.proofs.Examples.{form_examples}
use Rattle.leg_forms.proofs.laws.forms_on_examples.Goals as goal

pub returns : goal.returns
returns c = form_examples
