use Rattle.tree_forms.proofs.FormOrder.{IsInOrder-form}
use Rattle.tree_forms.proofs.FormValues.{HasValueOf-form}
use Rattle.tree_forms.proofs.laws.forms_are_forms.Goals as goal

pub returns : goal.returns
returns c = record { in_order = IsInOrder-form; has_value = HasValueOf-form }
