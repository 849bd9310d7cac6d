use Rattle.read_rules.proofs.ReducedValues.{typed_reduced, value_reduced}
use Rattle.read_rules.proofs.laws.reducing_keeps_values.Goals as goal

pub returns : goal.returns
returns c = λ records fine types values fit t. record {
  typed = typed_reduced records types t;
  value = value_reduced records fine types values fit t;
}
