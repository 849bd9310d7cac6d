use Rattle.tree_forms.proofs.CanonicalValues.{value-canonical}
use Rattle.tree_forms.proofs.laws.canonical_trees_keep_values.Goals as goal

pub returns : goal.returns
returns c = λ records fine types names fit e t s h. value-canonical records fine types names fit t s e h
