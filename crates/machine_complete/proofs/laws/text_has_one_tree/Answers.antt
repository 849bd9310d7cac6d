use Rattle.machine_complete.proofs.Declarations.{one_tree}
use Rattle.machine_complete.proofs.laws.text_has_one_tree.Goals as goal

pub returns : goal.returns
returns c = one_tree
