use Rattle.std.proofs.Common.{false, refl}
use Rattle.slang_values.specs.Tree.{truth_literal}
use Rattle.slang_values.specs.Value.{truth_type}
use Rattle.store_alternatives.proofs.EndingRecords.{held_default}
use Rattle.store_alternatives.proofs.defaults.add_false.Goals as goal

pub returns-clause-number : goal.returns-clause-number
returns-clause-number c = λ records depth. held_default records c.add.result c.add.new.store (truth_literal false) depth truth_type refl c.add.ensures.number
