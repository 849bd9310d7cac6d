use Rattle.std.proofs.Common.{pos, refl}
use Rattle.slang_values.specs.Tree.{literal}
use Rattle.slang_values.specs.Value.{number_type}
use Rattle.store_alternatives.proofs.EndingRecords.{held_default}
use Rattle.store_alternatives.proofs.defaults.add_zero.Goals as goal

pub returns-clause-number : goal.returns-clause-number
returns-clause-number c = λ records depth. held_default records c.add.result c.add.new.store (literal (pos 0)) depth number_type refl c.add.ensures.number
