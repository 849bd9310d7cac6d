use Rattle.store_outside.proofs.Kept.{no_answers}
use Rattle.store_outside.proofs.table.OutsideTable.new.Goals as goal

pub returns : goal.returns
returns c = λ records types store. no_answers records types store c.new.result.items c.new.ensures.items
