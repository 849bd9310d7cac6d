use Rattle.std.proofs.Common.{arith}
use Rattle.store_cases.proofs.SharedLists.{add_begins, add_more, add_done}
use Rattle.store_cases.proofs.lists.Lists.add_all.Goals as goal

pub loop-count-init : goal.loop-count-init
loop-count-init c = add_begins c.args.self.now c.args.ids.now c.args.rest _ (omega arith) c.requires
