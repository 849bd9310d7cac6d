use Rattle.store_reads.proofs.Store.{grows_after}
use Rattle.store_reads.proofs.adding.add.Goals as goal

pub returns-clause-grows : goal.returns-clause-grows
returns-clause-grows c = grows_after c.add_node.result c.args.store.now c.add_node.new.self c.args.node c.add_node.ensures.gains c.add_node.ensures.err
