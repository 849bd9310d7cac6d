use Rattle.std.proofs.Common.{refl}
use Rattle.slang_values.specs.Tree.{name}
use Rattle.term_nodes.specs.declared.node.Node.{Node}
use Rattle.term_store.proofs.Gains.{GainsAmong-after}
use Rattle.leg_states.proofs.reading.add_symbol.Goals as goal

pub returns-clause-gains : goal.returns-clause-gains
returns-clause-gains c =
    GainsAmong-after c.add_node.result c.args.store.now c.add_node.new.self (Node.Symbol c.args.symbol) (name c.args.symbol) refl c.add_node.ensures.gains
    c.add_node.ensures.err
