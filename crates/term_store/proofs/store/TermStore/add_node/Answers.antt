use Rattle.std.proofs.Common.{sym, subst}
use Rattle.term_store.specs.Inside.{nodes_in}
use Rattle.term_nodes.specs.Node.{node_tree}
use Rattle.term_store.specs.Store.{stored, Holds}
use Rattle.term_store.proofs.Stores.{finds}
use Rattle.term_store.proofs.store.TermStore.add_node.Goals as goal

pub returns-in-Some-clause-number : goal.returns-in-Some-clause-number
returns-in-Some-clause-number c =
    let ns = nodes_in c.self.inside.entries.items in
    subst (λ s. Holds s c.in-Some.id (node_tree (stored s) c.args.node)) c.self.view_is
    (finds ns c.args.node c.self.inside.places c.in_ok-key.key c.in-Some.id c.self.invariant.store c.self.invariant.index c.in_ok-key.ensures (sym c.in-Some.ensures))
