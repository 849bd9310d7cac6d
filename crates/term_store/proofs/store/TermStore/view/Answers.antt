use Rattle.std.proofs.Common.{subst}
use Rattle.term_store.specs.Store.{IsPlaced}
use Rattle.term_store.proofs.Whole.{placed_entry, length-nodes_in}
use Rattle.term_store.proofs.store.TermStore.view.Goals as goal

pub returns-clause-placed : goal.returns-clause-placed
returns-clause-placed c =
    subst (λ ns. IsPlaced ns c.args.id c.index.result.now.node) c.self.view_is
    (placed_entry c.self.inside.entries.items c.args.id c.index.result.now c.self.invariant.store (rw (← length-nodes_in c.self.inside.entries.items, c.self.view_is) c.requires) c.index.ensures)
