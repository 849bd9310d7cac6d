use Rattle.std.proofs.Common.{ℕ, Ok}
use Rattle.term_nodes.specs.Node.{node_tree}
use Rattle.term_store.specs.Store.{stored}
use Rattle.store_forms.proofs.Added.{atom_of}
use Rattle.store_linear.proofs.Alone.{as_many, has_atom}
use Rattle.store_linear.proofs.atoms.atom_over.Goals as goal

pub over_parts-requires : goal.over_parts-requires
over_parts-requires c = as_many c.args.store.now c.args.id c.view.result.now c.args.ids.now c.view.ensures.placed c.requires.terms

pub returns-clause-entry : goal.returns-clause-entry
returns-clause-entry c =
    let store = c.args.store.now in
    let new = c.add.new.store in
    let node = c.in_ok-node.node in
    let form = c.in_ok-of_atom.field-0 in
    has_atom store new c.args.id c.view.result.now node c.args.ids.now
    form c.view.ensures.placed c.in_ok-node.ensures.0 c.in_ok-node.ensures.1 c.requires.alone c.requires.terms
    (atom_of {E = ℕ} (Ok form) new c.in_ok-atom.atom (node_tree (stored store) node) c.in_ok-atom.ensures.number c.in_ok-of_atom.ensures)
