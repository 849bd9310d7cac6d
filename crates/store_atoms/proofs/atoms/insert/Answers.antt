use Rattle.std.proofs.Common.{List, refl, subst}
use Rattle.term_store.specs.Store.{tree_at}
use Rattle.store_atoms.specs.declared.atoms.Atom.{Atom}
use Rattle.store_atoms.specs.Atoms.{atom_trees, GoesTo}
use Rattle.store_atoms.proofs.Order.{trees-inserted, done-inserted}
use Rattle.store_atoms.proofs.Within.{ids-inserted}
use Rattle.store_atoms.proofs.atoms.insert.Goals as goal

pub returns-in_ok-insert-in-Err-clause-trees : goal.returns-in_ok-insert-in-Err-clause-trees
returns-in_ok-insert-in-Err-clause-trees c =
    let store = c.args.store.now in
    let goes = subst (λ (atoms : List Atom). GoesTo (atom_trees store atoms) (tree_at store c.args.id) c.in-Err.at) c.as_slice.ensures.value c.in-Err.ensures in
    trees-inserted store c.args.atoms.now.items c.insert.new.self.items _ (tree_at store c.args.id) c.in-Err.at goes refl c.in_ok-insert-in-Err.ensures.items

pub returns-in_ok-insert-in-Err-clause-within : goal.returns-in_ok-insert-in-Err-clause-within
returns-in_ok-insert-in-Err-clause-within c =
    ids-inserted c.args.store.now c.args.atoms.now.items c.insert.new.self.items c.in-Err.at _ c.requires.within c.requires.id c.in_ok-insert-in-Err.ensures.items

pub returns-in_ok-insert-in-Err-clause-done : goal.returns-in_ok-insert-in-Err-clause-done
returns-in_ok-insert-in-Err-clause-done c =
    done-inserted c.args.store.now _ refl c.args.atoms.now.items c.insert.new.self.items c.in-Err.at c.in_ok-insert-in-Err.ensures.items
