use Rattle.std.proofs.Common.{ℕ, ◌+◌, ◌-◌, ◌/◌, sym, ◌∙◌, arith}
use Rattle.std.proofs.lemmas.Option.{get_or_from_slice_get}
use Rattle.term_store.specs.Store.{tree_at}
use Rattle.store_atoms.proofs.Order.{search-begins, search-up, search-down, search-found, search-ended}
use Rattle.store_atoms.proofs.Within.{id-at}
use Rattle.store_atoms.proofs.atoms.find.Goals as goal

pub search-init : goal.search-init
search-init c = search-begins c.args.store.now (tree_at c.args.store.now c.args.id) c.args.atoms.now

pub atom_there-atom-requires : goal.atom_there-atom-requires
atom_there-atom-requires c = let w = c.search.invariant.within in omega arith

pub compare-requires-clause-a : goal.compare-requires-clause-a
compare-requires-clause-a c =
    let m : ℕ = c.search.low + (c.search.high - c.search.low) / 2 in
    let a = c.atom_there-atom.result in
    id-at c.args.store.now c.args.atoms.now m a c.requires.within (let w = c.search.invariant.within in omega arith) (sym (get_or_from_slice_get c.args.atoms.now m a a c.atom_there-atom.ensures))

pub returns-in-Equal : goal.returns-in-Equal
returns-in-Equal c =
    let m : ℕ = c.search.low + (c.search.high - c.search.low) / 2 in
    let a = c.atom_there-atom.result in
    search-found c.args.store.now (tree_at c.args.store.now c.args.id) c.args.atoms.now c.search.low c.search.high m a c.requires.ordered c.search.invariant (omega arith) (omega arith)
    (sym (get_or_from_slice_get c.args.atoms.now m a a c.atom_there-atom.ensures)) (sym c.compare.ensures ∙ c.in-Equal.is)

pub search-preserved-in-Less : goal.search-preserved-in-Less
search-preserved-in-Less c =
    let m : ℕ = c.search.low + (c.search.high - c.search.low) / 2 in
    let a = c.atom_there-atom.result in
    search-up c.args.store.now (tree_at c.args.store.now c.args.id) c.args.atoms.now c.search.low c.search.high m a c.requires.ordered c.search.invariant (omega arith) (omega arith)
    (sym (get_or_from_slice_get c.args.atoms.now m a a c.atom_there-atom.ensures)) (sym c.compare.ensures ∙ c.in-Less.is)

pub search-preserved : goal.search-preserved
search-preserved c =
    let m : ℕ = c.search.low + (c.search.high - c.search.low) / 2 in
    let a = c.atom_there-atom.result in
    search-down c.args.store.now (tree_at c.args.store.now c.args.id) c.args.atoms.now c.search.low c.search.high m a c.requires.ordered c.search.invariant (omega arith) (omega arith)
    (sym (get_or_from_slice_get c.args.atoms.now m a a c.atom_there-atom.ensures)) (sym c.compare.ensures ∙ c.in-Greater.is)

pub returns : goal.returns
returns c = search-ended c.args.store.now (tree_at c.args.store.now c.args.id) c.args.atoms.now c.search.low c.search.high c.search.invariant c.search-test.false
