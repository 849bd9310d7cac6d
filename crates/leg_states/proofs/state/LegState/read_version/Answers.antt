use Rattle.std.proofs.Common.{map, ap, sym, subst}
use Rattle.std.specs.Option.{option_map}
use Rattle.term_trees.specs.Term.{sort_type}
use Rattle.term_store.specs.Store.{tree_at, Holds}
use Rattle.term_store.proofs.Stores.{Holds-tree_at}
use Rattle.leg_states.specs.State.{state_of}
use Rattle.leg_states.proofs.Names.{found_term}
use Rattle.leg_states.proofs.state.LegState.read_version.Goals as goal

pub returns-in-Some-clause-number : goal.returns-in-Some-clause-number
returns-in-Some-clause-number c =
    let store = c.args.store.now in
    let id = c.in-Some.id in
    let is = found_term (map sort_type c.args.sorts.now) (state_of store c.args.self.now) c.args.x c.args.k (tree_at store id)
    (ap (option_map (tree_at store)) (sym c.in-Some.ensures)) in
    subst (Holds store id) (sym is) (Holds-tree_at store id (c.requires.over.numbers c.args.x c.args.k id (sym c.in-Some.ensures)))
