use Rattle.std.proofs.Common.{map}
use Rattle.term_sorts.specs.Types.{record_types, types_of}
use Rattle.term_store.specs.Store.{tree_at}
use Rattle.store_leaves.specs.Closes.{IsFoundIn}
use Rattle.store_leaves.proofs.Closings.{unequal_found, none_apart, none_as}
use Rattle.store_leaves.proofs.found.closed_otherwise.Goals as goal

pub returns-in-Some : goal.returns-in-Some
returns-in-Some c =
    unequal_found (record_types c.args.records.now) (types_of c.args.symbols.now) c.args.store.now c.args.literals.now c.in-Some.place c.in-Some.ensures

pub returns-in-None : goal.returns-in-None
returns-in-None c =
    none_as (IsFoundIn (record_types c.args.records.now) (types_of c.args.symbols.now) (map (tree_at c.args.store.now) c.args.literals.now))
    c.pair_of_opposites.result
    (none_apart (record_types c.args.records.now) (types_of c.args.symbols.now) (map (tree_at c.args.store.now) c.args.literals.now) c.in-None.ensures)
    c.pair_of_opposites.ensures
