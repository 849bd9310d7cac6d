use Rattle.term_sorts.specs.Types.{record_types, types_of}
use Rattle.store_leaves.proofs.Closings.{opposites_found}
use Rattle.store_leaves.proofs.found.pair_of_opposites.Goals as goal

pub returns-in-Some : goal.returns-in-Some
returns-in-Some c =
    opposites_found (record_types c.args.records.now) (types_of c.args.symbols.now) c.args.store.now c.args.literals.now c.in-Some.places.0
    c.in-Some.places.1 c.in-Some.ensures
