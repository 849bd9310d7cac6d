use Rattle.std.proofs.Common.{◌<◌, subst, arith}
use Rattle.std.specs.List.{AllByRecursion}
use Rattle.store_places.proofs.places.add_own.Goals as goal

pub add_place-requires-clause-within : goal.add_place-requires-clause-within
add_place-requires-clause-within c =
    let below : c.in-Some.place < c.args.id = c.in-Some.ensures.below c.args.id (subst (AllByRecursion (λ j. j < c.args.id)) c.shape.ensures.numbers c.view.ensures.placed.below) in
    omega (arith, below, c.requires.within)
