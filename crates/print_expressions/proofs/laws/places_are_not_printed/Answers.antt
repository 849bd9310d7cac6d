use Rattle.print_expressions.proofs.Places.{places_are_not_printed}
use Rattle.print_expressions.proofs.laws.places_are_not_printed.Goals as goal

pub returns : goal.returns
returns c = places_are_not_printed
