use Rattle.print_places.proofs.Declarations.{files_are_printed_without_places}
use Rattle.print_places.proofs.laws.files_are_printed_without_places.Goals as goal

pub returns : goal.returns
returns c = files_are_printed_without_places
