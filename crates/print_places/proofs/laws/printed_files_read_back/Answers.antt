use Rattle.print_places.proofs.Declarations.{printed_files_read_back}
use Rattle.print_places.proofs.laws.printed_files_read_back.Goals as goal

pub returns : goal.returns
returns c = printed_files_read_back
