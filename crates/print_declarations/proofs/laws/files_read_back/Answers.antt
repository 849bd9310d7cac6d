use Rattle.print_declarations.proofs.Back.{files_read_back}
use Rattle.print_declarations.proofs.laws.files_read_back.Goals as goal

pub returns : goal.returns
returns c = files_read_back
