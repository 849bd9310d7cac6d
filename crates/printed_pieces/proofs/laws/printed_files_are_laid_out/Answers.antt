use Rattle.printed_pieces.proofs.Declarations.{printed_files_are_laid_out}
use Rattle.printed_pieces.proofs.laws.printed_files_are_laid_out.Goals as goal

pub returns : goal.returns
returns c = printed_files_are_laid_out
