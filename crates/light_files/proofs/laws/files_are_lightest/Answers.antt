use Rattle.light_files.proofs.Whole.{files_are_lightest}
use Rattle.light_files.proofs.laws.files_are_lightest.Goals as goal

pub returns : goal.returns
returns c = files_are_lightest
