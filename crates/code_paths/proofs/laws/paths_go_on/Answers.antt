use Rattle.code_paths.proofs.Paths.{path_on}
use Rattle.code_paths.proofs.laws.paths_go_on.Goals as goal

pub returns : goal.returns
returns c = λ codes path inside. path_on codes path inside
