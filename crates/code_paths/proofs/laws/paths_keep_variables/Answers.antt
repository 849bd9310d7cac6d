use Rattle.code_paths.proofs.Paths.{renamed_path}
use Rattle.code_paths.proofs.laws.paths_keep_variables.Goals as goal

pub returns : goal.returns
returns c = λ f codes path. renamed_path f codes path
