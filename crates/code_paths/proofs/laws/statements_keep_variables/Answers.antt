use Rattle.code_paths.proofs.Paths.{renamed_from}
use Rattle.code_paths.proofs.laws.statements_keep_variables.Goals as goal

pub returns : goal.returns
returns c = λ f codes n. renamed_from f codes n
