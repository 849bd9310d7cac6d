use Rattle.code_paths.proofs.Paths.{statements_end}
use Rattle.code_paths.proofs.laws.statements_end.Goals as goal

pub returns : goal.returns
returns c = λ codes n h. statements_end codes n h
