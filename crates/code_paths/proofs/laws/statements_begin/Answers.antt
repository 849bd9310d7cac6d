use Rattle.code_paths.proofs.Paths.{statements_begin}
use Rattle.code_paths.proofs.laws.statements_begin.Goals as goal

pub returns : goal.returns
returns c = λ codes n code h. statements_begin codes n code h
