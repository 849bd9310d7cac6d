use Rattle.slang_values.proofs.Closed.{value_agree}
use Rattle.slang_values.proofs.laws.closed_trees_ignore_bounds.Goals as goal

pub returns : goal.returns
returns g c = λ records names t n e f closed agree. value_agree records names t n e f closed agree
