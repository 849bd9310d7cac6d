use Rattle.slang_values.proofs.Equality.{same_value-true, same_value-equal}
use Rattle.slang_values.proofs.laws.equality.Goals as goal

pub returns : goal.returns
returns c = λ v w. (same_value-true v w, same_value-equal v w)
