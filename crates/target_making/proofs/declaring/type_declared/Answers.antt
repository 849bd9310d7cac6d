use Rattle.std.proofs.lemmas.Result.{IfOk-weaker}
use Rattle.target_making.proofs.declaring.type_declared.Goals as goal

pub returns-clause-declared : goal.returns-clause-declared
returns-clause-declared c = IfOk-weaker c.declared_by.result _ _ (λ found is at fits. (is at fits).is) c.declared_by.ensures.declared
