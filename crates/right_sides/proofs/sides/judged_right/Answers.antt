use Rattle.std.proofs.Common.{sym}
use Rattle.std.proofs.lemmas.Result.{IfOk-weaker}
use Rattle.right_sides.proofs.sides.judged_right.Goals as goal

pub returns-then-calls_method-clause-judged : goal.returns-then-calls_method-clause-judged
returns-then-calls_method-clause-judged c =
    IfOk-weaker c.judged_if_call.result _ _ (λ found was at fits. was at fits (sym (c.if-calls_method.ensures at fits))) c.judged_if_call.ensures.judged

pub returns-else-calls_method-clause-judged : goal.returns-else-calls_method-clause-judged
returns-else-calls_method-clause-judged c =
    IfOk-weaker c.judged_elsewhere.result _ _ (λ found was at fits. was at fits (sym (c.if-calls_method.ensures at fits))) c.judged_elsewhere.ensures.judged
