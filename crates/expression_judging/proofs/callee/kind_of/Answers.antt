use Rattle.std.proofs.Common.{subst, sym}
use Rattle.expression_judging.specs.Callee.{IsKind}
use Rattle.expression_judging.proofs.callee.kind_of.Goals as goal

pub returns-in-Some : goal.returns-in-Some
returns-in-Some c = λ at fits. subst (IsKind c.kind_meant.result) (sym (c.in-Some.ensures at fits)) c.kind_meant.ensures
