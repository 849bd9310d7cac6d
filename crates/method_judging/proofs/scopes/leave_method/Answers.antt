use Rattle.std.proofs.Common.{◌∙◌, refl, sym}
use Rattle.statement_judging.proofs.Scopes.{none_before}
use Rattle.method_judging.proofs.Whole.{method_ends}
use Rattle.method_judging.proofs.scopes.leave_method.Goals as goal

pub returns-in-None : goal.returns-in-None
returns-in-None c = λ contract is. absurd (none_before contract.outside contract.covered (sym c.in-None.ensures.0 ∙ is))

pub returns-in-Some : goal.returns-in-Some
returns-in-Some c = λ contract is.
    method_ends c.args.scope.now _ contract c.args.names c.args.covered c.args.locals c.in-Some.outer
    c.leave.ensures refl c.leave-in-Some.ensures refl refl c.in-Some.ensures is
