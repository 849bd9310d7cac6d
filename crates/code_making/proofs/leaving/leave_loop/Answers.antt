use Rattle.std.proofs.Common.{refl, sym, ◌∙◌}
use Rattle.statement_judging.proofs.Scopes.{loop_left, none_before}
use Rattle.code_making.proofs.leaving.leave_loop.Goals as goal

pub returns-in-None : goal.returns-in-None
returns-in-None c = λ before is. absurd (none_before before.outside before.covered (sym c.in-None.ensures.0 ∙ is))

pub returns-in-Some : goal.returns-in-Some
returns-in-Some c = λ before is.
    loop_left c.args.scope.now _ before c.args.names c.leave.ensures refl refl refl c.in-Some.ensures is
