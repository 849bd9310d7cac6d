use Rattle.std.proofs.Common.{◌∙◌}
use Rattle.run_entering.proofs.Back.{back_with}
use Rattle.run_entering.proofs.returning.returned.Goals as goal

pub returns-in-Some-clause-values : goal.returns-in-Some-clause-values
returns-in-Some-clause-values c =
    c.assign.ensures.values ∙ back_with c.args.env.now c.args.callee c.args.target c.in-Some.number c.requires.globals c.in-Some.is
