use Rattle.std.proofs.Common.{subst}
use Rattle.legs.specs.Legs.{IsLegsEnd}
use Rattle.leg_answers.specs.Answering.{accepting_by}
use Rattle.method_answers.proofs.Verdicts.{verdict_many}
use Rattle.method_answers.proofs.answering.method_answer.Goals as goal

pub returns-in-Many-clause-verdict : goal.returns-in-Many-clause-verdict
returns-in-Many-clause-verdict g c =
    let many = subst (IsLegsEnd c.args.typed.now c.args.method) c.in-Many.is c.in-Err.ensures.end in
    verdict_many g.P.LegProver.reason (accepting_by g.P.Prover.closes) c.args.typed.now c.args.method many.0
