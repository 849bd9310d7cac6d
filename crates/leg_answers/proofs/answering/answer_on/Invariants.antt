use Rattle.std.proofs.Common.{◌≡◌, None, length}
use Rattle.proof_closing.specs.Prover.{Leaves}
use Rattle.sym_exec.specs.Steps.{pending, IsReady}
use Rattle.leg_answers.specs.Answering.{AreSorted, remaining}
use Rattle.leg_answers.proofs.answering.answer_on.Given as goal

-- what is left has the answer, and the prover was not stopped
abbrev pub invariant-items : goal.invariant-items
invariant-items g l = record {
  same : remaining g.P.LegProver.reason g.P.Prover.closes l.fn.store l.fn.exec l.leg ≡ remaining g.P.LegProver.reason g.P.Prover.closes l.store l.exec l.leg;
  ready : IsReady l.store l.exec l.leg;
  begun : l.exec.end ≡ None;
  sorted : AreSorted l.store l.exec l.leg;
  leaves : Leaves (g.P.Prover.work l.fn.prover) (g.P.Prover.work l.prover) None;
}

abbrev pub decreases-items : goal.decreases-items
decreases-items g l = length (pending l.store l.exec l.leg)
