use Rattle.std.proofs.Common.{◌≡◌, ◌++◌, None, map, take}
use Rattle.lk_programs.specs.LegData.{leg_tree}
use Rattle.leg_rules.specs.Answers.{leg_answer}
use Rattle.proof_closing.specs.Prover.{Leaves}
use Rattle.leg_answers.specs.Answering.{accepting_by}
use Rattle.method_answers.proofs.answering.add_answers.Given as goal

-- the answers for the legs so far, and the prover was not stopped
abbrev pub invariant-loop-leg : goal.invariant-loop-leg
invariant-loop-leg g l = record {
  answers : l.answers ≡ l.fn.answers
      ++ map (λ leg. leg_answer g.P.LegProver.reason (accepting_by g.P.Prover.closes) (leg_tree leg)) (take l.leg-index l.legs);
  leaves : Leaves (g.P.Prover.work l.fn.prover) (g.P.Prover.work l.prover) None;
}
