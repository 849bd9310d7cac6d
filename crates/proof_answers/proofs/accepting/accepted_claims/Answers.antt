use Rattle.proof_closing.specs.Prover.{plain_sequent}
use Rattle.deduction.specs.Steps.{step_trees}
use Rattle.proof_answers.proofs.Accepted.{outermost_of, valid_of}
use Rattle.proof_answers.proofs.accepting.accepted_claims.Goals as goal

pub returns-clause-outermost : goal.returns-clause-outermost
returns-clause-outermost g c =
    outermost_of g.P.Prover.closes (plain_sequent c.args.base.now) (step_trees c.args.steps.now) c.check_proof.result c.check_proof.ensures.accepted

pub returns-clause-valid : goal.returns-clause-valid
returns-clause-valid g c = λ sound.
    valid_of g.P.Prover.closes (plain_sequent c.args.base.now) (step_trees c.args.steps.now) c.check_proof.result c.check_proof.ensures.accepted
    (c.check_proof.ensures.valid sound)
