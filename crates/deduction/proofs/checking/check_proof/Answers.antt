use Rattle.deduction.specs.Steps.{step_trees}
use Rattle.deduction.proofs.Whole.{valid_claims}
use Rattle.deduction.proofs.checking.check_proof.Goals as goal

pub returns-clause-valid : goal.returns-clause-valid
returns-clause-valid g c = λ sound.
    valid_claims g.P.Prover.closes sound c.args.base.now (step_trees c.args.steps.now) c.requires.sorted c.claims_over.result c.claims_over.ensures.accepted
