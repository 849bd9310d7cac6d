use Rattle.std.proofs.Common.{ℕ, Option, Result, IfOk, sym, subst}
use Rattle.proof_closing.specs.declared.prover.CloseEnd.{CloseEnd}
use Rattle.proof_closing.specs.Prover.{plain_sequent}
use Rattle.deduction.specs.Steps.{step_trees}
use Rattle.proof_answers.specs.Accepted.{UnlessRefused}
use Rattle.proof_answers.proofs.Accepted.{claims_valid}
use Rattle.proof_answers.proofs.accepting.refused_step.Goals as goal
use Rattle.proof_answers.proofs.accepting.refused_step.Goals.{in-Ok, in-Err+in-Bad, in-Err+in-Stopped, in-Err+in-NoMemory}

pub returns-clause-valid : goal.returns-clause-valid
returns-clause-valid g c = λ sound.
    let base = plain_sequent c.args.base.now in
    let steps = step_trees c.args.steps.now in
    let Valid = λ (r : Result (Option ℕ) CloseEnd). IfOk r (λ label. UnlessRefused label base steps) in
    elim c.match-check_proof.branch [
      | in-Ok w ↦ subst Valid (sym w.result-is)
          (claims_valid g.P.Prover.closes base steps w.in-Ok.field-0 w.in-Ok.ensures.accepted (w.in-Ok.ensures.valid sound))
      | in-Err+in-Bad w ↦ subst Valid (sym w.result-is) tt
      | in-Err+in-Stopped w ↦ subst Valid (sym w.result-is) tt
      | in-Err+in-NoMemory w ↦ subst Valid (sym w.result-is) tt
    ]
