use Rattle.std.proofs.Common.{map}
use Rattle.term_trees.specs.Term.{sort_type}
use Rattle.lk_claims.specs.Step as claim_steps
use Rattle.leg_rules.specs.Sequents.{step_terms, outermost}
use Rattle.leg_states.specs.State.{state_of}
use Rattle.item_terms.proofs.Proofs.{first_claims}
use Rattle.item_terms.proofs.proof.read_proof.Goals as goal

pub returns-in-Ok-clause-claims : goal.returns-in-Ok-clause-claims
returns-in-Ok-clause-claims c =
    first_claims c.args.store.now c.read_steps.new.store c.new-claims.result c.read_steps.new.claims
    (outermost (step_terms (map sort_type c.args.sorts.now) (state_of c.args.store.now c.args.state.now) (claim_steps.step_trees c.args.steps.now)))
    c.new-claims.ensures c.in-Ok.ensures.claims
