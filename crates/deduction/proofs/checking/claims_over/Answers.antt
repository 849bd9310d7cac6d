use Rattle.std.proofs.Common.{map, ap, ◌∙◌}
use Rattle.term_trees.specs.Term.{tree}
use Rattle.deduction_rules.specs.Deduction.{visible_claims}
use Rattle.proof_scopes.specs.Scope.{labelled_tree, before_of, is_in_some, with_used}
use Rattle.proof_closing.specs.Prover.{plain_sequent}
use Rattle.deduction.specs.Steps.{step_trees}
use Rattle.deduction.proofs.Whole.{proof_accepted, proof_ends}
use Rattle.deduction.proofs.checking.claims_over.Goals as goal

pub returns-in-Err-check_steps-clause-refused : goal.returns-in-Err-check_steps-clause-refused
returns-in-Err-check_steps-clause-refused g c =
    let old = before_of c.args.scope.now in
    let used = c.in-Ok.ensures ∙ ap (λ fs. with_used (is_in_some (map tree fs)) old) c.as_slice.ensures in
    proof_ends g.P.Prover.closes (plain_sequent c.args.base.now) (step_trees c.args.steps.now) old (before_of c.use_facts.new.self) c.requires.empty
    used c.in-Err-check_steps.end c.in-Err-check_steps.ensures.refused

pub returns-in-Ok-known_claims-clause-accepted : goal.returns-in-Ok-known_claims-clause-accepted
returns-in-Ok-known_claims-clause-accepted g c =
    let old = before_of c.args.scope.now in
    let used = c.in-Ok.ensures ∙ ap (λ fs. with_used (is_in_some (map tree fs)) old) c.as_slice.ensures in
    let claims = c.in-Ok-known_claims.ensures ∙ ap (λ v. visible_claims (map labelled_tree v)) c.deref.ensures.value in
    proof_accepted g.P.Prover.closes (plain_sequent c.args.base.now) (step_trees c.args.steps.now) old (before_of c.use_facts.new.self) c.requires.empty
    used (before_of c.check_steps.new.scope) c.in-Ok-known_claims.claims c.in-Ok-check_steps.ensures.passed claims
