use Rattle.std.proofs.Common.{map, length, ap, ◌∙◌}
use Rattle.std.proofs.lemmas.Result.{on_ok_weaker, IfErr-weaker}
use Rattle.term_trees.specs.Term.{sort_type}
use Rattle.lk_claims.specs.Step as claim_steps
use Rattle.leg_rules.specs.Sequents.{base, step_terms, after_steps, with_facts}
use Rattle.leg_states.specs.State.{state_of}
use Rattle.step_terms.proofs.Places.{on_ok}
use Rattle.item_terms.proofs.Proofs.{gains_goal, gains_steps, asked_of, within_of, ok_through, ok_value, no_memory}
use Rattle.item_terms.proofs.proof.take_proof.Goals as goal

pub returns-in-Err-clause-gains : goal.returns-in-Err-clause-gains
returns-in-Err-clause-gains c = gains_steps c.args.store.now c.read_proof.new.store _ c.in-Err.ensures.gains

pub returns-in-Ok-clause-asked : goal.returns-in-Ok-clause-asked
returns-in-Ok-clause-asked c =
    let types = map sort_type c.args.sorts.now in
    let first = state_of c.args.store.now c.args.state.now in
    let steps = claim_steps.step_trees c.args.steps.now in
    let records = map (map sort_type) c.args.records.now in
    ok_value _ _ _ c.proof_over.result c.base_before.result c.proof_over.ensures.ok c.proof_over.ensures.asked c.base_before.ensures.base
    (λ it b made is place. asked_of c.base_before.new.store place it b c.in-Ok.steps records (after_steps types first steps) (step_terms types first steps) made
    (is (length c.args.sorts.now) c.in-Ok.ensures.over ∙ ap (base records) c.in-Ok.ensures.state) c.in-Ok.ensures.terms)

pub returns-in-Ok-clause-within : goal.returns-in-Ok-clause-within
returns-in-Ok-clause-within c =
    ok_value _ _ _ c.proof_over.result c.base_before.result c.proof_over.ensures.ok c.proof_over.ensures.asked c.base_before.ensures.within
    (λ it b made within. within_of c.base_before.new.store it b c.in-Ok.steps made (within (length c.args.sorts.now) c.in-Ok.ensures.over))

pub returns-in-Ok-clause-state : goal.returns-in-Ok-clause-state
returns-in-Ok-clause-state c =
    let types = map sort_type c.args.sorts.now in
    let first = state_of c.args.store.now c.args.state.now in
    let steps = claim_steps.step_trees c.args.steps.now in
    ok_through _ c.proof_over.result c.base_before.result c.proof_over.ensures.ok
    (on_ok_weaker c.base_before.result
    (λ h. h (length c.args.sorts.now) c.in-Ok.ensures.over c.in-Ok.ensures.claims.within
    ∙ (λ i. with_facts (c.in-Ok.ensures.claims.trees i) (c.in-Ok.ensures.state i)))
    c.base_before.ensures.state)

pub returns-in-Ok-clause-over : goal.returns-in-Ok-clause-over
returns-in-Ok-clause-over c =
    ok_through _ c.proof_over.result c.base_before.result c.proof_over.ensures.ok
    (on_ok_weaker c.base_before.result
    (λ h. h (length c.args.sorts.now) c.in-Ok.ensures.over c.in-Ok.ensures.claims.within)
    c.base_before.ensures.over)

pub returns-in-Ok-clause-small : goal.returns-in-Ok-clause-small
returns-in-Ok-clause-small c = on_ok c.proof_over.result c.in-Ok.ensures.small

pub returns-in-Ok-clause-end : goal.returns-in-Ok-clause-end
returns-in-Ok-clause-end c = IfErr-weaker c.proof_over.result _ _ (λ end is. no_memory end _ is) c.proof_over.ensures.end

pub returns-in-Ok-clause-gains : goal.returns-in-Ok-clause-gains
returns-in-Ok-clause-gains c = gains_goal c.args.store.now c.read_proof.new.store c.base_before.new.store _ c.in-Ok.ensures.gains c.base_before.ensures.gains
