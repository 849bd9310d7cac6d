use Rattle.std.proofs.Common.{◌≡◌, ◌∷◌, [], map, sym, subst, ap, ap₂, ◌∙◌}
use Rattle.term_trees.specs.Term.{sort_type}
use Rattle.term_store.proofs.Stores.{Holds-within, tree_at-Holds}
use Rattle.deduction_rules.specs.Step.{line}
use Rattle.deduction.proofs.Steps.{step_tree-Line}
use Rattle.lk_claims.specs.Claim.{claim_tree}
use Rattle.leg_rules.specs.Sequents.{read_term}
use Rattle.leg_states.specs.State.{state_of}
use Rattle.step_terms.specs.Steps.{ClaimMore}
use Rattle.step_terms.proofs.Places.{claim_one}
use Rattle.step_terms.proofs.line.read_line.Goals as goal

pub term_at-requires : goal.term_at-requires
term_at-requires c = Holds-within c.read_small.new.store c.in_ok-id.id _ c.in_ok-id.ensures.number

pub returns-in-Ok-from_slice-clause-term : goal.returns-in-Ok-from_slice-clause-term
returns-in-Ok-from_slice-clause-term c =
    step_tree-Line c.args.label c.in-Ok.term c.args.rule c.in-Ok-from_slice.cited
    ∙ ap₂ (λ t cs. line c.args.label t c.args.rule cs)
    (c.in-Ok.ensures ∙ tree_at-Holds c.read_small.new.store c.in_ok-id.id _ c.in_ok-id.ensures.number) c.in-Ok-from_slice.ensures

pub returns-in-Ok-from_slice-clause-claims : goal.returns-in-Ok-from_slice-clause-claims
returns-in-Ok-from_slice-clause-claims c =
    let term = read_term (map sort_type c.args.sorts.now) (state_of c.args.store.now c.args.state.now) (claim_tree c.args.claim.now) in
    let new = c.read_small.new.store in
    subst (λ ids. ClaimMore c.args.store.now c.args.claims.now new ids (term ∷ [])) (sym c.in_ok-push.ensures.ok)
    (claim_one c.args.store.now new c.args.claims.now c.in_ok-id.id term c.in_ok-id.ensures.gains.grows c.in_ok-id.ensures.number)
