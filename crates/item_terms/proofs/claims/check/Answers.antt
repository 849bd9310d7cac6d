use Rattle.std.proofs.Common.{map, length, ap₂, ◌∙◌}
use Rattle.term_trees.specs.Term.{sort_type}
use Rattle.term_store.proofs.Stores.{Holds-within, tree_at-Holds}
use Rattle.lk_claims.specs.Claim.{claim_tree}
use Rattle.leg_rules.specs.Store.{with_fact}
use Rattle.leg_rules.specs.Sequents.{read_term}
use Rattle.leg_states.specs.State.{state_of}
use Rattle.item_terms.proofs.claims.check.Goals as goal

pub returns-in-Ok-clause-within : goal.returns-in-Ok-clause-within
returns-in-Ok-clause-within c =
    let new = c.read_small.new.store in
    c.in_ok-sequent.ensures.within (length c.args.sorts.now) new c.in_ok-goal.ensures.over (Holds-within new c.in_ok-goal.goal _ c.in_ok-goal.ensures.number)

pub returns-in-Ok-clause-state : goal.returns-in-Ok-clause-state
returns-in-Ok-clause-state c =
    let new = c.read_small.new.store in
    let term = read_term (map sort_type c.args.sorts.now) (state_of c.args.store.now c.args.state.now) (claim_tree c.args.claim.now) in
    c.in-Ok.ensures.state new ∙ ap₂ with_fact (tree_at-Holds new c.in_ok-goal.goal term c.in_ok-goal.ensures.number) c.in_ok-goal.ensures.state

pub returns-in-Ok-clause-over : goal.returns-in-Ok-clause-over
returns-in-Ok-clause-over c =
    let new = c.read_small.new.store in
    c.in-Ok.ensures.over (length c.args.sorts.now) new c.in_ok-goal.ensures.over (Holds-within new c.in_ok-goal.goal _ c.in_ok-goal.ensures.number)
