use Rattle.std.proofs.Common.{map, ap, sym, ◌∙◌}
use Rattle.term_trees.specs.Term.{sort_type}
use Rattle.term_store.proofs.Stores.{Holds-within, tree_at-Holds}
use Rattle.lk_claims.specs.Claim.{claim_tree}
use Rattle.leg_rules.specs.Store.{is_small}
use Rattle.leg_rules.specs.Sequents.{read_term}
use Rattle.leg_states.specs.State.{state_of}
use Rattle.step_terms.proofs.small.read_small.Goals as goal

pub is_small-requires : goal.is_small-requires
is_small-requires c = Holds-within c.read_claim.new.store c.in_ok-id.id _ c.in_ok-id.ensures.number

pub returns-then-is_small-clause-small : goal.returns-then-is_small-clause-small
returns-then-is_small-clause-small c =
    let term = read_term (map sort_type c.args.sorts.now) (state_of c.args.store.now c.args.state.now) (claim_tree c.args.claim.now) in
    ap is_small (sym (tree_at-Holds c.read_claim.new.store c.in_ok-id.id term c.in_ok-id.ensures.number)) ∙ sym c.is_small.ensures ∙ c.if-is_small.true

pub returns-else-is_small-clause-end : goal.returns-else-is_small-clause-end
returns-else-is_small-clause-end c =
    let term = read_term (map sort_type c.args.sorts.now) (state_of c.args.store.now c.args.state.now) (claim_tree c.args.claim.now) in
    ap is_small (sym (tree_at-Holds c.read_claim.new.store c.in_ok-id.id term c.in_ok-id.ensures.number)) ∙ sym c.is_small.ensures ∙ c.if-is_small.false
