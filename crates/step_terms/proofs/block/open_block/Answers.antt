use Rattle.std.proofs.Common.{map, length, ap, sym, subst, ◌∙◌}
use Rattle.term_trees.specs.Term.{sort_type}
use Rattle.term_store.specs.Store.{GainsAmong, subtrees}
use Rattle.term_store.proofs.Stores.{Holds-within, tree_at-Holds}
use Rattle.term_store.proofs.Gains.{GainsAmong-itself}
use Rattle.lk_claims.specs.Claim.{claim_tree}
use Rattle.leg_rules.specs.Store.{read_claim, is_small}
use Rattle.leg_rules.specs.Sequents.{begin_block, read_term}
use Rattle.leg_states.specs.State.{state_of}
use Rattle.step_terms.specs.Steps.{IsPast}
use Rattle.step_terms.proofs.block.open_block.Goals as goal

pub read_small-requires-clause-over : goal.read_small-requires-clause-over
read_small-requires-clause-over c = c.in_ok-begin_block.ensures.over (length c.args.sorts.now) c.args.store.now c.requires.over

pub term_at-requires : goal.term_at-requires
term_at-requires c = Holds-within c.read_small.new.store c.in-Ok.id _ c.in-Ok.ensures.number

pub returns-in-Err-clause-end : goal.returns-in-Err-clause-end
returns-in-Err-clause-end c =
    let types = map sort_type c.args.sorts.now in
    subst (λ s. IsPast c.in-Err.end (is_small (read_term types s (claim_tree c.args.given.now)))) (c.in_ok-begin_block.ensures.state c.args.store.now)
    c.in-Err.ensures.end

pub returns-in-Err-clause-gains : goal.returns-in-Err-clause-gains
returns-in-Err-clause-gains c =
    let types = map sort_type c.args.sorts.now in
    subst (λ s. GainsAmong c.args.store.now c.read_small.new.store (subtrees (read_term types s (claim_tree c.args.given.now))))
    (c.in_ok-begin_block.ensures.state c.args.store.now) c.in-Err.ensures.gains

pub returns-in-Err-term_at-clause-gains : goal.returns-in-Err-term_at-clause-gains
returns-in-Err-term_at-clause-gains c =
    let types = map sort_type c.args.sorts.now in
    subst (λ s. GainsAmong c.args.store.now c.read_small.new.store (subtrees (read_term types s (claim_tree c.args.given.now))))
    (c.in_ok-begin_block.ensures.state c.args.store.now) c.in-Ok.ensures.gains

pub returns-in-Ok-term_at-clause-state : goal.returns-in-Ok-term_at-clause-state
returns-in-Ok-term_at-clause-state c =
    c.in-Ok.ensures.state
    ∙ ap (read_claim (map sort_type c.args.sorts.now) (claim_tree c.args.given.now)) (c.in_ok-begin_block.ensures.state c.args.store.now)

pub returns-in-Ok-term_at-clause-given : goal.returns-in-Ok-term_at-clause-given
returns-in-Ok-term_at-clause-given c =
    let types = map sort_type c.args.sorts.now in
    c.in-Ok-term_at.ensures ∙ tree_at-Holds c.read_small.new.store c.in-Ok.id _ c.in-Ok.ensures.number
    ∙ ap (λ s. read_term types s (claim_tree c.args.given.now)) (c.in_ok-begin_block.ensures.state c.args.store.now)

pub returns-in-Ok-term_at-clause-small : goal.returns-in-Ok-term_at-clause-small
returns-in-Ok-term_at-clause-small c =
    let types = map sort_type c.args.sorts.now in
    ap (λ s. is_small (read_term types s (claim_tree c.args.given.now))) (sym (c.in_ok-begin_block.ensures.state c.args.store.now)) ∙ c.in-Ok.ensures.small

pub returns-in-Ok-term_at-clause-gains : goal.returns-in-Ok-term_at-clause-gains
returns-in-Ok-term_at-clause-gains c =
    let types = map sort_type c.args.sorts.now in
    subst (λ s. GainsAmong c.args.store.now c.read_small.new.store (subtrees (read_term types s (claim_tree c.args.given.now))))
    (c.in_ok-begin_block.ensures.state c.args.store.now) c.in-Ok.ensures.gains

pub returns-in-Ok-term_at-clause-symbol : goal.returns-in-Ok-term_at-clause-symbol
returns-in-Ok-term_at-clause-symbol c = c.in_ok-symbol.ensures c.args.store.now
