use Rattle.std.proofs.Common.{map, ap, ◌∙◌}
use Rattle.term_trees.specs.Term.{sort_type}
use Rattle.leg_rules.specs.Sequents.{base}
use Rattle.leg_states.specs.State.{lists_of}
use Rattle.leg_states.proofs.States.{grown_state, grown_over}
use Rattle.item_terms.proofs.Proofs.{facts_state, facts_over}
use Rattle.item_terms.proofs.proof.base_before.Goals as goal

pub returns-in-Ok-append-clause-base : goal.returns-in-Ok-append-clause-base
returns-in-Ok-append-clause-base c = λ count over.
    let s = c.args.state.now in
    c.in-Ok.ensures.base
    ∙ ap (base (map (map sort_type) c.args.records.now))
    (grown_state c.args.store.now c.base_over.new.store count s.sorts (lists_of s.versions) s.lets s.facts c.in-Ok.ensures.gains.grows over)

pub returns-in-Ok-append-clause-within : goal.returns-in-Ok-append-clause-within
returns-in-Ok-append-clause-within c = λ count over.
    let s = c.args.state.now in
    c.in-Ok.ensures.within count
    (grown_over c.args.store.now c.base_over.new.store count (lists_of s.versions) s.facts c.in-Ok.ensures.gains.grows over)

pub returns-in-Ok-append-clause-state : goal.returns-in-Ok-append-clause-state
returns-in-Ok-append-clause-state c = λ count over within.
    let s = c.args.state.now in
    facts_state c.args.store.now c.base_over.new.store count s.sorts (lists_of s.versions) s.lets s.facts c.append.new.self c.args.claims
    c.in-Ok.ensures.gains.grows over within c.in-Ok-append.ensures

pub returns-in-Ok-append-clause-over : goal.returns-in-Ok-append-clause-over
returns-in-Ok-append-clause-over c = λ count over within.
    let s = c.args.state.now in
    facts_over c.args.store.now c.base_over.new.store count (lists_of s.versions) s.facts c.append.new.self c.args.claims
    c.in-Ok.ensures.gains.grows over within c.in-Ok-append.ensures
