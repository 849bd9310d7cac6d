use Rattle.std.proofs.Common.{map, length, get_or, [], ap, sym, subst, ◌∙◌}
use Rattle.term_trees.specs.Term.{sort_type}
use Rattle.term_store.specs.Store.{GainsAmong, subtrees}
use Rattle.leg_rules.specs.Store.{read_name, term_of_name}
use Rattle.claim_parts.specs.Names.{claim_name}
use Rattle.leg_states.specs.State.{lists_of, state_of}
use Rattle.leg_states.proofs.States.{grown_state, grown_over}
use Rattle.leg_states.proofs.Names.{always, old_term, before_last}
use Rattle.leg_states.proofs.state.LegState.read_name.Goals as goal

pub returns-in-OldVariable-clause-gains : goal.returns-in-OldVariable-clause-gains
returns-in-OldVariable-clause-gains c =
    let types = map sort_type c.args.sorts.now in
    let old = state_of c.args.store.now c.args.self.now in
    let x = c.in-OldVariable.x in
    let k = c.saturating_sub.result in
    let is = ap (λ n. term_of_name (read_name types old n) n) (ap claim_name c.in-OldVariable.is)
    ∙ old_term types old x k (before_last (length (get_or (lists_of c.args.self.now.versions) x [])) c.last_version-last-in-OldVariable.result k
    c.last_version-last-in-OldVariable.ensures c.saturating_sub.ensures) in
    subst (λ t. GainsAmong c.args.store.now c.read_version-in-OldVariable.new.store (subtrees t)) (sym is) c.read_version-in-OldVariable.ensures.gains

pub returns-in-LetSymbol-clause-state : goal.returns-in-LetSymbol-clause-state
returns-in-LetSymbol-clause-state c =
    let self = c.args.self.now in
    let types = map sort_type c.args.sorts.now in
    always c.add_symbol.result
    (grown_state c.args.store.now c.add_symbol.new.store (length c.args.sorts.now) self.sorts (lists_of self.versions) self.lets self.facts
    c.add_symbol.ensures.gains.grows c.requires.over
    ∙ sym (ap (read_name types (state_of c.args.store.now self)) (ap claim_name c.in-LetSymbol.is)))

pub returns-in-LetSymbol-clause-over : goal.returns-in-LetSymbol-clause-over
returns-in-LetSymbol-clause-over c =
    let self = c.args.self.now in
    always c.add_symbol.result
    (grown_over c.args.store.now c.add_symbol.new.store (length c.args.sorts.now) (lists_of self.versions) self.facts c.add_symbol.ensures.gains.grows
    c.requires.over)
