use Rattle.std.proofs.Common.{◌∙◌}
use Rattle.leg_states.specs.State.{lists_of}
use Rattle.leg_states.proofs.Names.{begun_state}
use Rattle.leg_states.proofs.state.LegState.begin_block.Goals as goal

pub returns-in_ok-insert-clause-state : goal.returns-in_ok-insert-clause-state
returns-in_ok-insert-clause-state c = λ store.
    let self = c.args.self.now in
    begun_state store c.args.has_symbol c.args.label c.in_ok-symbol.symbol self.sorts c.push.new.self (lists_of self.versions) self.lets c.insert.new.self self.facts
    c.if-has_symbol.true (c.in_ok-symbol.ensures.1 ∙ c.len.ensures) c.in_ok-push.ensures.ok c.in_ok-insert.ensures.updates.0
