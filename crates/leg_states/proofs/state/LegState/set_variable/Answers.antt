use Rattle.std.proofs.lemmas.Result.{on_ok_weaker}
use Rattle.leg_states.specs.State.{lists_of}
use Rattle.leg_states.proofs.States.{set_state, set_over}
use Rattle.leg_states.proofs.state.LegState.set_variable.Goals as goal

pub returns-clause-state : goal.returns-clause-state
returns-clause-state c =
    let self = c.args.self.now in
    on_ok_weaker c.push_version.result
    (λ e store. set_state store self.sorts (lists_of self.versions) (lists_of c.push_version.new.versions) self.lets self.facts c.args.x c.args.id
    c.requires.variable c.requires.present e)
    c.push_version.ensures

pub returns-clause-over : goal.returns-clause-over
returns-clause-over c =
    let self = c.args.self.now in
    on_ok_weaker c.push_version.result
    (λ e count store h here. set_over count store (lists_of self.versions) (lists_of c.push_version.new.versions) self.facts c.args.x c.args.id
    c.requires.variable c.requires.present e h here)
    c.push_version.ensures
