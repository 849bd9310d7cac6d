use Rattle.std.proofs.Common.{◌<◌, map, length, get_or, subst, arith, ◌∙◌}
use Rattle.slang_values.specs.Value.{unit_type}
use Rattle.slang_values.specs.Tree.{name}
use Rattle.term_trees.specs.Term.{sort_type}
use Rattle.term_store.specs.Store.{Holds}
use Rattle.term_store.proofs.Stores.{Holds-within}
use Rattle.leg_states.specs.State.{lists_of}
use Rattle.leg_states.proofs.States.{symbol_state, put_over}
use Rattle.leg_states.proofs.Names.{sort_at}
use Rattle.leg_states.proofs.state.LegState.take_symbol.Goals as goal

pub returns-clause-state : goal.returns-clause-state
returns-clause-state c =
    let self = c.args.self.now in
    let new = c.add_symbol.new.store in
    let within : c.args.x < length (lists_of self.versions) = omega (arith, c.requires.variable, c.requires.over.versions.variables) in
    let held = subst (λ n. Holds new c.in_ok-id.id (name n)) (c.in_ok-symbol.ensures.1 ∙ c.len.ensures) c.in_ok-id.ensures.number in
    symbol_state c.args.store.now new (length c.args.sorts.now) self.sorts c.push.new.self (lists_of self.versions) (lists_of c.put_number.new.versions)
    self.lets self.facts c.in_ok-copy.field-0 (get_or (map sort_type c.args.sorts.now) c.args.x unit_type) c.args.x c.args.k c.in_ok-id.id
    c.in_ok-id.ensures.gains.grows c.requires.over within c.requires.version
    (sort_at c.args.sorts.now c.args.x c.index-sorts-x.result c.in_ok-copy.field-0 c.in_ok-copy.ensures c.index-sorts-x.is c.requires.variable)
    held c.in_ok-push.ensures.ok c.put_number.ensures

pub returns-clause-over : goal.returns-clause-over
returns-clause-over c =
    let self = c.args.self.now in
    let new = c.add_symbol.new.store in
    let within : c.args.x < length (lists_of self.versions) = omega (arith, c.requires.variable, c.requires.over.versions.variables) in
    put_over c.args.store.now new (length c.args.sorts.now) (lists_of self.versions) (lists_of c.put_number.new.versions) self.facts c.args.x c.args.k
    c.in_ok-id.id c.in_ok-id.ensures.gains.grows c.requires.over within c.requires.version
    (Holds-within new c.in_ok-id.id (name c.in_ok-symbol.symbol) c.in_ok-id.ensures.number) c.put_number.ensures
