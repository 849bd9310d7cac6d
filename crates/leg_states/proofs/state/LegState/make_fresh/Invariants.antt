use Rattle.std.proofs.Common.{◌≡◌, ◌+◌, map, take, length}
use Rattle.std.specs.List.{fold}
use Rattle.term_trees.specs.Term.{sort_type}
use Rattle.term_store.specs.Store.{GainsAmong}
use Rattle.leg_rules.specs.Store.{take_symbol}
use Rattle.leg_states.specs.State.{state_of, IsOver, with_versions_of, taken_by_each}
use Rattle.leg_states.proofs.state.LegState.make_fresh.Given as goal

abbrev pub invariant-loop-x : goal.invariant-loop-x
invariant-loop-x l = record {
  state : state_of l.store l.self
      ≡ fold (take_symbol (map sort_type l.sorts)) (with_versions_of l.xs (state_of l.fn.store l.fn.self)) (take l.x-index l.xs);
  over : IsOver (length l.sorts) l.store l.self;
  count : length l.self.sorts ≡ length l.fn.self.sorts + l.x-index;
  gains : GainsAmong l.fn.store l.store (taken_by_each l.xs (length l.fn.self.sorts));
}
