use Rattle.std.proofs.Common.{◌≡◌, take}
use Rattle.std.specs.Ordering.{nat_cmp}
use Rattle.std.specs.BTreeSet.{contains}
use Rattle.leg_states.specs.State.{lists_of}
use Rattle.leg_states.proofs.Begun.{HasBegun}
use Rattle.leg_states.proofs.state.LegState.begin_versions.Given as goal

abbrev pub invariant-loop-x : goal.invariant-loop-x
invariant-loop-x l = record {
  begun : HasBegun l.count (take l.x-index l.xs) (lists_of l.fn.self.versions) (lists_of l.self.versions) (contains nat_cmp l.seen);
  sorts : l.self.sorts ≡ l.fn.self.sorts;
  lets : l.self.lets ≡ l.fn.self.lets;
  facts : l.self.facts ≡ l.fn.self.facts;
}
