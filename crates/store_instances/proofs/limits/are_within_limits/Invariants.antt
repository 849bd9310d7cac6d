use Rattle.std.proofs.Common.{◌≡◌, map, take, true}
use Rattle.std.specs.List.{list_all}
use Rattle.instance_rules.specs.Instances.{is_within_limits}
use Rattle.term_store.specs.Store.{tree_at}
use Rattle.store_instances.proofs.limits.are_within_limits.Given as goal

abbrev pub invariant-loop-place : goal.invariant-loop-place
invariant-loop-place l = list_all is_within_limits (map (tree_at l.store) (take l.place l.ids)) ≡ true
