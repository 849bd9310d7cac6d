use Rattle.std.proofs.Common.{◌≡◌, ◌++◌, take}
use Rattle.leg_items.specs.Drafts.{items_of}
use Rattle.leg_paths.specs.Initial.{all_fixed}
use Rattle.leg_paths.proofs.initial.add_all_fixed.Given as goal

abbrev pub invariant-loop-place : goal.invariant-loop-place
invariant-loop-place l = items_of l.out ≡ items_of l.fn.out ++ all_fixed l.scope l.node.0 (items_of l.drafts) 0 (take l.place l.globals)
