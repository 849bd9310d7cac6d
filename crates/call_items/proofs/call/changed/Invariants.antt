use Rattle.std.proofs.Common.{◌≡◌, map, take}
use Rattle.program_trees.specs.Variables.{global}
use Rattle.leg_rules.specs.LegNames.{own}
use Rattle.leg_items.specs.Names.{leg_name}
use Rattle.call_items.proofs.call.changed.Given as goal

abbrev pub invariant-loop-global : goal.invariant-loop-global
invariant-loop-global l = map leg_name l.names ≡ map (λ g. own (global g)) (take l.global-index l.callee.modifies)
