use Rattle.std.proofs.Common.{map, take}
use Rattle.leg_rules.specs.Numbering.{of_variable}
use Rattle.leg_items.specs.Names.{leg_name}
use Rattle.leg_orders.specs.Walks.{Follows}
use Rattle.leg_orders.proofs.order.add_names.Given as goal

abbrev pub invariant-loop-name : goal.invariant-loop-name
invariant-loop-name l = Follows l.typed l.method l.fn.order l.order (map of_variable (map leg_name (take l.name-index l.names)))
