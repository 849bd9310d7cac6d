use Rattle.std.proofs.Common.{◌≡◌, map, take}
use Rattle.lk_claims.specs.Claim.{value_type}
use Rattle.leg_rules.specs.Numbering.{leg_name_type}
use Rattle.leg_items.specs.Names.{leg_name}
use Rattle.leg_orders.specs.Places.{method_of, program_of}
use Rattle.leg_numbers.specs.Numbered.{numbered_type}
use Rattle.leg_numbers.proofs.leg.variable_types.Given as goal

abbrev pub invariant-loop-name : goal.invariant-loop-name
invariant-loop-name l =
    map value_type l.types
    ≡ map (λ name. numbered_type l.order (leg_name_type (program_of l.typed) (method_of l.typed l.method) (leg_name name))) (take l.name-index l.order.names)
