use Rattle.std.proofs.Common.{◌≡◌, ◌+◌, ◌*◌, take}
use Rattle.std.specs.List.{flat_map}
use Rattle.lk_programs.specs.Program.{field_types}
use Rattle.leg_orders.specs.Places.{program_of}
use Rattle.leg_orders.specs.Orders.{with_all_new}
use Rattle.leg_orders.specs.Closed.{records_of}
use Rattle.leg_orders.proofs.records.+records.Given as goal

abbrev pub decreases-add_record : goal.decreases-add_record
decreases-add_record l = 4 * l.depth

abbrev pub decreases-add_parts : goal.decreases-add_parts
decreases-add_parts l = 4 * l.depth + 3

abbrev pub decreases-add_fields : goal.decreases-add_fields
decreases-add_fields l = 4 * l.depth + 2

abbrev pub decreases-add_type_within : goal.decreases-add_type_within
decreases-add_type_within l = 4 * l.depth + 1

abbrev pub invariant-add_fields-loop-field : goal.invariant-add_fields-loop-field
invariant-add_fields-loop-field l =
    l.order ≡ with_all_new l.fn.order (flat_map (records_of (program_of l.typed) l.depth) (field_types (take l.field-index l.parts)))
