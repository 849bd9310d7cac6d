-- Claims and items over the numbers that an order gives.
use Rattle.std.specs.Prelude.{ℕ, nat_eq, map}
use Rattle.slang_values.specs.Value.{ValueType}
use Rattle.program_trees.specs.Claims.{ClaimTree, ProofStepTree, renamed_claim, renamed_step}
use Rattle.program_trees.specs.Legs.{ItemTree, renamed_item}
use Rattle.leg_rules.specs.LegNames.{LegName, same_name}
use Rattle.leg_rules.specs.Numbering.{number_in, renumbered, renumbered_item, renumbered_step, renumbered_type}
use Rattle.leg_items.specs.Names.{leg_name}
use Rattle.leg_orders.specs.declared.order.Order.{Order}

-- the places of a variable and of a record in the order
abbrev pub name_number : Order → LegName → ℕ
name_number order x = number_in same_name (map leg_name order.names) x

abbrev pub record_number : Order → ℕ → ℕ
record_number order n = number_in nat_eq order.records n

abbrev pub numbered_type : Order → ValueType → ValueType
numbered_type order t = renumbered_type (record_number order) t

abbrev pub numbered_claim : Order → ClaimTree LegName → ClaimTree ℕ
numbered_claim order t = renumbered (record_number order) (renamed_claim (name_number order) t)

abbrev pub numbered_step : Order → ProofStepTree LegName → ProofStepTree ℕ
numbered_step order step = renumbered_step (record_number order) (renamed_step (name_number order) step)

abbrev pub numbered_item : Order → ItemTree LegName → ItemTree ℕ
numbered_item order item = renumbered_item (record_number order) (renamed_item (name_number order) item)
