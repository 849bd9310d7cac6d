use Rattle.std.proofs.Common.{◌≡◌, ℕ, ◌<◌, false, get_or}
use Rattle.leg_rules.specs.LegNames.{same_name}
use Rattle.leg_items.specs.declared.name.Name.{Name}
use Rattle.leg_items.specs.Names.{leg_name}
use Rattle.leg_numbers.proofs.numbers.number_of_name.Given as goal

abbrev pub invariant-loop-place : goal.invariant-loop-place
invariant-loop-place l = (k : ℕ) (d : Name) → k < l.place → same_name (leg_name l.name) (leg_name (get_or l.names k d)) ≡ false
