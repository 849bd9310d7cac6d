use Rattle.std.proofs.Common.{◌≡◌, map, take}
use Rattle.leg_items.specs.Names.{leg_name}
use Rattle.leg_numbers.specs.Numbered.{name_number}
use Rattle.leg_numbers.proofs.numbers.names_numbered.Given as goal

abbrev pub invariant-loop-name : goal.invariant-loop-name
invariant-loop-name l = l.numbers ≡ map (name_number l.order) (map leg_name (take l.name-index l.names))
