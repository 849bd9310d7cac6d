use Rattle.std.proofs.Common.{◌≡◌, map, take}
use Rattle.leg_rules.specs.LegNames.{own}
use Rattle.leg_items.specs.Names.{kind_of, leg_name}
use Rattle.leg_paths.proofs.statements.own_names.Given as goal

abbrev pub invariant-loop-number : goal.invariant-loop-number
invariant-loop-number l = map leg_name l.names ≡ map own (map (kind_of l.scope) (take l.number-index l.numbers))
