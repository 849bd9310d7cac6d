use Rattle.std.proofs.Common.{◌≡◌, false, take}
use Rattle.std.specs.List.{list_any}
use Rattle.leg_rules.specs.LegNames.{same_name}
use Rattle.leg_items.specs.Names.{leg_name}
use Rattle.leg_mentions.proofs.drafts.is_among.Given as goal

abbrev pub invariant-loop-other : goal.invariant-loop-other
invariant-loop-other l = list_any (λ other. same_name (leg_name l.name) (leg_name other)) (take l.other-index l.names) ≡ false
