use Rattle.std.proofs.Common.{ap, ◌∙◌}
use Rattle.lk_claims.proofs.Types.{value_type-Unit}
use Rattle.leg_numbers.specs.Numbered.{numbered_type}
use Rattle.leg_numbers.proofs.leg.name_type.Goals as goal

pub returns-in-None : goal.returns-in-None
returns-in-None c = value_type-Unit ∙ ap (numbered_type c.args.order.now) c.in-None.ensures
