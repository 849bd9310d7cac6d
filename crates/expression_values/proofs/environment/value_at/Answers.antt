use Rattle.std.proofs.Common.{◌∙◌}
use Rattle.run_values.proofs.Values.{plain_value-Unit}
use Rattle.expression_values.proofs.Places.{value_past}
use Rattle.expression_values.proofs.environment.value_at.Goals as goal

-- the place is past the end
pub returns-in-None : goal.returns-in-None
returns-in-None c = plain_value-Unit ∙ value_past c.args.values.now c.args.place c.in-None.ensures.lookup.3
