use Rattle.std.proofs.Common.{refl, sym, ◌∙◌}
use Rattle.expression_standing.proofs.Lighter.{left_plain, right_plain, head_plain, first_plain}
use Rattle.expression_standing.proofs.choices.left_stands.Goals as goal

pub returns-else-light : goal.returns-else-light
returns-else-light c = c.stands_as_operand-may.ensures c.args.light ∙ sym (left_plain c.args.light _ _ _ c.if-light.false)
