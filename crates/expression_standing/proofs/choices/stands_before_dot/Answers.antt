use Rattle.std.proofs.Common.{refl, sym, ◌∙◌}
use Rattle.expression_standing.proofs.Lighter.{left_plain, right_plain, head_plain, first_plain}
use Rattle.expression_standing.proofs.choices.stands_before_dot.Goals as goal

pub returns-else-light : goal.returns-else-light
returns-else-light c = c.stands_as_head-may.ensures c.args.light ∙ sym (head_plain c.args.light _ _ c.if-light.false)
