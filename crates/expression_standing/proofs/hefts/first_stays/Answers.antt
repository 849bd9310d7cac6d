use Rattle.std.proofs.Common.{◌≡◌, true, refl, sym, ap, ◌∙◌, nat_eq, nat_le}
use Rattle.slang_grammar.specs.declared.operator.Side.TheVariants.{Left, Right}
use Rattle.slang_grammar.specs.Operators.{prefix_level, whole_level}
use Rattle.slang_grammar.specs.Expressions.{level}
use Rattle.print_expressions.specs.Hefts.{one, around, followed, binary_heft, heft, stays}
use Rattle.print_expressions.specs.Accounts.{is_operand, as_operand, left_stays, left_operand, right_stays, right_operand, head_stays, first_stays}
use Rattle.expression_standing.specs.Hefts.{IsCapped}
use Rattle.expression_standing.proofs.Lighter.{stays_is, placed_is}
use Rattle.expression_standing.proofs.hefts.first_stays.Goals as goal

pub returns : goal.returns
unfolding first_stays
returns c = λ text behind co cn.
    c.stays.ensures
    ∙ stays_is true true c.followed.result c.followed-2.result (followed (heft text) (heft behind))
    (followed (around (heft text).peak) (heft behind)) refl (c.followed.ensures (heft text) (heft behind) co cn)
    (c.followed-2.ensures (around (heft text).peak) (heft behind) (c.around.ensures (heft text).peak co.peak) cn)
