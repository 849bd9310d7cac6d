use Rattle.std.proofs.Common.{◌≡◌, true, refl, sym, ap, ◌∙◌, nat_eq, nat_le}
use Rattle.slang_grammar.specs.declared.operator.Side.TheVariants.{Left, Right}
use Rattle.slang_grammar.specs.Operators.{prefix_level, whole_level}
use Rattle.slang_grammar.specs.Expressions.{level}
use Rattle.print_expressions.specs.Hefts.{one, around, followed, binary_heft, heft, stays}
use Rattle.print_expressions.specs.Accounts.{is_operand, as_operand, left_stays, left_operand, right_stays, right_operand, head_stays, first_stays}
use Rattle.expression_standing.specs.Hefts.{IsCapped}
use Rattle.expression_standing.proofs.Lighter.{stays_is, placed_is}
use Rattle.expression_standing.proofs.hefts.binary.Goals as goal

pub returns : goal.returns
returns c = λ row l r ml mr cl cr.
    c.between.ensures (heft (left_operand true row l r)) (heft (right_operand true row l r))
    (placed_is c.placed-own.result c.left_stays.result (left_stays true row l r) l (c.left_stays.ensures row l r ml mr cl cr) (c.placed-own.ensures l cl))
    (placed_is c.placed-next.result c.right_stays.result (right_stays true row l r) r (c.right_stays.ensures row l r ml mr cl cr) (c.placed-next.ensures r cr))
