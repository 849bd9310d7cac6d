use Rattle.std.proofs.Common.{◌≡◌, true, refl, sym, ap, ◌∙◌, nat_eq, nat_le}
use Rattle.slang_grammar.specs.declared.operator.Side.TheVariants.{Left, Right}
use Rattle.slang_grammar.specs.Operators.{prefix_level, whole_level}
use Rattle.slang_grammar.specs.Expressions.{level}
use Rattle.print_expressions.specs.Hefts.{one, around, followed, binary_heft, heft, stays}
use Rattle.print_expressions.specs.Accounts.{is_operand, as_operand, left_stays, left_operand, right_stays, right_operand, head_stays, first_stays}
use Rattle.expression_standing.specs.Hefts.{IsCapped}
use Rattle.expression_standing.proofs.Lighter.{stays_is, placed_is}
use Rattle.expression_standing.proofs.hefts.between.Goals as goal

pub returns : goal.returns
returns c = λ x y p q. c.followed-2.ensures x (followed one y) p (c.followed.ensures one y c.one.ensures q)
